-- What a processor that copies baggage to spans does.
use Rattle.std.specs.Prelude.{◌≡◌, ◌⊎◌, ℕ, List, [], ◌∷◌, map, filter, Bool, true, false}
use Rattle.std.specs.Prelude.{Option, Some, None, unwrap_or, Ok, if◌then◌else◌, codes, refl}
use Rattle.std.specs.List.{list_any}
use Rattle.std.specs.Str.{bytes_eq}
use Rattle.otel_base.specs.KeyValue.{Attribute}
use Rattle.otel_base.specs.Value.{text}
use Rattle.otel_context.specs.BaggageMember.{Member, member_of}
use Rattle.otel_context.specs.Context.{ContextRecord}
use Rattle.otel_sdk_base.specs.Losses as losses
use Rattle.otel_sdk_base.specs.Queue.{one_more}
use Rattle.otel_sdk_span.specs.Span.{SpanState, after_attribute, is_recording}
use Rattle.otel_sdk.specs.Processor.{ProcessorCalls}

-- the keys whose members are copied, `None` for all, and how many members were missed: not copied
-- because memory ran out
pub record BaggageCopies : Type 0 where
  pub keys : Option (List (List ℕ))
  pub missed : ℕ

-- whether a member with this key is copied
abbrev pub chooses : Option (List (List ℕ)) → List ℕ → Bool
chooses None key = true
chooses (Some keys) key = list_any (λ k. bytes_eq k key) keys

-- the attribute with the key and the value of the member, without its metadata
abbrev pub attribute_of : Member → Attribute
attribute_of m = (m.key, text m.value)

-- the attributes of the chosen members, in the order of the members
abbrev pub attributes_of : Option (List (List ℕ)) → List Member → List Attribute
attributes_of keys members = map attribute_of (filter (λ m. chooses keys m.key) members)

-- the attributes that a span gets that begins under this context: none if it doesn't record
abbrev pub copied : Option (List (List ℕ)) → ContextRecord → SpanState → List Attribute
copied keys parent span =
    if is_recording span then attributes_of keys (unwrap_or parent.baggage []) else []

-- Each attribute is set in order, as by `set_attribute` of the span, or missed and counted.
abbrev pub SetsOrCounts : List Attribute → SpanState → ℕ → SpanState → ℕ → Type 0
SetsOrCounts [] span missed begun count = (begun ≡ span) × (count ≡ missed)
SetsOrCounts (a ∷ more) span missed begun count =
    SetsOrCounts more (after_attribute span a) missed begun count
    ⊎ SetsOrCounts more span (one_more missed) begun count

-- a processor that copies members of the parent's baggage to each span that begins, and keeps no
-- span
abbrev pub baggage_calls : ProcessorCalls BaggageCopies
baggage_calls = record {
  starts = λ old parent span new begun. (new.keys ≡ old.keys)
      × SetsOrCounts (copied old.keys parent span) span old.missed begun new.missed;
  ends = λ old _ new. new ≡ old;
  loses = λ old _ new. new ≡ old;
  flushes = λ old answer new. (answer ≡ Ok tt) × (new ≡ old);
  shuts_down = λ old answer new. (answer ≡ Ok tt) × (new ≡ old);
  takes_resource = λ old _ new. new ≡ old;
  keeps_ended = λ _. false;
  is_shut_down = λ _. true;
  IsEmpty = λ _. Unit {0};
  dropped = λ _. 0;
  queued = λ _. 0;
  losses = λ _. losses.none;
  last_message = λ _. None;
  AccountsFor = λ _ _. Unit {0};
}

-- ---- worked rows
abbrev members : List Member
members = member_of (codes "tenant") (codes "acme") (codes "ttl=30")
    ∷ member_of (codes "region") (codes "eu west") []
    ∷ member_of (codes "tier") (codes "gold") [] ∷ []

chosen_example : attributes_of (Some (codes "tier" ∷ codes "user" ∷ codes "tenant" ∷ [])) members
    ≡ (codes "tenant", text (codes "acme")) ∷ (codes "tier", text (codes "gold")) ∷ []
chosen_example = refl

all_example : attributes_of None members ≡ (codes "tenant", text (codes "acme"))
    ∷ (codes "region", text (codes "eu west")) ∷ (codes "tier", text (codes "gold")) ∷ []
all_example = refl

twice_example : attributes_of (Some (codes "tier" ∷ codes "tier" ∷ [])) members
    ≡ (codes "tier", text (codes "gold")) ∷ []
twice_example = refl

none_example : attributes_of (Some []) members ≡ []
none_example = refl
