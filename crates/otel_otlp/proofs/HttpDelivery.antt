-- How the parts that wait are delivered, and the place of each record.
use Rattle.std.proofs.Common.{◌≡◌, ℕ, ◌+◌, min, true, Option, Some, None, List, [], ◌∷◌, ◌++◌, length, Result, Ok, Err, OnErr, refl, sym, ap, ◌∙◌, subst, append_assoc, append-nil, inl, inr, arith}
use Rattle.std.proofs.lemmas.Grind.{flat_map-append, common_steps}
use Rattle.std.proofs.lemmas.List.Sums.{sum_by-append}
use Rattle.std.specs.Bool.{⊤}
use Rattle.std.specs.List.{flat_map, sum_by}
use Rattle.std.specs.Result.{IsErrAnd, result_unwrap_or}
use Rattle.opentelemetry.specs.Clock.{within_u64}
use Rattle.otel_sdk_base.specs.Export.{items_of}
use Rattle.otel_sdk_base.specs.declared.error.OTelSdkError.{OTelSdkError}
use Rattle.otel_otlp.proofs.HttpParts.{parts_items}
use Rattle.otel_otlp.specs.Groups.{BatchForm}
use Rattle.otel_otlp.specs.HttpClient.{Sent, Answer}
use Rattle.otel_otlp.specs.HttpExporter.{Sending, IsAccounted, Ends, Leaves, Stays, Delivers, Tries, Accepts, handed_in, at, leaves, stays, all_left}
use Rattle.otel_otlp.specs.HttpPart.{PartOf, LeftOf, leave, ArePartsOf, given_up_by, rejected_by, count_given_up, count_rejected}
use Rattle.otel_otlp.specs.HttpTally.{TallyOf, after_taken, rejected_in}
use Rattle.otel_otlp.specs.declared.otlp_http.response.Partial.{Partial}
use Rattle.otel_otlp.specs.declared.otlp_http.fate.Fate.{Fate}
use Rattle.otel_otlp.specs.declared.otlp_http.fate.Fate.TheVariants as fate
use Rattle.otel_otlp.specs.declared.otlp_http.outbox.End.{End}
use Rattle.otel_otlp.specs.declared.otlp_http.outbox.End.TheVariants.{Taken, GivenUp}

-- a list of no items
pub length-zero : {X : Type 0} (xs : List X) → length xs ≡ 0 → xs ≡ []
length-zero [] e = refl
length-zero (x ∷ xs) e = absurd (omega (arith, e))

-- the error that a `?` hands on
pub is_error : {T E : Type 0} (r : Result T E) (e : E) → IsErrAnd r (λ y. y ≡ e) → r ≡ Err e
is_error (Ok x) e h = absurd h
is_error (Err y) e h = ap Err h

-- what holds anyway holds after an error
pub on_err : {T E : Type 0} (r : Result T E) (P : Type 0) → P → OnErr r P
on_err (Ok x) P p = tt
on_err (Err e) P p = p

-- an error is no success
pub err-ok : {T E : Type 0} (e : E) (x : T) → Err e ≡ Ok x → ⊥
err-ok e x p = subst (λ r. IsErrAnd r (λ _. ⊤)) p tt

-- one bound is enough
pub within_once : (a b : ℕ) → within_u64 (within_u64 a + b) ≡ within_u64 (a + b)
within_once a b = grind (arith, common_steps)

pub sum-one : {X : Type 0} (f : X → ℕ) (x : X) → sum_by f (x ∷ []) ≡ f x
sum-one f x = omega arith

-- one more part is counted
pub counts : {X : Type 0} (f : X → ℕ) (xs : List X) (x : X) (old new : ℕ) → old ≡ within_u64 (sum_by f xs) → new ≡ within_u64 (old + f x) → new ≡ within_u64 (sum_by f (xs ++ x ∷ []))
counts f xs x old new before now =
    now ∙ ap (λ n. within_u64 (n + f x)) before ∙ within_once (sum_by f xs) (f x)
    ∙ ap (λ n. within_u64 (sum_by f xs + n)) (sym (sum-one f x))
    ∙ ap within_u64 (sym (sum_by-append f xs (x ∷ [])))

-- a count that stays is within the bound, with nothing added
pub counts_none : (old : ℕ) (n : ℕ) → old ≡ within_u64 n → old ≡ within_u64 (old + 0)
counts_none old n e = grind (arith, common_steps, e)

-- what a response counts
pub taken_given_up : (count : ℕ) (partial : Option Partial) (t : TallyOf) → (after_taken count partial t).given_up ≡ t.given_up
taken_given_up count None t = refl
taken_given_up count (Some p) t = refl

none-of : (count : ℕ) → min 0 count ≡ 0
none-of count = grind arith

pub taken_rejected : (count : ℕ) (partial : Option Partial) (t : TallyOf) (n : ℕ) → t.rejected ≡ within_u64 n
    → (after_taken count partial t).rejected ≡ within_u64 (t.rejected + min (rejected_in partial) count)
taken_rejected count None t n e =
    counts_none t.rejected n e ∙ ap (λ k. within_u64 (t.rejected + k)) (sym (none-of count))
taken_rejected count (Some p) t n e = refl

module _ {C R : Type 0} where
  -- The part that was first has left, and is counted. The accepted batches are the same.
  pub record HasLeft (old new : Sending C R) : Type 0 where
    pub part : PartOf R
    pub end : End
    pub first : old.outbox.waiting ≡ part ∷ new.outbox.waiting
    pub outbox : new.outbox ≡ leave end part old.outbox
    pub accepted : new.accepted ≡ old.accepted
    pub closed : new.is_shut_down ≡ old.is_shut_down
    pub given_up : IsAccounted old → new.tally.given_up ≡ within_u64 (old.tally.given_up + given_up_by end (length part.items))
    pub rejected : IsAccounted old → new.tally.rejected ≡ within_u64 (old.tally.rejected + rejected_by end (length part.items))

  -- each record is in the same place, or in the next one
  pub left_accounted : (old new : Sending C R) → HasLeft old new → IsAccounted old → IsAccounted new
  left_accounted old new h is =
      let f = λ (l : LeftOf R). l.items in
      let g = λ (p : PartOf R). p.items in
      let left = old.outbox.left in
      let rest = flat_map g new.outbox.waiting in
      let gone = h.part.items in
      let last : LeftOf R = record { items = gone; end = h.end } in
      let more : flat_map f new.outbox.left ≡ flat_map f left ++ gone =
      ap (λ b. flat_map f b.left) h.outbox
      ∙ flat_map-append f left (last ∷ [])
      ∙ ap (λ xs. flat_map f left ++ xs) (append-nil gone) in
      record {
        in_order =
            ap items_of h.accepted ∙ is.in_order
            ∙ ap (λ ps. flat_map f left ++ flat_map g ps) h.first
            ∙ sym (append_assoc (flat_map f left) gone rest)
            ∙ ap (λ xs. xs ++ rest) (sym more);
        given_up =
            counts (λ l. given_up_by l.end (length l.items)) left last old.tally.given_up new.tally.given_up is.given_up (h.given_up is)
            ∙ ap (λ b. within_u64 (count_given_up b.left)) (sym h.outbox);
        rejected =
            counts (λ l. rejected_by l.end (length l.items)) left last old.tally.rejected new.tally.rejected is.rejected (h.rejected is)
            ∙ ap (λ b. within_u64 (count_rejected b.left)) (sym h.outbox);
      }

  -- no record changes its place when the exporter is shut down
  pub closed_accounted : (s : Sending C R) → IsAccounted s → IsAccounted (record s { is_shut_down = true })
  closed_accounted s is = record { in_order = is.in_order; given_up = is.given_up; rejected = is.rejected }

  -- the records of a new batch wait
  pub handed_accounted : (form : BatchForm R) (batch : List R) (parts : List (PartOf R)) (s : Sending C R) → ArePartsOf form s.resource s.max_body batch parts → s.outbox.waiting ≡ [] → IsAccounted s → IsAccounted (handed_in batch parts s)
  handed_accounted form batch parts s are none is =
      let f = λ (l : LeftOf R). l.items in
      let g = λ (p : PartOf R). p.items in
      let left = s.outbox.left in
      record {
        in_order = flat_map-append (λ (b : List R). b) s.accepted (batch ∷ [])
            ∙ ap (λ xs. items_of s.accepted ++ xs) (append-nil batch)
            ∙ ap (λ xs. xs ++ batch) (is.in_order ∙ ap (λ ps. flat_map f left ++ flat_map g ps) none ∙ append-nil (flat_map f left))
            ∙ ap (λ xs. flat_map f left ++ xs) (sym (parts_items form s.resource s.max_body batch parts are));
        given_up = is.given_up;
        rejected = is.rejected;
      }

module _ {C R : Type 0} (sent : C → List Sent) (answers : C → Sent → Answer → C → Type 0) (shows : List ℕ → Option Answer → ℕ → Type 0) (name : List ℕ) where
  -- a part that leaves after an answer
  pub end_left : (f : Fate) (part : PartOf R) (now : ℕ) (client : C) (old new : Sending C R) → old.outbox.waiting ≡ part ∷ new.outbox.waiting → Ends part f (at now (record old { client = client })) new → HasLeft old new
  end_left (fate.Taken told) part now client old new first e = record {
    part = part;
    end = Taken (rejected_in (result_unwrap_or told None));
    first = first;
    outbox = ap (λ s. s.outbox) e;
    accepted = ap (λ s. s.accepted) e;
    closed = ap (λ s. s.is_shut_down) e;
    given_up = λ is. ap (λ s. s.tally.given_up) e ∙ taken_given_up (length part.items) (result_unwrap_or told None) old.tally ∙ counts_none old.tally.given_up (count_given_up old.outbox.left) is.given_up;
    rejected = λ is. ap (λ s. s.tally.rejected) e ∙ taken_rejected (length part.items) (result_unwrap_or told None) old.tally (count_rejected old.outbox.left) is.rejected;
  }
  end_left (fate.GivenUp message) part now client old new first e = record {
    part = part;
    end = GivenUp;
    first = first;
    outbox = ap (λ s. s.outbox) e;
    accepted = ap (λ s. s.accepted) e;
    closed = ap (λ s. s.is_shut_down) e;
    given_up = λ is. ap (λ s. s.tally.given_up) e;
    rejected = λ is. ap (λ s. s.tally.rejected) e ∙ counts_none old.tally.rejected (count_rejected old.outbox.left) is.rejected;
  }
  end_left (fate.Stays refusal) part now client old new first e = absurd e

  -- a part that leaves
  pub has_left : (old new : Sending C R) → Leaves sent answers shows name old new → HasLeft old new
  has_left old new l =
      elim l.why [
        | inl long ↦ record {
          part = l.part;
          end = GivenUp;
          first = l.first;
          outbox = ap (λ s. s.outbox) long.1;
          accepted = ap (λ s. s.accepted) long.1;
          closed = ap (λ s. s.is_shut_down) long.1;
          given_up = λ is. ap (λ s. s.tally.given_up) long.1;
          rejected = λ is. ap (λ s. s.tally.rejected) long.1 ∙ counts_none old.tally.rejected (count_rejected old.outbox.left) is.rejected;
        }
        | inr final ↦ end_left final.meaning l.part final.now new.client old new l.first final.ends
      ]

  -- what stays the same, and the place of each record, while the parts are delivered
  pub record Keeps (old new : Sending C R) : Type 0 where
    pub accepted : new.accepted ≡ old.accepted
    pub closed : new.is_shut_down ≡ old.is_shut_down
    pub accounted : IsAccounted old → IsAccounted new

  -- in one step
  pub step_keeps : (old mid new : Sending C R) → HasLeft old mid → Keeps mid new → Keeps old new
  step_keeps old mid new left then = record {
    accepted = then.accepted ∙ left.accepted;
    closed = then.closed ∙ left.closed;
    accounted = λ is. then.accounted (left_accounted old mid left is);
  }

  -- a state with the same batches and the same parts
  pub same_keeps : (old new : Sending C R) → new.accepted ≡ old.accepted → new.outbox ≡ old.outbox → new.is_shut_down ≡ old.is_shut_down → new.tally ≡ old.tally → Keeps old new
  same_keeps old new a o s t = record {
    accepted = a;
    closed = s;
    accounted = λ is. record {
      in_order = ap items_of a ∙ is.in_order ∙ ap (λ b. flat_map (λ l. l.items) b.left ++ flat_map (λ p. p.items) b.waiting) (sym o);
      given_up = ap (λ y. y.given_up) t ∙ is.given_up ∙ ap (λ b. within_u64 (count_given_up b.left)) (sym o);
      rejected = ap (λ y. y.rejected) t ∙ is.rejected ∙ ap (λ b. within_u64 (count_rejected b.left)) (sym o);
    };
  }

  pub delivers_keeps : (old : Sending C R) (result : Result ⊤ OTelSdkError) (new : Sending C R) → Delivers sent answers shows name old result new → Keeps old new
  delivers_keeps old result new (all_left s e) = same_keeps s s refl refl refl refl
  delivers_keeps old result new (leaves s mid t r left d) = step_keeps s mid t (has_left s mid left) (delivers_keeps mid r t d)
  delivers_keeps old result new (stays s t why stay) = same_keeps s t (ap (λ x. x.accepted) stay.rest) (ap (λ x. x.outbox) stay.rest) (ap (λ x. x.is_shut_down) stay.rest) (ap (λ x. x.tally) stay.rest)

  pub tries_keeps : (old : Sending C R) (result : Result ⊤ OTelSdkError) (new : Sending C R) → Tries sent answers shows name old result new → Keeps old new
  tries_keeps old result new (inl none) = same_keeps old new (ap (λ x. x.accepted) none.2) (ap (λ x. x.outbox) none.2) (ap (λ x. x.is_shut_down) none.2) (ap (λ x. x.tally) none.2)
  tries_keeps old result new (inr (inl early)) = same_keeps old new (ap (λ x. x.accepted) early.same) (ap (λ x. x.outbox) early.same) (ap (λ x. x.is_shut_down) early.same) (ap (λ x. x.tally) early.same)
  tries_keeps old result new (inr (inr due)) =
      let asked = same_keeps old (at due.now old) refl refl refl refl in
      let sent = delivers_keeps (at due.now old) result new due.delivers in
      record { accepted = sent.accepted; closed = sent.closed; accounted = λ is. sent.accounted (asked.accounted is) }

  -- after a success none waits
  pub delivers_all : (old : Sending C R) (result : Result ⊤ OTelSdkError) (new : Sending C R) → result ≡ Ok tt → Delivers sent answers shows name old result new → new.outbox.waiting ≡ []
  delivers_all old result new ok (all_left s e) = e
  delivers_all old result new ok (leaves s mid t r left d) = delivers_all mid r t ok d
  delivers_all old result new ok (stays s t why stay) = absurd (err-ok why tt ok)

  -- all that is delivered from the one state on is delivered from the other on
  abbrev pub FollowsFrom : Sending C R → Sending C R → Type 0
  FollowsFrom start now =
      (result : Result ⊤ OTelSdkError) (new : Sending C R)
      → Delivers sent answers shows name now result new → Delivers sent answers shows name start result new

  -- one more part has left
  pub goes_on : (start now next : Sending C R) → FollowsFrom start now → Leaves sent answers shows name now next → FollowsFrom start next
  goes_on start now next follows left result new d = follows result new (leaves now next new result left d)

  -- a part stays
  pub stops : (start now new : Sending C R) (why : OTelSdkError) (result : Result ⊤ OTelSdkError) → FollowsFrom start now → Stays sent answers shows name now why new → result ≡ Err why → Delivers sent answers shows name start result new
  stops start now new why result follows stay e = follows result new (subst (λ r. Delivers sent answers shows name now r new) (sym e) (stays now new why stay))

  -- none waits
  pub ends : (start now : Sending C R) → FollowsFrom start now → length now.outbox.waiting ≡ 0 → Delivers sent answers shows name start (Ok tt) now
  ends start now follows e = follows (Ok tt) now (all_left now (length-zero now.outbox.waiting e))

  -- after a success none waits
  pub tries_all : (old : Sending C R) (result : Result ⊤ OTelSdkError) (new : Sending C R) → result ≡ Ok tt → Tries sent answers shows name old result new → new.outbox.waiting ≡ []
  tries_all old result new ok (inl none) = ap (λ x. x.outbox.waiting) none.2 ∙ none.0
  tries_all old result new ok (inr (inl early)) = absurd (err-ok early.why tt (sym early.refused ∙ ok))
  tries_all old result new ok (inr (inr due)) = delivers_all (at due.now old) result new ok due.delivers

  -- ---- calls
  pub accepts : (form : BatchForm R) (batch : List R) (old mid next new : Sending C R) (parts : List (PartOf R)) (outcome : Result ⊤ OTelSdkError) → Tries sent answers shows name old (Ok tt) mid → ArePartsOf form mid.resource mid.max_body batch parts → next ≡ handed_in batch parts mid → Tries sent answers shows name next outcome new → Accepts sent answers shows name form batch old new
  accepts form batch old mid next new parts outcome earlier are same tried = record {
    mid = mid;
    earlier = earlier;
    parts = parts;
    are_parts = are;
    outcome = outcome;
    tried = subst (λ s. Tries sent answers shows name s outcome new) same tried;
  }

  pub accepts_accepted : (form : BatchForm R) (batch : List R) (old new : Sending C R) → Accepts sent answers shows name form batch old new → new.accepted ≡ old.accepted ++ batch ∷ []
  accepts_accepted form batch old new a =
      (tries_keeps (handed_in batch a.parts a.mid) a.outcome new a.tried).accepted
      ∙ ap (λ bs. bs ++ batch ∷ []) (tries_keeps old (Ok tt) a.mid a.earlier).accepted

  pub accepts_accounted : (form : BatchForm R) (batch : List R) (old new : Sending C R) → Accepts sent answers shows name form batch old new → IsAccounted old → IsAccounted new
  accepts_accounted form batch old new a is =
      (tries_keeps (handed_in batch a.parts a.mid) a.outcome new a.tried).accounted
      (handed_accounted form batch a.parts a.mid a.are_parts (tries_all old (Ok tt) a.mid refl a.earlier)
      ((tries_keeps old (Ok tt) a.mid a.earlier).accounted is))
