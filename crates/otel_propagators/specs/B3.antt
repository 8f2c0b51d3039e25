-- The pairs that the propagator of B3 sets, and the contexts that it extracts [openzipkin,
-- "b3-propagation"].
use Rattle.std.specs.Prelude.{◌≡◌, ℕ, ◌==◌, Bool, true, false, ◌&&◌, ◌||◌, List, [], ◌∷◌, ◌++◌}
use Rattle.std.specs.Prelude.{length, Option, Some, None, is_none, if◌then◌else◌, codes, refl}
use Rattle.std.specs.Char.{is_ascii_hexdigit}
use Rattle.std.specs.List.{list_all, slice_split}
use Rattle.std.specs.Option.{option_and_then, option_map_or, option_or}
use Rattle.std.specs.Str.{bytes_eq}
use Rattle.otel_base.specs.AnyValue.{Tree, integer, text as text_tree, boolean}
use Rattle.otel_base.specs.AnyValue.{bytes, list, map as map_tree}
use Rattle.otel_base.specs.Blanks.{cut_blanks}
use Rattle.otel_ids.specs.Ids.{id_text, number_of}
use Rattle.otel_ids.specs.SpanContext.{SpanContextRecord}
use Rattle.otel_ids.specs.TraceFlags.{is_sampled}
use Rattle.otel_context.specs.Context.{ContextRecord, get, span_context, with_value}
use Rattle.otel_context.specs.Context.{with_remote_span_context}
use Rattle.opentelemetry.specs.Carrier.{Pairs, TextMap, at}
use Rattle.otel_propagators.specs.TraceContext.{is_valid}
use Rattle.otel_propagators.specs.declared.b3.form.Form.{Form}
use Rattle.otel_propagators.specs.declared.b3.form.Form.TheVariants.{Single, Multi}
use Rattle.otel_propagators.specs.declared.b3.sampling.Sampling.{Sampling}
use Rattle.otel_propagators.specs.declared.b3.sampling.Sampling.TheVariants.{Denied, Accepted}
use Rattle.otel_propagators.specs.declared.b3.sampling.Sampling.TheVariants.{Debug, Deferred}

-- the name of the single header
abbrev pub b3_key : List ℕ
b3_key = codes "b3"

-- the names of the multiple headers
abbrev pub trace_id_key : List ℕ
trace_id_key = codes "x-b3-traceid"

abbrev pub span_id_key : List ℕ
span_id_key = codes "x-b3-spanid"

abbrev pub sampled_key : List ℕ
sampled_key = codes "x-b3-sampled"

abbrev pub flags_key : List ℕ
flags_key = codes "x-b3-flags"

-- the fields of a propagator that injects in this form
abbrev pub b3_fields : Form → List (List ℕ)
b3_fields Single = b3_key ∷ []
b3_fields Multi = trace_id_key ∷ span_id_key ∷ sampled_key ∷ flags_key ∷ []

-- the contents of the headers: the ids of a trace and of a span in it, and the sampling state
pub record B3Span : Type 0 where
  pub trace_id : ℕ
  pub span_id : ℕ
  pub sampling : Sampling

-- these ids and this state as a record
abbrev pub span_with : ℕ → ℕ → Sampling → B3Span
span_with trace_id span_id sampling =
    record { trace_id = trace_id; span_id = span_id; sampling = sampling }

-- ---- the debug flag of a context

-- the name of the entry that keeps the flag (the API has no place of its own for it)
abbrev pub debug_key : List ℕ
debug_key = codes "b3-debug"

-- whether a value is the boolean `true`
abbrev pub is_true : Option Tree → Bool
is_true None = false
is_true (Some (boolean b)) = b
is_true (Some (integer n)) = false
is_true (Some (text_tree t)) = false
is_true (Some (bytes bs)) = false
is_true (Some (list ts)) = false
is_true (Some (map_tree es)) = false

-- whether the entry is `true`
abbrev pub is_debug : ContextRecord → Bool
is_debug context = is_true (get context debug_key)

-- The context with this flag. A context whose flag isn't set stays as it is if the flag isn't to be
-- set.
abbrev pub with_debug : Bool → ContextRecord → ContextRecord
with_debug debug context =
    if debug || is_debug context then with_value context debug_key (boolean debug) else context

-- whether the state is debug
abbrev pub is_debug_state : Sampling → Bool
is_debug_state Denied = false
is_debug_state Accepted = false
is_debug_state Deferred = false
is_debug_state Debug = true

-- ---- the text of a span

-- -0, -1 or -d, or nothing if the decision is deferred
abbrev pub state_text : Sampling → List ℕ
state_text Denied = codes "-0"
state_text Accepted = codes "-1"
state_text Deferred = []
state_text Debug = codes "-d"

-- 32 lower-case hexadecimal digits of the trace id, -, 16 of the span id, and the state. The id of
-- the parent is never written.
abbrev pub single_text : B3Span → List ℕ
single_text span =
    id_text 32 span.trace_id ++ (45 ∷ (id_text 16 span.span_id ++ state_text span.sampling))

-- ---- the deferred decision of a context

-- the name of the entry that keeps the span whose decision is deferred
abbrev pub deferred_key : List ℕ
deferred_key = codes "b3-deferred"

-- whether a value is a string
abbrev pub is_string : Option Tree → Bool
is_string None = false
is_string (Some (text_tree t)) = true
is_string (Some (boolean b)) = false
is_string (Some (integer n)) = false
is_string (Some (bytes bs)) = false
is_string (Some (list ts)) = false
is_string (Some (map_tree es)) = false

-- whether a value is this string
abbrev pub is_this_string : List ℕ → Option Tree → Bool
is_this_string string None = false
is_this_string string (Some (text_tree t)) = bytes_eq t string
is_this_string string (Some (boolean b)) = false
is_this_string string (Some (integer n)) = false
is_this_string string (Some (bytes bs)) = false
is_this_string string (Some (list ts)) = false
is_this_string string (Some (map_tree es)) = false

-- the text TRACE-SPAN of a span context
abbrev pub deferred_text : SpanContextRecord → List ℕ
deferred_text context = single_text (span_with context.trace_id context.span_id Deferred)

-- Whether the decision is deferred: the span context is a remote one, and the entry names it. A
-- span that was started here has decided.
abbrev pub is_deferred : ContextRecord → Bool
is_deferred context =
    (span_context context).is_remote
    && is_this_string (deferred_text (span_context context)) (get context deferred_key)

-- whether the state is deferred
abbrev pub is_deferred_state : Sampling → Bool
is_deferred_state Denied = false
is_deferred_state Accepted = false
is_deferred_state Deferred = true
is_deferred_state Debug = false

-- The context that keeps the span if its decision is deferred, and otherwise keeps none. A context
-- that keeps none stays as it is if it is to keep none.
abbrev pub with_deferred : B3Span → ContextRecord → ContextRecord
with_deferred span context =
    if is_deferred_state span.sampling
    then with_value context deferred_key (text_tree (single_text span))
    else if is_string (get context deferred_key)
    then with_value context deferred_key (boolean false)
    else context

-- ---- injection

-- Debug if the context says so, or else accepted if the span context is sampled. An unsampled one
-- is deferred if the context says so.
abbrev pub sampling_of : ContextRecord → Sampling
sampling_of context =
    if is_debug context then Debug
    else if is_sampled (span_context context).trace_flags then Accepted
    else if is_deferred context then Deferred
    else Denied

-- the ids and the state that are sent for a context
abbrev pub sent : ContextRecord → B3Span
sent context =
    span_with (span_context context).trace_id (span_context context).span_id
    (sampling_of context)

-- the header of the state among multiple headers: `x-b3-flags` for debug, or else `x-b3-sampled`,
-- or none if the decision is deferred
abbrev pub state_pairs : Sampling → Pairs
state_pairs Denied = (sampled_key, codes "0") ∷ []
state_pairs Accepted = (sampled_key, codes "1") ∷ []
state_pairs Deferred = []
state_pairs Debug = (flags_key, codes "1") ∷ []

-- the headers of the ids among multiple headers
abbrev pub id_pairs : B3Span → Pairs
id_pairs span =
    (trace_id_key, id_text 32 span.trace_id) ∷ (span_id_key, id_text 16 span.span_id) ∷ []

-- the pairs of a span, in this form
abbrev pub span_pairs : Form → B3Span → Pairs
span_pairs Single span = (b3_key, single_text span) ∷ []
span_pairs Multi span = id_pairs span ++ state_pairs span.sampling

-- the pairs of a context, in this form: none if its span context isn't valid
abbrev pub b3_pairs : Form → ContextRecord → Pairs
b3_pairs form context =
    if is_valid (span_context context) then span_pairs form (sent context) else []

-- ---- reading

-- the number of exactly this many hexadecimal digits of either case
abbrev pub id_in : ℕ → List ℕ → Option ℕ
id_in count digits =
    if length digits == count && list_all is_ascii_hexdigit digits
    then Some (number_of digits)
    else None

-- a trace id has 32 digits, or 16: then its high half is 0
abbrev pub trace_id_in : List ℕ → Option ℕ
trace_id_in digits = option_or (id_in 32 digits) (id_in 16 digits)

abbrev pub span_id_in : List ℕ → Option ℕ
span_id_in digits = id_in 16 digits

-- the state that is 0, 1 or d
abbrev pub state_in : List ℕ → Option Sampling
state_in text =
    if bytes_eq text (codes "0") then Some Denied
    else if bytes_eq text (codes "1") then Some Accepted
    else if bytes_eq text (codes "d") then Some Debug
    else None

-- the span with these parts, if all are there
abbrev pub span_of : Option ℕ → Option ℕ → Option Sampling → Option B3Span
span_of trace_id span_id sampling =
    option_and_then (λ t. option_and_then (λ s. option_map_or (λ state.
    Some (span_with t s state)) sampling None) span_id) trace_id

-- the texts between the dashes, in order
abbrev pub dashed : List ℕ → List (List ℕ)
dashed text = slice_split (λ b. b == 45) text

-- the state after the ids, which the id of the parent may follow: deferred if there is none
abbrev pub state_after_ids : List (List ℕ) → Option Sampling
state_after_ids [] = Some Deferred
state_after_ids (state ∷ []) = state_in state
state_after_ids (state ∷ parent ∷ []) = option_and_then (λ _. state_in state) (span_id_in parent)
state_after_ids (state ∷ parent ∷ other ∷ others) = None

-- TRACE-SPAN, TRACE-SPAN-STATE, TRACE-SPAN-STATE-PARENT, or STATE alone, whose ids are 0
abbrev pub span_in : List (List ℕ) → Option B3Span
span_in [] = None
span_in (state ∷ []) = span_of (Some 0) (Some 0) (state_in state)
span_in (trace ∷ span ∷ others) =
    span_of (trace_id_in trace) (span_id_in span) (state_after_ids others)

-- the span in the value of `b3`, without the blanks at its ends
abbrev pub single_in : List ℕ → Option B3Span
single_in text = span_in (dashed (cut_blanks text))

-- whether a header is there with this value
abbrev pub is_value : List ℕ → Option (List ℕ) → Bool
is_value value header = option_map_or (λ text. bytes_eq text value) header false

-- Debug if `x-b3-flags` is 1, which is all that it can say. Otherwise deferred if there is no
-- `x-b3-sampled`, accepted if it is 1 or true, and denied if it is anything else.
abbrev pub multi_state : Option (List ℕ) → Option (List ℕ) → Sampling
multi_state flags sampled =
    if is_value (codes "1") flags then Debug
    else if is_none sampled then Deferred
    else if is_value (codes "1") sampled || is_value (codes "true") sampled then Accepted
    else Denied

-- the span in the values of multiple headers, if both ids are there: of `x-b3-traceid`,
-- `x-b3-spanid`, `x-b3-flags` and `x-b3-sampled`
abbrev pub multi_of : Option (List ℕ) → Option (List ℕ) → Option (List ℕ) → Option (List ℕ)
    → Option B3Span
multi_of trace_id span_id flags sampled =
    span_of (option_and_then trace_id_in trace_id) (option_and_then span_id_in span_id)
    (Some (multi_state flags sampled))

-- the span in the multiple headers of a carrier's texts
abbrev pub multi_in : TextMap → Option B3Span
multi_in texts =
    multi_of (at texts trace_id_key) (at texts span_id_key) (at texts flags_key)
    (at texts sampled_key)

-- the span in a carrier's texts: `b3` decides alone if it has the right form
abbrev pub b3_in : TextMap → Option B3Span
b3_in texts = option_or (option_and_then single_in (at texts b3_key)) (multi_in texts)

-- ---- extraction

-- the flag `sampled` of an accepted trace, and of one that is debugged
abbrev pub flags_of : Sampling → ℕ
flags_of Denied = 0
flags_of Accepted = 1
flags_of Deferred = 0
flags_of Debug = 1

-- the remote span context with these ids and flags, and an empty trace state
abbrev pub remote_of : B3Span → SpanContextRecord
remote_of span = record {
  trace_id = span.trace_id;
  span_id = span.span_id;
  trace_flags = flags_of span.sampling;
  is_remote = true;
  trace_state = [];
}

-- the context with the debug flag of the span, that it is deferred if it is, and the remote span
-- context, or the context itself if an id is 0
abbrev pub with_b3 : ContextRecord → B3Span → ContextRecord
with_b3 context span =
    if is_valid (remote_of span)
    then with_remote_span_context
    (with_deferred span (with_debug (is_debug_state span.sampling) context)) (remote_of span)
    else context

-- the context that is extracted from a carrier's texts into a context
abbrev pub b3_extracted : ContextRecord → TextMap → ContextRecord
b3_extracted context texts = option_map_or (with_b3 context) (b3_in texts) context

-- ---- worked examples

full : span_in (codes "80f198ee56343ba864fe8b2a57d3eff7" ∷ codes "E457b5A2e4d86bd1" ∷ codes "1"
    ∷ codes "05e3ac9a4f6e3b90" ∷ [])
    ≡ Some (span_with 0x80f198ee56343ba864fe8b2a57d3eff7 0xe457b5a2e4d86bd1 Accepted)
full = refl

short : span_in (codes "64fe8b2a57d3eff7" ∷ codes "e457b5a2e4d86bd1" ∷ codes "d" ∷ [])
    ≡ Some (span_with 0x64fe8b2a57d3eff7 0xe457b5a2e4d86bd1 Debug)
short = refl

deferred : span_in (codes "64fe8b2a57d3eff7" ∷ codes "e457b5a2e4d86bd1" ∷ [])
    ≡ Some (span_with 0x64fe8b2a57d3eff7 0xe457b5a2e4d86bd1 Deferred)
deferred = refl

cut : dashed (codes "80-e4-1") ≡ codes "80" ∷ codes "e4" ∷ codes "1" ∷ []
cut = refl

state_alone : single_in (codes " 1 ") ≡ Some (span_with 0 0 Accepted)
state_alone = refl

no_form : single_in (codes "80f198-e457-1") ≡ None
no_form = refl

other_state : single_in (codes "2") ≡ None
other_state = refl

fifth_part : single_in (codes "0-0-1-0-1") ≡ None
fifth_part = refl

flags_win : multi_of (Some (codes "64fe8b2a57d3eff7")) (Some (codes "e457b5a2e4d86bd1"))
    (Some (codes "1")) (Some (codes "0"))
    ≡ Some (span_with 0x64fe8b2a57d3eff7 0xe457b5a2e4d86bd1 Debug)
flags_win = refl

spelled_out : multi_state None (Some (codes "true")) ≡ Accepted
spelled_out = refl

other_sampled : multi_state None (Some (codes "2")) ≡ Denied
other_sampled = refl

not_debugged : multi_state (Some (codes "0")) None ≡ Deferred
not_debugged = refl

written : single_text (span_with 0x64fe8b2a57d3eff7 0xe457b5a2e4d86bd1 Accepted)
    ≡ codes "000000000000000064fe8b2a57d3eff7-e457b5a2e4d86bd1-1"
unfolding id_text
written = refl

undecided : single_text (span_with 0x64fe8b2a57d3eff7 0xe457b5a2e4d86bd1 Deferred)
    ≡ codes "000000000000000064fe8b2a57d3eff7-e457b5a2e4d86bd1"
unfolding id_text
undecided = refl
