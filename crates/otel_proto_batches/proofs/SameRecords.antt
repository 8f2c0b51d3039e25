-- Log records whose messages have the same bytes.
use Rattle.std.proofs.Common.{◌≡◌, ℕ, ◌<◌, ◌^◌, ◌==◌, List, [], ◌∷◌, ◌++◌, map, codes, Option, Some, None, option_map, Bool, true, false, if◌then◌else◌, true≢false, refl, sym, ap, ◌∙◌, arith}
use Rattle.std.specs.Int.{w64, w128, to_be_bytes, from_be_bytes}
use Rattle.std.specs.List.{All, list_any}
use Rattle.std.specs.Option.{ForSome}
use Rattle.std.proofs.lemmas.Grind.{common_steps}
use Rattle.std.proofs.lemmas.List.Elements.{All-nil, All-cons, All-append}
use Rattle.std.proofs.lemmas.Nat.{from_be_bytes-to_be_bytes_8}
use Rattle.otel_base.specs.AnyValue as any
use Rattle.otel_base.specs.AnyValue.{Tree}
use Rattle.otel_ids.proofs.shared.Numerals.{bytes_again}
use Rattle.otel_sdk_base.specs.Attributes.{up_by}
use Rattle.otel_sdk_logs.specs.Attributes.{Attribute}
use Rattle.otel_sdk_logs.specs.LogRecord.{LogState, LogEntry}
use Rattle.otel_sdk_logs.specs.declared.record.TraceContext.{TraceContext}
use Rattle.otel_proto.specs.Laws.{IsField, AreShort}
use Rattle.otel_proto.specs.Trees.{cut, max_levels, cut_value}
use Rattle.otel_proto.specs.Wire.{Content, bytes, fixed32}
use Rattle.otel_proto.specs.Written.{bytes_of}
use Rattle.otel_proto_batches.specs.Facts.{told_text}
use Rattle.otel_proto_batches.specs.LogFacts.{told_number, told_tree, told_pair, trace_facts, record_facts}
use Rattle.otel_proto_batches.specs.Logs.{time_if_given, severity, body, flags, attribute, is_target, target_attribute, attributes, dropped, trace, log_record, fields_of}
use Rattle.otel_proto_batches.specs.LogsInRange.{IsTreeInRange, ArePairsInRange, IsTraceInRange, IsEntryInRange}
use Rattle.otel_proto_batches.proofs.Pieces.{Piece, IsPiece, IsOf, last_of, more_of, both_of, one_piece, if_piece, same_at, one, text, number, number_piece, time, time_piece, each, each_piece, given_piece, text_in, number_in, text_again, number_again, time_again, zero_is, same_ends, Fit, FitTypes, fits, both_fit, none_fit, none_fits, all_fields, one_fits, if_fits, text_fits, number_fits, time_fits, each_fits, IsShort, short_at, short_one, short_ends, one_same, is_none, each_same}
use Rattle.otel_proto_batches.proofs.SameTrees.{cut_in_range, tree_fits, same_tree, pair_fits, same_pair}

-- ---- numbers
given_time : (n : ℕ) (t : Option ℕ) → IsPiece (time_if_given n t) (n, time (told_number t))
given_time n None = record { is = refl }
given_time n (Some t) = time_piece n t

given_severity : (s : Option ℕ) → IsPiece (severity s) (2, number (told_number s))
given_severity None = record { is = refl }
given_severity (Some n) = number_piece 2 n

told_small : (bound : ℕ) (o : Option ℕ) → 0 < bound → ForSome o (λ n. n < bound) → told_number o < bound
told_small bound None some h = some
told_small bound (Some n) some h = h n refl

up_by_small : (count n : ℕ) → count < 2 ^ 32 → up_by count n < 2 ^ 32
up_by_small count n h = grind (arith, common_steps)

-- ---- bodies
abbrev body_contents : Option Tree → List Content
body_contents None = []
body_contents (Some t) = bytes (bytes_of (cut_value t)) ∷ []

body_is : (b : Option Tree) → IsPiece (body b) (5, body_contents b)
body_is None = record { is = refl }
body_is (Some t) = record { is = refl }

body_fits : (b : Option Tree) → FitTypes (body_contents b)
body_fits None = none_fits
body_fits (Some t) = one_fits (bytes (bytes_of (cut_value t))) tt

value_fits : (t : Tree) → IsTreeInRange t → All IsField (cut_value t)
value_fits t h = tree_fits (cut max_levels t) (cut_in_range max_levels t h)

same_value : (t u : Tree) → IsTreeInRange t → IsTreeInRange u → AreShort (cut_value t) → cut_value t ≡ cut_value u → told_tree t ≡ told_tree u
same_value t u p q s e = same_tree (cut max_levels t) (cut max_levels u) (cut_in_range max_levels t p) (cut_in_range max_levels u q) s e

same_body : (a b : Option Tree) → ForSome a IsTreeInRange → ForSome b IsTreeInRange → All IsShort (body_contents a ++ [])
    → body_contents a ++ [] ≡ body_contents b ++ [] → option_map told_tree a ≡ option_map told_tree b
same_body None None p q s e = refl
same_body None (Some u) p q s e = absurd (true≢false (ap is_none e))
same_body (Some t) None p q s e = absurd (true≢false (sym (ap is_none e)))
same_body (Some t) (Some u) p q s e =
    let short : AreShort (cut_value t) = short_one (bytes_of (cut_value t)) s in
    let fields : cut_value t ≡ cut_value u = one_same (cut_value t) (cut_value u) (value_fits t (p t refl)) (value_fits u (q u refl)) short e in
    ap Some (same_value t u (p t refl) (q u refl) short fields)

-- ---- attributes
abbrev Ranged : Attribute → Type 0
Ranged a = IsTreeInRange a.1

attribute_fits : (a : Attribute) → Ranged a → All IsField (attribute a)
attribute_fits a h = pair_fits a.0 (cut_value a.1)

same_attribute : (a b : Attribute) → Ranged a → Ranged b → AreShort (attribute a) → attribute a ≡ attribute b → told_pair a ≡ told_pair b
same_attribute a b p q s e =
    let both = same_pair a.0 b.0 (cut_value a.1) (cut_value b.1) (value_fits a.1 p) (value_fits b.1 q) s e in
    let key = both.key in
    let value = same_value a.1 b.1 p q both.short both.value in
    λ i. (key i, value i)

target_in_range : (held : List Attribute) (t : Option (List ℕ)) → ArePairsInRange (target_attribute held t)
target_in_range held None = All-nil Ranged
target_in_range held (Some t) = by (list_any is_target held)
  where
    by : (b : Bool) → ArePairsInRange (if b then [] else (codes "log.target", any.text t) ∷ [])
    by true = All-nil Ranged
    by false = All-cons Ranged (codes "log.target", any.text t) [] tt (All-nil Ranged)

all_in_range : (l : LogState) → ArePairsInRange l.attributes → ArePairsInRange (attributes l)
all_in_range l h =
    All-append Ranged l.attributes (target_attribute l.attributes l.target) h (target_in_range l.attributes l.target)

-- ---- the span that was active
abbrev small : ℕ → List Content
small v = if v == 0 then [] else fixed32 v ∷ []

small_again : (v : ℕ) → number_in (small v ++ []) ≡ v
small_again v = by (v == 0) refl
  where
    by : (b : Bool) → (v == 0) ≡ b → number_in ((if b then [] else fixed32 v ∷ []) ++ []) ≡ v
    by true e = sym (zero_is v e)
    by false e = refl

flags_is : (f : Option ℕ) → IsPiece (flags f) (8, small (told_number f))
flags_is None = record { is = refl }
flags_is (Some bits) = if_piece (bits == 0) 8 (fixed32 bits)

abbrev flag_contents : Option TraceContext → List Content
flag_contents None = []
flag_contents (Some c) = small (told_number c.trace_flags)

abbrev trace_contents : Option TraceContext → List Content
trace_contents None = []
trace_contents (Some c) = one (bytes (to_be_bytes w128 c.trace_id))

abbrev span_contents : Option TraceContext → List Content
span_contents None = []
span_contents (Some c) = one (bytes (to_be_bytes w64 c.span_id))

abbrev trace_pieces : Option TraceContext → List Piece
trace_pieces t = (8, flag_contents t) ∷ (9, trace_contents t) ∷ (10, span_contents t) ∷ []

trace_is : (t : Option TraceContext) → IsOf (trace t) (trace_pieces t)
trace_is None = record { is = refl }
trace_is (Some c) =
    more_of (flags_is c.trace_flags) (more_of (one_piece 9 (bytes (to_be_bytes w128 c.trace_id))) (last_of (one_piece 10 (bytes (to_be_bytes w64 c.span_id)))))

trace_fits : (t : Option TraceContext) → ForSome t IsTraceInRange → Fit (trace_pieces t)
trace_fits None h = fits 8 refl none_fits (fits 9 refl none_fits (fits 10 refl none_fits none_fit))
trace_fits (Some c) h =
    let range = h c refl in
    let bits : told_number c.trace_flags < 256 = told_small 256 c.trace_flags (omega arith) range.flags in
    fits 8 refl (if_fits (told_number c.trace_flags == 0) (fixed32 (told_number c.trace_flags)) (omega (arith, bits)))
    (fits 9 refl (one_fits (bytes (to_be_bytes w128 c.trace_id)) tt) (fits 10 refl (one_fits (bytes (to_be_bytes w64 c.span_id)) tt) none_fit))

same_trace : (t u : Option TraceContext) → ForSome t IsTraceInRange → ForSome u IsTraceInRange → flag_contents t ++ [] ≡ flag_contents u ++ []
    → trace_contents t ++ [] ≡ trace_contents u ++ [] → span_contents t ++ [] ≡ span_contents u ++ [] → option_map trace_facts t ≡ option_map trace_facts u
same_trace None None p q bits first second = refl
same_trace None (Some d) p q bits first second = absurd (true≢false (ap is_none first))
same_trace (Some c) None p q bits first second = absurd (true≢false (sym (ap is_none first)))
same_trace (Some c) (Some d) p q bits first second =
    let range = p c refl in
    let other = q d refl in
    let id : c.trace_id ≡ d.trace_id = sym (bytes_again c.trace_id range.trace_id) ∙ ap (λ cs. from_be_bytes w128 (text_in cs)) first ∙ bytes_again d.trace_id other.trace_id in
    let span : c.span_id ≡ d.span_id =
    sym (from_be_bytes-to_be_bytes_8 c.span_id range.span_id) ∙ ap (λ cs. from_be_bytes w64 (text_in cs)) second ∙ from_be_bytes-to_be_bytes_8 d.span_id other.span_id in
    let set : told_number c.trace_flags ≡ told_number d.trace_flags = sym (small_again (told_number c.trace_flags)) ∙ ap number_in bits ∙ small_again (told_number d.trace_flags) in
    λ i. Some (record { trace_id = id i; span_id = span i; trace_flags = set i })

-- ---- records
abbrev content_pieces : LogState → List Piece
content_pieces l =
    (1, time (told_number l.timestamp)) ∷ (2, number (told_number l.severity_number)) ∷ (3, text (told_text l.severity_text)) ∷ (5, body_contents l.body) ∷ []

abbrev detail_pieces : LogState → List Piece
detail_pieces l = (6, each attribute (attributes l)) ∷ (7, number (dropped l)) ∷ []

abbrev origin_pieces : LogState → List Piece
origin_pieces l = (11, time (told_number l.observed_timestamp)) ∷ (12, text (told_text l.event_name)) ∷ []

abbrev record_pieces : LogState → List Piece
record_pieces l = content_pieces l ++ (detail_pieces l ++ (trace_pieces l.trace_context ++ origin_pieces l))

record_is : (l : LogState) → IsOf (log_record l) (record_pieces l)
record_is l =
    both_of
    (more_of (given_time 1 l.timestamp) (more_of (given_severity l.severity_number) (more_of (given_piece 3 l.severity_text) (last_of (body_is l.body)))))
    (both_of (more_of (each_piece 6 attribute (attributes l)) (last_of (number_piece 7 (dropped l))))
    (both_of (trace_is l.trace_context)
    (more_of (given_time 11 l.observed_timestamp) (last_of (given_piece 12 l.event_name)))))

pub record_fits : (e : LogEntry) → IsEntryInRange e → All IsField (fields_of e)
record_fits e h =
    let l = e.log in
    let level : told_number l.severity_number < 256 = told_small 256 l.severity_number (omega arith) h.severity in
    all_fields (record_is l)
    (both_fit
    (fits 1 refl (time_fits (told_number l.timestamp) (told_small (2 ^ 64) l.timestamp (omega arith) h.timestamp))
    (fits 2 refl (number_fits (told_number l.severity_number) (omega (arith, level)))
    (fits 3 refl (text_fits (told_text l.severity_text)) (fits 5 refl (body_fits l.body) none_fit))))
    (both_fit
    (fits 6 refl (each_fits attribute (attributes l)) (fits 7 refl (number_fits (dropped l) (up_by_small l.dropped_attributes _ h.dropped)) none_fit))
    (both_fit (trace_fits l.trace_context h.context)
    (fits 11 refl (time_fits (told_number l.observed_timestamp) (told_small (2 ^ 64) l.observed_timestamp (omega arith) h.observed))
    (fits 12 refl (text_fits (told_text l.event_name)) none_fit)))))

told_time_again : (a b : ℕ) → time a ++ [] ≡ time b ++ [] → a ≡ b
told_time_again a b e = sym (time_again a) ∙ ap number_in e ∙ time_again b

told_number_again : (a b : ℕ) → number a ++ [] ≡ number b ++ [] → a ≡ b
told_number_again a b e = sym (number_again a) ∙ ap number_in e ∙ number_again b

told_text_again : (a b : List ℕ) → text a ++ [] ≡ text b ++ [] → a ≡ b
told_text_again a b e = sym (text_again a) ∙ ap text_in e ∙ text_again b

pub same_record : (d e : LogEntry) → IsEntryInRange d → IsEntryInRange e → AreShort (fields_of d) → fields_of d ≡ fields_of e → record_facts d ≡ record_facts e
same_record d e p q short is =
    let l = d.log in
    let m = e.log in
    let same = same_at (record_is l) (record_is m) is in
    let shorts = short_at (record_is l) short in
    let at : told_number l.timestamp ≡ told_number m.timestamp = told_time_again (told_number l.timestamp) (told_number m.timestamp) (same 1) in
    let level : told_number l.severity_number ≡ told_number m.severity_number = told_number_again (told_number l.severity_number) (told_number m.severity_number) (same 2) in
    let word : told_text l.severity_text ≡ told_text m.severity_text = told_text_again (told_text l.severity_text) (told_text m.severity_text) (same 3) in
    let content = same_body l.body m.body p.body q.body (shorts 5) (same 5) in
    let given : map told_pair (attributes l) ≡ map told_pair (attributes m) =
    each_same attribute attribute told_pair told_pair Ranged Ranged attribute_fits attribute_fits same_attribute (attributes l) (attributes m) (all_in_range l p.attributes) (all_in_range m q.attributes)
    (short_ends (each attribute (attributes l)) (shorts 6)) (same_ends (each attribute (attributes l)) (each attribute (attributes m)) (same 6)) in
    let fewer : dropped l ≡ dropped m = told_number_again (dropped l) (dropped m) (same 7) in
    let active = same_trace l.trace_context m.trace_context p.context q.context (same 8) (same 9) (same 10) in
    let seen : told_number l.observed_timestamp ≡ told_number m.observed_timestamp = told_time_again (told_number l.observed_timestamp) (told_number m.observed_timestamp) (same 11) in
    let name : told_text l.event_name ≡ told_text m.event_name = told_text_again (told_text l.event_name) (told_text m.event_name) (same 12) in
    λ i. record {
      timestamp = at i;
      observed_timestamp = seen i;
      severity_number = level i;
      severity_text = word i;
      event_name = name i;
      body = content i;
      attributes = given i;
      dropped_attributes = fewer i;
      context = active i;
    }
