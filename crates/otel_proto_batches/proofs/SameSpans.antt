-- Spans whose messages have the same bytes.
use Rattle.std.proofs.Common.{◌≡◌, ℕ, ◌<◌, ◌^◌, ◌==◌, List, [], ◌∷◌, ◌++◌, map, Bool, true, false, if◌then◌else◌, refl, sym, ap, ◌∙◌, arith}
use Rattle.std.specs.Int.{w64, w128, to_be_bytes, from_be_bytes}
use Rattle.std.specs.List.{All}
use Rattle.std.proofs.lemmas.Nat.{from_be_bytes-to_be_bytes_8}
use Rattle.otel_context.specs.declared.span.status.SpanKind.{SpanKind}
use Rattle.otel_context.specs.declared.span.status.SpanKind.TheVariants as kind
use Rattle.otel_context.specs.declared.span.status.Status.{Status}
use Rattle.otel_context.specs.declared.span.status.Status.TheVariants as status
use Rattle.otel_ids.specs.SpanContext.{SpanContextRecord}
use Rattle.otel_ids.specs.TraceState.{header}
use Rattle.otel_ids.proofs.shared.Numerals.{bytes_again}
use Rattle.opentelemetry.specs.Event.{EventRecord, LinkRecord}
use Rattle.otel_sdk_span.specs.SpanData.{SpanRecord}
use Rattle.otel_proto.specs.Common.{key_value}
use Rattle.otel_proto.specs.Laws.{IsField, AreShort}
use Rattle.otel_proto.specs.Wire.{Content, varint, bytes, fixed32}
use Rattle.otel_proto.specs.Written.{bytes_of}
use Rattle.otel_proto_batches.specs.Facts.{context_facts, event_facts, link_facts, span_facts, told}
use Rattle.otel_proto_batches.specs.InRange.{IsContextInRange, IsEventInRange, IsLinkInRange, IsInRange}
use Rattle.otel_proto_batches.specs.Traces.{event, flags, context, link, success, failure, status_fields, kind_number, span}
use Rattle.otel_proto_batches.proofs.Pieces.{Piece, IsPiece, IsOf, last_of, more_of, both_of, one_piece, if_piece, same_at, one, text, text_piece, number, number_piece, time, time_piece, each, each_piece, text_in, number_in, zero_is, text_again, number_again, time_again, same_ends, Fit, fits, none_fit, both_fit, all_fields, FitTypes, one_fits, if_fits, text_fits, number_fits, time_fits, each_fits, IsShort, short_at, short_one, short_ends, one_same, each_same}
use Rattle.otel_proto_batches.proofs.SameAttributes.{same_attributes}

-- ---- events
abbrev event_pieces : EventRecord → List Piece
event_pieces e =
    (1, time e.timestamp) ∷ (2, text e.name) ∷ (3, each key_value e.attributes) ∷ (4, number e.dropped_attributes_count) ∷ []

event_is : (e : EventRecord) → IsOf (event e) (event_pieces e)
event_is e =
    more_of (time_piece 1 e.timestamp) (more_of (text_piece 2 e.name) (more_of (each_piece 3 key_value e.attributes) (last_of (number_piece 4 e.dropped_attributes_count))))

event_fits : (e : EventRecord) → IsEventInRange e → All IsField (event e)
event_fits e h =
    all_fields (event_is e)
    (fits 1 refl (time_fits e.timestamp h.timestamp) (fits 2 refl (text_fits e.name)
    (fits 3 refl (each_fits key_value e.attributes) (fits 4 refl (number_fits e.dropped_attributes_count h.dropped) none_fit))))

same_event : (e d : EventRecord) → IsEventInRange e → IsEventInRange d → AreShort (event e) → event e ≡ event d → event_facts e ≡ event_facts d
same_event e d p q short is =
    let same = same_at (event_is e) (event_is d) is in
    let shorts = short_at (event_is e) short in
    let at : e.timestamp ≡ d.timestamp = sym (time_again e.timestamp) ∙ ap number_in (same 1) ∙ time_again d.timestamp in
    let name : e.name ≡ d.name = sym (text_again e.name) ∙ ap text_in (same 2) ∙ text_again d.name in
    let given : told e.attributes ≡ told d.attributes =
    same_attributes e.attributes d.attributes p.attributes q.attributes (short_ends (each key_value e.attributes) (shorts 3)) (same_ends (each key_value e.attributes) (each key_value d.attributes) (same 3)) in
    let dropped : e.dropped_attributes_count ≡ d.dropped_attributes_count = sym (number_again e.dropped_attributes_count) ∙ ap number_in (same 4) ∙ number_again d.dropped_attributes_count in
    λ i. record { name = name i; timestamp = at i; attributes = given i; dropped_attributes_count = dropped i }

-- ---- span contexts
abbrev trace_content : ℕ → Content
trace_content id = bytes (to_be_bytes w128 id)

abbrev span_content : ℕ → Content
span_content id = bytes (to_be_bytes w64 id)

abbrev context_pieces : SpanContextRecord → List Piece
context_pieces c =
    (1, one (trace_content c.trace_id)) ∷ (2, one (span_content c.span_id)) ∷ (3, text (header c.trace_state)) ∷ []

context_is : (c : SpanContextRecord) → IsOf (context c) (context_pieces c)
context_is c =
    more_of (one_piece 1 (trace_content c.trace_id)) (more_of (one_piece 2 (span_content c.span_id)) (last_of (text_piece 3 (header c.trace_state))))

context_fits : (c : SpanContextRecord) → Fit (context_pieces c)
context_fits c =
    fits 1 refl (one_fits (trace_content c.trace_id) tt) (fits 2 refl (one_fits (span_content c.span_id) tt) (fits 3 refl (text_fits (header c.trace_state)) none_fit))

trace_id_again : (a b : ℕ) → a < 2 ^ 128 → b < 2 ^ 128 → to_be_bytes w128 a ≡ to_be_bytes w128 b → a ≡ b
trace_id_again a b h k e = sym (bytes_again a h) ∙ ap (from_be_bytes w128) e ∙ bytes_again b k

span_id_again : (a b : ℕ) → a < 2 ^ 64 → b < 2 ^ 64 → to_be_bytes w64 a ≡ to_be_bytes w64 b → a ≡ b
span_id_again a b h k e = sym (from_be_bytes-to_be_bytes_8 a h) ∙ ap (from_be_bytes w64) e ∙ from_be_bytes-to_be_bytes_8 b k

same_context : (c d : SpanContextRecord) → IsContextInRange c → IsContextInRange d
    → one (trace_content c.trace_id) ≡ one (trace_content d.trace_id) → one (span_content c.span_id) ≡ one (span_content d.span_id)
    → text (header c.trace_state) ++ [] ≡ text (header d.trace_state) ++ [] → c.trace_flags ≡ d.trace_flags → context_facts c ≡ context_facts d
same_context c d p q trace id state bits =
    let first = trace_id_again c.trace_id d.trace_id p.trace_id q.trace_id (ap text_in trace) in
    let second = span_id_again c.span_id d.span_id p.span_id q.span_id (ap text_in id) in
    let third : header c.trace_state ≡ header d.trace_state = sym (text_again (header c.trace_state)) ∙ ap text_in state ∙ text_again (header d.trace_state) in
    λ i. record { trace_id = first i; span_id = second i; trace_flags = bits i; trace_state = third i }

-- the flags of 8 bits, and whether it is remote
same_flags : (a b : ℕ) (r q : Bool) → a < 256 → b < 256 → flags a r ≡ flags b q → (a ≡ b) × (r ≡ q)
same_flags a b true true h k e = (omega (arith, e), refl)
same_flags a b false false h k e = (omega (arith, e), refl)
same_flags a b true false h k e = absurd (omega (arith, e, h, k))
same_flags a b false true h k e = absurd (omega (arith, e, h, k))

flags_small : (a : ℕ) (r : Bool) → a < 256 → flags a r < 2 ^ 32
flags_small a true h = omega arith
flags_small a false h = omega arith

-- ---- links
abbrev link_flags : LinkRecord → ℕ
link_flags l = flags l.span_context.trace_flags l.span_context.is_remote

abbrev link_rest : LinkRecord → List Piece
link_rest l =
    (4, each key_value l.attributes) ∷ (5, number l.dropped_attributes_count) ∷ (6, one (fixed32 (link_flags l))) ∷ []

abbrev link_pieces : LinkRecord → List Piece
link_pieces l = context_pieces l.span_context ++ link_rest l

link_is : (l : LinkRecord) → IsOf (link l) (link_pieces l)
link_is l =
    both_of (context_is l.span_context)
    (more_of (each_piece 4 key_value l.attributes) (more_of (number_piece 5 l.dropped_attributes_count) (last_of (one_piece 6 (fixed32 (link_flags l))))))

link_fits : (l : LinkRecord) → IsLinkInRange l → All IsField (link l)
link_fits l h =
    all_fields (link_is l)
    (both_fit (context_fits l.span_context)
    (fits 4 refl (each_fits key_value l.attributes) (fits 5 refl (number_fits l.dropped_attributes_count h.dropped)
    (fits 6 refl (one_fits (fixed32 (link_flags l)) (flags_small l.span_context.trace_flags l.span_context.is_remote h.context.flags)) none_fit))))

same_link : (l m : LinkRecord) → IsLinkInRange l → IsLinkInRange m → AreShort (link l) → link l ≡ link m → link_facts l ≡ link_facts m
same_link l m p q short is =
    let same = same_at (link_is l) (link_is m) is in
    let shorts = short_at (link_is l) short in
    let bits = same_flags l.span_context.trace_flags m.span_context.trace_flags l.span_context.is_remote m.span_context.is_remote p.context.flags q.context.flags (ap number_in (same 6)) in
    let whole = same_context l.span_context m.span_context p.context q.context (same 1) (same 2) (same 3) bits.0 in
    let remote = bits.1 in
    let given : told l.attributes ≡ told m.attributes =
    same_attributes l.attributes m.attributes p.attributes q.attributes (short_ends (each key_value l.attributes) (shorts 4)) (same_ends (each key_value l.attributes) (each key_value m.attributes) (same 4)) in
    let dropped : l.dropped_attributes_count ≡ m.dropped_attributes_count = sym (number_again l.dropped_attributes_count) ∙ ap number_in (same 5) ∙ number_again m.dropped_attributes_count in
    λ i. record { context = whole i; is_remote = remote i; attributes = given i; dropped_attributes = dropped i }

-- ---- statuses
abbrev status_contents : Status → List Content
status_contents status.Unset = []
status_contents status.Ok = bytes (bytes_of success) ∷ []
status_contents (status.Error d) = bytes (bytes_of (failure d)) ∷ []

status_is : (s : Status) → IsPiece (status_fields s) (15, status_contents s)
status_is status.Unset = record { is = refl }
status_is status.Ok = record { is = refl }
status_is (status.Error d) = record { is = refl }

status_fits : (s : Status) → FitTypes (status_contents s)
status_fits status.Unset = none_fit_types
  where
    none_fit_types : FitTypes []
    none_fit_types = if_fits true (varint 0) (omega arith)
status_fits status.Ok = one_fits (bytes (bytes_of success)) tt
status_fits (status.Error d) = one_fits (bytes (bytes_of (failure d))) tt

success_is : IsOf success ((3, one (varint 1)) ∷ [])
success_is = last_of (one_piece 3 (varint 1))

failure_is : (d : List ℕ) → IsOf (failure d) ((2, text d) ∷ (3, one (varint 2)) ∷ [])
failure_is d = more_of (text_piece 2 d) (last_of (one_piece 3 (varint 2)))

success_fits : All IsField success
success_fits = all_fields success_is (fits 3 refl (one_fits (varint 1) (omega arith)) none_fit)

failure_fits : (d : List ℕ) → All IsField (failure d)
failure_fits d = all_fields (failure_is d) (fits 2 refl (text_fits d) (fits 3 refl (one_fits (varint 2) (omega arith)) none_fit))

no_success : (d : List ℕ) → success ≡ failure d → ⊥
no_success d e =
    let codes_are : 1 ≡ 2 = ap number_in (same_at success_is (failure_is d) e 3) in omega (arith, codes_are)

same_status : (a b : Status) → All IsShort (status_contents a) → status_contents a ≡ status_contents b → a ≡ b
same_status status.Unset status.Unset h e = refl
same_status status.Unset status.Ok h e = absurd cc
same_status status.Unset (status.Error d) h e = absurd cc
same_status status.Ok status.Unset h e = absurd cc
same_status status.Ok status.Ok h e = refl
same_status status.Ok (status.Error d) h e =
    absurd (no_success d (one_same success (failure d) success_fits (failure_fits d) (short_one (bytes_of success) h) e))
same_status (status.Error d) status.Unset h e = absurd cc
same_status (status.Error d) status.Ok h e =
    absurd (no_success d (sym (one_same (failure d) success (failure_fits d) success_fits (short_one (bytes_of (failure d)) h) e)))
same_status (status.Error c) (status.Error d) h e =
    let fields : failure c ≡ failure d = one_same (failure c) (failure d) (failure_fits c) (failure_fits d) (short_one (bytes_of (failure c)) h) e in
    ap status.Error (sym (text_again c) ∙ ap text_in (same_at (failure_is c) (failure_is d) fields 2) ∙ text_again d)

-- ---- kinds
-- the kind with this number
abbrev numbered : ℕ → SpanKind
numbered n = if n == 1 then kind.Internal else (if n == 2 then kind.Server else (if n == 3 then kind.Client else (if n == 4 then kind.Producer else kind.Consumer)))

kind_again : (k : SpanKind) → numbered (kind_number k) ≡ k
kind_again kind.Internal = refl
kind_again kind.Server = refl
kind_again kind.Client = refl
kind_again kind.Producer = refl
kind_again kind.Consumer = refl

kind_small : (k : SpanKind) → kind_number k < 2 ^ 64
kind_small kind.Internal = omega arith
kind_small kind.Server = omega arith
kind_small kind.Client = omega arith
kind_small kind.Producer = omega arith
kind_small kind.Consumer = omega arith

-- ---- parents
abbrev parent_contents : ℕ → List Content
parent_contents id = if id == 0 then [] else span_content id ∷ []

abbrev id_in : List Content → ℕ
id_in (bytes s ∷ cs) = from_be_bytes w64 s
id_in other = 0

parent_again : (id : ℕ) → id < 2 ^ 64 → id_in (parent_contents id ++ []) ≡ id
parent_again id h = by (id == 0) refl
  where
    by : (b : Bool) → (id == 0) ≡ b → id_in ((if b then [] else span_content id ∷ []) ++ []) ≡ id
    by true e = sym (zero_is id e)
    by false e = from_be_bytes-to_be_bytes_8 id h

-- ---- spans
abbrev identity_pieces : SpanRecord → List Piece
identity_pieces s = context_pieces s.span_context ++ (4, parent_contents s.parent_span_id) ∷ []

abbrev work_pieces : SpanRecord → List Piece
work_pieces s =
    (5, text s.name) ∷ (6, one (varint (kind_number s.span_kind))) ∷ (7, time s.start_time) ∷ (8, time s.end_time) ∷ []

abbrev record_pieces : SpanRecord → List Piece
record_pieces s =
    (9, each key_value s.attributes) ∷ (10, number s.dropped_attributes) ∷ (11, each event s.events) ∷ (12, number s.dropped_events)
    ∷ (13, each link s.links) ∷ (14, number s.dropped_links) ∷ []

abbrev span_flags : SpanRecord → ℕ
span_flags s = flags s.span_context.trace_flags s.parent_span_is_remote

abbrev outcome_pieces : SpanRecord → List Piece
outcome_pieces s = (15, status_contents s.status) ∷ (16, one (fixed32 (span_flags s))) ∷ []

abbrev span_pieces : SpanRecord → List Piece
span_pieces s = identity_pieces s ++ (work_pieces s ++ (record_pieces s ++ outcome_pieces s))

span_is : (s : SpanRecord) → IsOf (span s) (span_pieces s)
span_is s =
    both_of (both_of (context_is s.span_context) (last_of (if_piece (s.parent_span_id == 0) 4 (span_content s.parent_span_id))))
    (both_of
    (more_of (text_piece 5 s.name) (more_of (one_piece 6 (varint (kind_number s.span_kind))) (more_of (time_piece 7 s.start_time) (last_of (time_piece 8 s.end_time)))))
    (both_of
    (more_of (each_piece 9 key_value s.attributes) (more_of (number_piece 10 s.dropped_attributes)
    (more_of (each_piece 11 event s.events) (more_of (number_piece 12 s.dropped_events)
    (more_of (each_piece 13 link s.links) (last_of (number_piece 14 s.dropped_links)))))))
    (more_of (status_is s.status) (last_of (one_piece 16 (fixed32 (span_flags s)))))))

pub span_fits : (s : SpanRecord) → IsInRange s → All IsField (span s)
span_fits s h =
    all_fields (span_is s)
    (both_fit (both_fit (context_fits s.span_context) (fits 4 refl (if_fits (s.parent_span_id == 0) (span_content s.parent_span_id) tt) none_fit))
    (both_fit
    (fits 5 refl (text_fits s.name) (fits 6 refl (one_fits (varint (kind_number s.span_kind)) (kind_small s.span_kind))
    (fits 7 refl (time_fits s.start_time h.start) (fits 8 refl (time_fits s.end_time h.end) none_fit))))
    (both_fit
    (fits 9 refl (each_fits key_value s.attributes) (fits 10 refl (number_fits s.dropped_attributes h.dropped_attributes)
    (fits 11 refl (each_fits event s.events) (fits 12 refl (number_fits s.dropped_events h.dropped_events)
    (fits 13 refl (each_fits link s.links) (fits 14 refl (number_fits s.dropped_links h.dropped_links) none_fit))))))
    (fits 15 refl (status_fits s.status)
    (fits 16 refl (one_fits (fixed32 (span_flags s)) (flags_small s.span_context.trace_flags s.parent_span_is_remote h.context.flags)) none_fit)))))

pub same_span : (s t : SpanRecord) → IsInRange s → IsInRange t → AreShort (span s) → span s ≡ span t → span_facts s ≡ span_facts t
same_span s t p q short e =
    let same = same_at (span_is s) (span_is t) e in
    let shorts = short_at (span_is s) short in
    let bits = same_flags s.span_context.trace_flags t.span_context.trace_flags s.parent_span_is_remote t.parent_span_is_remote p.context.flags q.context.flags (ap number_in (same 16)) in
    let remote = bits.1 in
    let whole = same_context s.span_context t.span_context p.context q.context (same 1) (same 2) (same 3) bits.0 in
    let above : s.parent_span_id ≡ t.parent_span_id = sym (parent_again s.parent_span_id p.parent) ∙ ap id_in (same 4) ∙ parent_again t.parent_span_id q.parent in
    let name : s.name ≡ t.name = sym (text_again s.name) ∙ ap text_in (same 5) ∙ text_again t.name in
    let kinds : s.span_kind ≡ t.span_kind = sym (kind_again s.span_kind) ∙ ap (λ cs. numbered (number_in cs)) (same 6) ∙ kind_again t.span_kind in
    let start : s.start_time ≡ t.start_time = sym (time_again s.start_time) ∙ ap number_in (same 7) ∙ time_again t.start_time in
    let end : s.end_time ≡ t.end_time = sym (time_again s.end_time) ∙ ap number_in (same 8) ∙ time_again t.end_time in
    let given : told s.attributes ≡ told t.attributes =
    same_attributes s.attributes t.attributes p.attributes q.attributes (short_ends (each key_value s.attributes) (shorts 9)) (same_ends (each key_value s.attributes) (each key_value t.attributes) (same 9)) in
    let no_attributes : s.dropped_attributes ≡ t.dropped_attributes = sym (number_again s.dropped_attributes) ∙ ap number_in (same 10) ∙ number_again t.dropped_attributes in
    let events : map event_facts s.events ≡ map event_facts t.events =
    each_same event event event_facts event_facts IsEventInRange IsEventInRange event_fits event_fits same_event s.events t.events p.events q.events (short_ends (each event s.events) (shorts 11)) (same_ends (each event s.events) (each event t.events) (same 11)) in
    let no_events : s.dropped_events ≡ t.dropped_events = sym (number_again s.dropped_events) ∙ ap number_in (same 12) ∙ number_again t.dropped_events in
    let links : map link_facts s.links ≡ map link_facts t.links =
    each_same link link link_facts link_facts IsLinkInRange IsLinkInRange link_fits link_fits same_link s.links t.links p.links q.links (short_ends (each link s.links) (shorts 13)) (same_ends (each link s.links) (each link t.links) (same 13)) in
    let no_links : s.dropped_links ≡ t.dropped_links = sym (number_again s.dropped_links) ∙ ap number_in (same 14) ∙ number_again t.dropped_links in
    let statuses : s.status ≡ t.status = same_status s.status t.status (short_ends (status_contents s.status) (shorts 15)) (same_ends (status_contents s.status) (status_contents t.status) (same 15)) in
    λ i. record {
      context = whole i;
      parent_span_id = above i;
      parent_span_is_remote = remote i;
      span_kind = kinds i;
      name = name i;
      start_time = start i;
      end_time = end i;
      attributes = given i;
      dropped_attributes = no_attributes i;
      events = events i;
      dropped_events = no_events i;
      links = links i;
      dropped_links = no_links i;
      status = statuses i;
    }
