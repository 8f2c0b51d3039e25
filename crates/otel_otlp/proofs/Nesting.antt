-- How deep the value of a batch nests.
use Rattle.std.proofs.Common.{◌≡◌, ℕ, suc, ◌+◌, ◌≤◌, get_or, List, [], ◌∷◌, ◌++◌, map, filter, Option, Some, None, Bool, true, false, Ordering, Less, Equal, Greater, if◌then◌else◌, codes, length, ◌==◌, refl, arith}
use Rattle.std.proofs.lemmas.List.Elements.{All-head, All-tail, All-filter}
use Rattle.std.specs.List.{All}
use Rattle.std.specs.Ordering.{match_ordering}
use Rattle.opentelemetry.specs.Event.{EventRecord, LinkRecord}
use Rattle.otel_base.specs.Array.{booleans, integers, texts, ArrayValue}
use Rattle.otel_base.specs.InstrumentationScope.{Scope}
use Rattle.otel_base.specs.KeyValue.{Attribute}
use Rattle.otel_base.specs.Value as value
use Rattle.otel_base.specs.Value.{AttributeValue}
use Rattle.otel_context.specs.declared.span.status.Status.{Status}
use Rattle.otel_context.specs.declared.span.status.Status.TheVariants as status
use Rattle.otel_ids.specs.SpanContext.{SpanContextRecord}
use Rattle.otel_ids.specs.TraceState.{header}
use Rattle.otel_sdk_base.specs.Resource.{Parts}
use Rattle.otel_sdk_span.specs.SpanData.{SpanRecord}
use Rattle.serde_json.specs.Data.{Data, string, number, unsigned, Members, no_members, member, put, depth, items_depth, members_depth}
use Rattle.serde_json.specs.View.{items_of}
use Rattle.otel_otlp.specs.Common.{any_value, array_values, boolean_value, integer_value, text_value, key_value, attributes_member, resource, unique, instrumentation_scope}
use Rattle.otel_otlp.specs.Groups.{BatchForm, is_of, first_scopes, scope_value, resource_value, batch_value}
use Rattle.otel_otlp.specs.Json.{Member, put_all, object_of, text_member, number_member, decimal_member, list_member, text_unless_empty, number_unless_zero, text_if_given, trace_id_text, span_id_text}
use Rattle.otel_otlp.specs.Traces.{event, link, flags, context_members, status_member, kind_number, parent_member, identity, work, events_member, links_member, records, losses, span, form, traces_data}

-- ---- members
members_depth-match_ordering : (o : Ordering) (a b c : Members) (n : ℕ) → members_depth a ≤ n → members_depth b ≤ n → members_depth c ≤ n → members_depth (match_ordering o a b c) ≤ n
members_depth-match_ordering Less a b c n p q r = p
members_depth-match_ordering Equal a b c n p q r = q
members_depth-match_ordering Greater a b c n p q r = r

members_depth-put : (k : List ℕ) (d : Data) (ms : Members) (n : ℕ) → depth d ≤ n → members_depth ms ≤ n → members_depth (put k d ms) ≤ n
members_depth-put k d no_members n p q = omega arith
members_depth-put k d (member l e ms) n p q =
    members_depth-match_ordering _ (member k d (member l e ms)) (member l d ms) (member l e (put k d ms)) n (omega arith) (omega arith) (omega (arith, members_depth-put k d ms n p (omega arith)))

-- the values of the members nest at most n deep
abbrev pub AreWithin : ℕ → List Member → Type 0
AreWithin n [] = 0 ≤ n
AreWithin n (m ∷ more) = (depth m.1 ≤ n) × AreWithin n more

pub within-append : (n : ℕ) (xs ys : List Member) → AreWithin n xs → AreWithin n ys → AreWithin n (xs ++ ys)
within-append n [] ys h g = g
within-append n (x ∷ xs) ys h g = (h.0, within-append n xs ys h.1 g)

put_all-depth : (n : ℕ) (ms : Members) (xs : List Member) → members_depth ms ≤ n → AreWithin n xs → members_depth (put_all ms xs) ≤ n
put_all-depth n ms [] h g = h
put_all-depth n ms (x ∷ xs) h g = put_all-depth n (put x.0 x.1 ms) xs (members_depth-put x.0 x.1 ms n g.0 h) g.1

pub of_members : (n : ℕ) (xs : List Member) → AreWithin n xs → depth (object_of xs) ≤ suc n
of_members n xs h = let inner = put_all-depth n no_members xs (omega arith) h in omega (arith, inner)

pub within-if : (n : ℕ) (b : Bool) (xs : List Member) → AreWithin n xs → AreWithin n (if b then [] else xs)
within-if n true xs h = omega arith
within-if n false xs h = h

pub plain : (n : ℕ) (k : List ℕ) (d : Data) → depth d ≡ 0 → AreWithin n ((k, d) ∷ [])
plain n k d e = (omega (arith, e), omega arith)

pub given : (n : ℕ) (k : List ℕ) (t : Option (List ℕ)) → AreWithin n (text_if_given k t)
given n k None = omega arith
given n k (Some t) = plain n k (string t) refl

-- ---- lists of values that nest at most n deep
of_items : {A : Type 0} (n : ℕ) (f : A → Data) (xs : List A) → All (λ x. depth (f x) ≤ n) xs → items_depth (items_of (map f xs)) ≤ n
of_items n f [] h = omega arith
of_items n f (x ∷ xs) h =
    let here = All-head (λ y. depth (f y) ≤ n) x xs h in
    let more = of_items n f xs (All-tail (λ y. depth (f y) ≤ n) x xs h) in
    omega (arith, here, more)

pub of_list : {A : Type 0} (n : ℕ) (k : List ℕ) (f : A → Data) (xs : List A) → All (λ x. depth (f x) ≤ n) xs → AreWithin (suc n) (list_member k (map f xs))
of_list n k f xs h = let inner = of_items n f xs h in (omega (arith, inner), omega arith)

-- each item of a list, if it is so of all
each : {A : Type 0} (P : A → Type 0) (all : (x : A) → P x) (xs : List A) → All P xs
each P all xs k d below = all (get_or xs k d)

-- ---- attributes
array_depth : (xs : ArrayValue) → items_depth (items_of (array_values xs)) ≤ 1
array_depth (booleans bs) = of_items 1 boolean_value bs (each (λ b. depth (boolean_value b) ≤ 1) (λ b. omega arith) bs)
array_depth (integers zs) = of_items 1 integer_value zs (each (λ z. depth (integer_value z) ≤ 1) (λ z. omega arith) zs)
array_depth (texts ss) = of_items 1 text_value ss (each (λ s. depth (text_value s) ≤ 1) (λ s. omega arith) ss)

value_depth : (v : AttributeValue) → depth (any_value v) ≤ 4
value_depth (value.boolean b) = omega arith
value_depth (value.integer z) = omega arith
value_depth (value.text s) = omega arith
value_depth (value.array xs) = let inner = array_depth xs in omega (arith, inner)

attribute_depth : (a : Attribute) → depth (key_value a) ≤ 5
attribute_depth a = of_members 4 (text_member (codes "key") a.0 ++ (codes "value", any_value a.1) ∷ []) (omega arith, (value_depth a.1, omega arith))

-- members that nest at most n deep nest at most m deep, if n is at most m
more : (n m : ℕ) (xs : List Member) → n ≤ m → AreWithin n xs → AreWithin m xs
more n m [] le h = omega arith
more n m (x ∷ xs) le h = (let inner = h.0 in omega (arith, inner, le), more n m xs le h.1)

with_attributes : (xs : List Attribute) → AreWithin 6 (attributes_member xs)
with_attributes xs = within-if 6 (length (map key_value xs) == 0) (list_member (codes "attributes") (map key_value xs)) (of_list 5 (codes "attributes") key_value xs (each _ attribute_depth xs))

pub count : (n : ℕ) (k : List ℕ) (c : ℕ) → AreWithin n (number_unless_zero k c)
count n k c = within-if n (c == 0) (number_member k c) (plain n k (number (unsigned c)) refl)

pub maybe_text : (n : ℕ) (k t : List ℕ) → AreWithin n (text_unless_empty k t)
maybe_text n k t = within-if n (length t == 0) (text_member k t) (plain n k (string t) refl)

-- ---- events and links
event_depth : (e : EventRecord) → depth (event e) ≤ 7
event_depth e =
    let front = decimal_member (codes "timeUnixNano") e.timestamp ++ text_member (codes "name") e.name in
    let lost = number_unless_zero (codes "droppedAttributesCount") e.dropped_attributes_count in
    of_members 6 (front ++ attributes_member e.attributes ++ lost)
    (within-append 6 (front ++ attributes_member e.attributes) lost
    (within-append 6 front (attributes_member e.attributes) (omega arith, (omega arith, omega arith)) (with_attributes e.attributes))
    (count 6 (codes "droppedAttributesCount") e.dropped_attributes_count))

context_within : (n : ℕ) (c : SpanContextRecord) → AreWithin n (context_members c)
context_within n c =
    within-append n (text_member (codes "traceId") (trace_id_text c.trace_id) ++ text_member (codes "spanId") (span_id_text c.span_id)) (text_unless_empty (codes "traceState") (header c.trace_state))
    (omega arith, (omega arith, omega arith)) (maybe_text n (codes "traceState") (header c.trace_state))

link_depth : (l : LinkRecord) → depth (link l) ≤ 7
link_depth l =
    let of_flags = number_member (codes "flags") (flags l.span_context.trace_flags l.span_context.is_remote) in
    let lost = number_unless_zero (codes "droppedAttributesCount") l.dropped_attributes_count in
    of_members 6 (context_members l.span_context ++ of_flags ++ attributes_member l.attributes ++ lost)
    (within-append 6 (context_members l.span_context ++ of_flags ++ attributes_member l.attributes) lost
    (within-append 6 (context_members l.span_context ++ of_flags) (attributes_member l.attributes)
    (within-append 6 (context_members l.span_context) of_flags (context_within 6 l.span_context) (omega arith, omega arith)) (with_attributes l.attributes))
    (count 6 (codes "droppedAttributesCount") l.dropped_attributes_count))

-- ---- spans
status_within : (st : Status) → AreWithin 8 (status_member st)
status_within status.Unset = omega arith
status_within status.Ok = (omega arith, omega arith)
status_within (status.Error d) =
    let inner = of_members 0 (number_member (codes "code") 2 ++ text_unless_empty (codes "message") d)
    (within-append 0 (number_member (codes "code") 2) (text_unless_empty (codes "message") d) (omega arith, omega arith) (maybe_text 0 (codes "message") d)) in
    (omega (arith, inner), omega arith)

identity_within : (s : SpanRecord) → AreWithin 8 (identity s)
identity_within s =
    let of_flags = number_member (codes "flags") (flags s.span_context.trace_flags s.parent_span_is_remote) in
    within-append 8 (context_members s.span_context ++ parent_member s.parent_span_id) of_flags
    (within-append 8 (context_members s.span_context) (parent_member s.parent_span_id) (context_within 8 s.span_context)
    (within-if 8 (s.parent_span_id == 0) (text_member (codes "parentSpanId") (span_id_text s.parent_span_id)) (omega arith, omega arith)))
    (omega arith, omega arith)

work_within : (s : SpanRecord) → AreWithin 8 (work s)
work_within s =
    within-append 8 (text_member (codes "name") s.name ++ number_member (codes "kind") (kind_number s.span_kind)
    ++ decimal_member (codes "startTimeUnixNano") s.start_time ++ decimal_member (codes "endTimeUnixNano") s.end_time) (status_member s.status)
    (omega arith, (omega arith, (omega arith, (omega arith, omega arith)))) (status_within s.status)

records_within : (s : SpanRecord) → AreWithin 8 (records s)
records_within s =
    within-append 8 (attributes_member s.attributes ++ events_member s.events) (links_member s.links)
    (within-append 8 (attributes_member s.attributes) (events_member s.events) (more 6 8 (attributes_member s.attributes) (omega arith) (with_attributes s.attributes))
    (within-if 8 (length (map event s.events) == 0) (list_member (codes "events") (map event s.events)) (of_list 7 (codes "events") event s.events (each _ event_depth s.events))))
    (within-if 8 (length (map link s.links) == 0) (list_member (codes "links") (map link s.links)) (of_list 7 (codes "links") link s.links (each _ link_depth s.links)))

losses_within : (s : SpanRecord) → AreWithin 8 (losses s)
losses_within s =
    let a = number_unless_zero (codes "droppedAttributesCount") s.dropped_attributes in
    let e = number_unless_zero (codes "droppedEventsCount") s.dropped_events in
    let l = number_unless_zero (codes "droppedLinksCount") s.dropped_links in
    within-append 8 (a ++ e) l (within-append 8 a e (count 8 (codes "droppedAttributesCount") s.dropped_attributes) (count 8 (codes "droppedEventsCount") s.dropped_events)) (count 8 (codes "droppedLinksCount") s.dropped_links)

span_depth : (s : SpanRecord) → depth (span s) ≤ 9
span_depth s =
    of_members 8 (identity s ++ work s ++ records s ++ losses s)
    (within-append 8 (identity s ++ work s ++ records s) (losses s)
    (within-append 8 (identity s ++ work s) (records s) (within-append 8 (identity s) (work s) (identity_within s) (work_within s)) (records_within s))
    (losses_within s))

-- ---- batches
scope_depth : (s : Scope) → depth (instrumentation_scope s) ≤ 7
scope_depth s =
    let front = text_member (codes "name") s.name ++ text_if_given (codes "version") s.version in
    of_members 6 (front ++ attributes_member (unique s.attributes))
    (within-append 6 front (attributes_member (unique s.attributes))
    (within-append 6 (text_member (codes "name") s.name) (text_if_given (codes "version") s.version) (omega arith, omega arith) (given 6 (codes "version") s.version))
    (with_attributes (unique s.attributes)))

-- of any form, if the items nest at most n deep
module _ {R : Type 0} (form : BatchForm R) (n : ℕ) (least : 6 ≤ n) where
  abbrev AllWithin : List R → Type 0
  AllWithin = All (λ x. depth (form.value_of x) ≤ n)

  group_depth : (xs : List R) → AllWithin xs → (s : Scope) → depth (scope_value form xs s) ≤ n + 2
  group_depth xs h s =
      let fs = filter (is_of form.scope_of s) xs in
      let items = list_member form.items (map form.value_of fs) in
      let url = text_if_given (codes "schemaUrl") s.schema_url in
      let scope = scope_depth s in
      let all = All-filter (is_of form.scope_of s) (λ x. depth (form.value_of x) ≤ n) xs h in
      let inner = of_members (suc n) ((codes "scope", instrumentation_scope s) ∷ items ++ url)
      (omega (arith, scope, least), within-append (suc n) items url (of_list n form.items form.value_of fs all) (given (suc n) (codes "schemaUrl") s.schema_url)) in
      omega (arith, inner)

  resource_depth : (r : Parts) (xs : List R) → AllWithin xs → depth (resource_value form r xs) ≤ n + 4
  resource_depth r xs h =
      let scopes = first_scopes form.scope_of [] xs in
      let groups = list_member form.scopes (map (scope_value form xs) scopes) in
      let url = text_if_given (codes "schemaUrl") r.schema_url in
      let of_r = of_members 6 (attributes_member r.attributes) (with_attributes r.attributes) in
      let all = of_list (n + 2) form.scopes (scope_value form xs) scopes (each _ (group_depth xs h) scopes) in
      let inner = of_members (suc (n + 2)) ((codes "resource", resource r) ∷ groups ++ url)
      (omega (arith, of_r, least), within-append (suc (n + 2)) groups url all (given (suc (n + 2)) (codes "schemaUrl") r.schema_url)) in
      omega (arith, inner)

  pub of_batch : (r : Parts) (xs : List R) → AllWithin xs → depth (batch_value form r xs) ≤ n + 6
  of_batch r xs h =
      let inner = resource_depth r xs h in
      let all = of_members (suc (n + 4)) (list_member form.resources (resource_value form r xs ∷ [])) (omega (arith, inner), omega arith) in
      omega (arith, all)

pub batch_depth : (r : Parts) (ss : List SpanRecord) → depth (traces_data r ss) ≤ 15
batch_depth r ss = of_batch form 9 (omega arith) r ss (each _ span_depth ss)
