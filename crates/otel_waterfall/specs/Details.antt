-- The details of a span on a page. Not in the Rust crates.
use Rattle.std.specs.Prelude.{ℕ, ◌==◌, if◌then◌else◌, codes, List, [], ◌++◌}
use Rattle.std.specs.List.{flat_map}
use Rattle.otel_base.specs.KeyValue.{Attribute}
use Rattle.otel_base.specs.Value.{display}
use Rattle.otel_context.specs.declared.span.status.SpanKind.{SpanKind}
use Rattle.otel_context.specs.declared.span.status.SpanKind.TheVariants as kind
use Rattle.otel_context.specs.declared.span.status.Status.{Status}
use Rattle.otel_context.specs.declared.span.status.Status.TheVariants as status
use Rattle.otel_ids.specs.Ids.{id_text}
use Rattle.opentelemetry.specs.Event.{EventRecord, LinkRecord}
use Rattle.otel_waterfall.specs.Duration.{duration_text}
use Rattle.otel_waterfall.specs.Escape.{between, field, count_field}
use Rattle.otel_waterfall.specs.declared.page.PageSpan.{PageSpan}

-- ---- attributes
abbrev pub attribute : Attribute → List ℕ
attribute a = field a.0 (display a.1)

abbrev pub attributes : List Attribute → List ℕ
attributes items = flat_map attribute items

-- ---- events and links
-- the time from the trace's start to a moment
abbrev pub offset : ℕ → ℕ → List ℕ
offset from moment =
    between (codes "<span class=at>") (duration_text from moment) (codes "</span>")

abbrev pub event_name : List ℕ → List ℕ
event_name name = between (codes "<li><b><bdi>") name (codes "</bdi></b> ")

-- an event: its name, its time after the trace's start, its attributes
abbrev pub event : ℕ → EventRecord → List ℕ
event from e =
    event_name e.name ++ (offset from e.timestamp ++ (codes "<dl>" ++ (attributes e.attributes
    ++ (count_field (codes "dropped attributes") e.dropped_attributes_count
    ++ codes "</dl></li>"))))

abbrev pub events : ℕ → List EventRecord → List ℕ
events from items = flat_map (event from) items

-- the first text of a link: the ids of the other span
abbrev pub link_head : ℕ → ℕ → List ℕ
link_head trace span =
    codes "<li>trace " ++ (id_text 32 trace ++ (codes " span " ++ (id_text 16 span
    ++ codes "<dl>")))

abbrev pub link : LinkRecord → List ℕ
link l =
    link_head l.span_context.trace_id l.span_context.span_id ++ (attributes l.attributes
    ++ (count_field (codes "dropped attributes") l.dropped_attributes_count ++ codes "</dl></li>"))

abbrev pub links : List LinkRecord → List ℕ
links items = flat_map link items

-- ---- facts
abbrev pub kind_text : SpanKind → List ℕ
kind_text kind.Internal = codes "internal"
kind_text kind.Server = codes "server"
kind_text kind.Client = codes "client"
kind_text kind.Producer = codes "producer"
kind_text kind.Consumer = codes "consumer"

-- a status, unless it is unset: ok, or the description of the error
abbrev pub status_field : Status → List ℕ
status_field status.Unset = []
status_field status.Ok = field (codes "status") (codes "ok")
status_field (status.Error description) = field (codes "error") description

-- the id of a span, unless it is invalid
abbrev pub id_field : List ℕ → ℕ → List ℕ
id_field name n = if n == 0 then [] else field name (id_text 16 n)

-- when a span started after the trace's start
abbrev pub start_field : ℕ → ℕ → List ℕ
start_field from moment = field (codes "starts at") (duration_text from moment)

-- the numbers of dropped parts
abbrev pub dropped : PageSpan → List ℕ
dropped s =
    count_field (codes "dropped attributes") s.data.dropped_attributes
    ++ (count_field (codes "dropped events") s.data.dropped_events
    ++ count_field (codes "dropped links") s.data.dropped_links)

-- the error of a span first, then its service, kind, start and ids
abbrev pub facts : ℕ → PageSpan → List ℕ
facts from s =
    status_field s.data.status ++ (field (codes "service") s.service
    ++ (field (codes "kind") (kind_text s.data.span_kind) ++ (start_field from s.data.start_time
    ++ (id_field (codes "span") s.data.span_context.span_id
    ++ (id_field (codes "parent") s.data.parent_span_id ++ dropped s)))))

-- ---- details
abbrev pub lists : ℕ → PageSpan → List ℕ
lists from s =
    codes "<h4>attributes</h4><dl>" ++ (attributes s.data.attributes
    ++ (codes "</dl><h4>events</h4><ol>" ++ (events from s.data.events
    ++ (codes "</ol><h4>links</h4><ol>" ++ (links s.data.links ++ codes "</ol>")))))

-- the name of a span, before its facts
abbrev pub heading : List ℕ → List ℕ
heading name = between (codes "<div><h3><bdi>") name (codes "</bdi></h3><dl>")

-- the details of a span of a trace that starts at `from`
abbrev pub details : ℕ → PageSpan → List ℕ
details from s =
    heading s.data.name ++ (facts from s
    ++ (codes "</dl>" ++ (lists from s ++ codes "</div>")))
