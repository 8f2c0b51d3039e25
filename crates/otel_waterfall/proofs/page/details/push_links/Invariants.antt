-- The links so far are appended.
use Rattle.std.proofs.Common.{◌≡◌, ◌++◌, map, take}
use Rattle.std.specs.String.{string_bytes}
use Rattle.opentelemetry.specs.View.{link_of}
use Rattle.otel_waterfall.specs.Details as spec
use Rattle.otel_waterfall.proofs.page.details.push_links.Given as goal

abbrev pub invariant-loop-link : goal.invariant-loop-link
invariant-loop-link l =
    string_bytes l.text
    ≡ string_bytes l.initial.text ++ spec.links (map link_of (take l.link-index l.links))
