-- The picture of no spans.
use Rattle.std.proofs.Common.{◌≡◌, ℕ, Bool, true, List, [], ◌∷◌, length, nat_eq, refl, arith}
use Rattle.std.specs.Prelude.{Option}
use Rattle.std.proofs.KnownBytes.{Appends-nil}
use Rattle.std.proofs.lemmas.Bool.Decides.{nat_tests}
use Rattle.std.proofs.lemmas.List.Elements.{All-nil}
use Rattle.otel_sdk_span.specs.SpanData.{SpanRecord}
use Rattle.otel_waterfall.specs.Exporter.{AddsPicture}
use Rattle.otel_waterfall.specs.Picture.{HasEachSpan}

pub no_picture : (ascii : Bool) (width : ℕ) (batch : List SpanRecord) (known : Option (List ℕ))
    → true ≡ nat_eq (length batch) 0 → AddsPicture ascii width batch known known
no_picture ascii width [] known e =
    ([], record { once = All-nil (HasEachSpan []); is = refl }, Appends-nil known)
no_picture ascii width (s ∷ more) known e = absurd (grind (arith, nat_tests, e))
