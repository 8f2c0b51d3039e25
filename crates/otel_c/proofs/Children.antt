-- The parts of starting a child make up the whole.
use Rattle.std.proofs.Common.{◌≡◌, ◌∙◌, Bool, true, false, Option, Some, Result, Ok, Err, OnOk}
use Rattle.std.proofs.Common.{refl, sym, ap, inr}
use Rattle.otel_ids.specs.SpanContext.{SpanContextRecord}
use Rattle.otel_context.specs.Context.{ContextRecord, span_context, with_remote_span_context}
use Rattle.otel_propagators.specs.TraceContext.{is_valid}
use Rattle.otel_c.specs.declared.object.Object.{Object}
use Rattle.otel_c.specs.declared.span.SpanParts.{SpanParts}
use Rattle.otel_c.specs.declared.status.Status.{Status}
use Rattle.otel_c.specs.declared.status.Status.TheVariants as status
use Rattle.otel_c.specs.Object.{context_of}
use Rattle.otel_c.specs.Child.{child_of, begun, StartsChild, StartRefused}

module _ (given : SpanParts) (object : Option Object) (context : ContextRecord)
    (from : context_of object ≡ Some context) (parent child : SpanContextRecord)
    (below : parent ≡ span_context context) (is : child ≡ child_of given parent) (valid : Bool)
    (tested : valid ≡ is_valid child) where
  here : child ≡ begun given context
  here = is ∙ ap (child_of given) below

  pub starts : {A : Type 0} (r : Result A Status) (new : Option Object) (made : ContextRecord)
      → valid ≡ true → made ≡ with_remote_span_context context child
      → OnOk r (context_of new ≡ Some made) → OnOk r (StartsChild given object new)
  starts (Ok v) new made good made_is into = record {
    context = context;
    from = from;
    valid = ap is_valid (sym here) ∙ sym tested ∙ good;
    into = into ∙ ap Some (made_is ∙ ap (with_remote_span_context context) here);
  }
  starts (Err s) new made good made_is h = h

  pub refuses_start : valid ≡ false → StartRefused given object status.Invalid
  refuses_start bad = inr (record {
    context = context;
    from = from;
    status = refl;
    is = ap is_valid (sym here) ∙ sym tested ∙ bad;
  })
