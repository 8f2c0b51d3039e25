use Rattle.std.proofs.Common.{◌⊎◌, ◌≤◌, ◌∙◌, ap, length, string_bytes, inl, inr, arith}
use Rattle.otel_otlp.proofs.HttpParts.{adds_whole, adds_halves}
use Rattle.otel_otlp.proofs.otlp_http.part.+add_parts.Goals as goal

pub returns-then-len-max_body : goal.returns-then-len-max_body
returns-then-len-max_body g t c =
    let items = c.args.batch.now in
    let body = string_bytes c.in_ok-text.text in
    let fits : (length body ≤ c.args.max_body) ⊎ (length items ≤ 1) = elim c.then-len-max_body.either [ inl z ↦ inl (omega (arith, z, c.len.ensures)) | inr h ↦ inr h.1 ] in
    adds_whole g.R.Grouped.form c.args.resource.now c.args.max_body items body c.new.result c.args.parts.now.items c.push.new.self.items
    c.in_ok-text.ensures fits
    (c.new.ensures ∙ ap (λ b. record { body = b.items; items = items }) c.into_bytes.ensures.value)
    c.in_ok-push.ensures.items

pub returns : goal.returns
returns g t c =
    let body = string_bytes c.in_ok-text.text in
    adds_halves g.R.Grouped.form c.args.resource.now c.args.max_body c.args.batch.now c.split_at.result.0.now c.split_at.result.1.now body
    c.args.parts.now.items c.add_parts.new.parts.items c.add_parts-2.new.parts.items c.add_parts-2.result
    c.in_ok-text.ensures (omega (arith, c.if-len-max_body.false, c.len.ensures)) (omega (arith, c.if-batch-le1.false))
    c.split_at.ensures.front c.split_at.ensures.back c.in_ok-add_parts.ensures c.add_parts-2.ensures
