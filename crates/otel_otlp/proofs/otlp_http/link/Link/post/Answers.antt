use Rattle.std.proofs.Common.{ap, ◌∙◌, inl}
use Rattle.otel_otlp.proofs.otlp_http.link.Link.post.Goals as goal

pub returns-clause-posted : goal.returns-clause-posted
returns-clause-posted g c =
    inl (record {
      request = c.from_parts-request.result;
      head_is = c.from_parts-request.ensures.head ∙ c.replace-head.ensures.value;
      body_is = ap (λ v. v.items) c.from_parts-request.ensures.body ∙ c.in-Ok.ensures.items;
      sends = c.send_bytes-answer.ensures.sends;
      answered = c.send_bytes-answer.ensures.answered;
    })
