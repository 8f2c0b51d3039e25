use Rattle.std.proofs.Common.{◌≡◌, ℕ, List, [], ◌∷◌, codes, refl, ◌∙◌}
use Rattle.otel_context.specs.Baggage.{insert}
use Rattle.otel_context.specs.BaggageMember.{Member, member_of}
use Rattle.otel_examples.proofs.api.baggage.of_tenant.Goals as goal

-- two inserts into the empty baggage, if the texts are these
two : (none first both : List Member) (j v k w : List ℕ)
    → j ≡ codes "tenant" → v ≡ codes "acme" → k ≡ codes "region" → w ≡ codes "eu west"
    → none ≡ [] → first ≡ insert none (member_of j v []) → both ≡ insert first (member_of k w [])
    → both ≡ member_of (codes "tenant") (codes "acme") [] ∷ member_of (codes "region") (codes "eu west") [] ∷ []
two none first both j v k w tenant acme region west empty one then = then ∙ rw (one, empty, tenant, acme, region, west) refl

pub returns : goal.returns
returns c = two _ _ _ _ _ _ _ c.from.ensures c.from-2.ensures c.from-3.ensures c.from-4.ensures c.new-baggage.ensures c.in_ok-insert.ensures.ok c.in_ok-insert-2.ensures.ok
