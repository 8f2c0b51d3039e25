-- The baggage of a tenant.
use Rattle.std.specs.Prelude.{List, [], ◌∷◌, codes}
use Rattle.otel_context.specs.BaggageMember.{Member, member_of}

-- its members: `tenant` is `acme`, and `region` is `eu west`
abbrev pub of_tenant : List Member
of_tenant =
    member_of (codes "tenant") (codes "acme") []
    ∷ member_of (codes "region") (codes "eu west") []
    ∷ []
