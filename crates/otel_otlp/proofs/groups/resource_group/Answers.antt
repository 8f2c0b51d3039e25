use Rattle.std.proofs.Common.{[], ◌∷◌, codes, map, refl, subst}
use Rattle.json.specs.Token.{key, begin_array}
use Rattle.otel_otlp.specs.Common.{resource}
use Rattle.otel_otlp.specs.Groups.{scope_value, first_scopes}
use Rattle.otel_otlp.specs.Json.{text_if_given}
use Rattle.otel_otlp.specs.Tokens.{Appended, HasMembers}
use Rattle.otel_otlp.proofs.Places.{list_third}
use Rattle.otel_otlp.proofs.Tokens.{token, last_token, and_members, whole_member, whole_list}
use Rattle.otel_otlp.proofs.groups.resource_group.Goals as goal

pub returns : goal.returns
returns g c =
    let form = g.R.Grouped.form in
    let places = c.list_names.ensures.places in
    let of = c.args.of.now in
    let batch = c.args.batch.now in
    let value = whole_member (token c.in_ok-key.was c.key.ensures) c.in_ok-resource.ensures in
    let url = subst (λ text. HasMembers c.resource.new.out c.put_text_if_given.new.out (text_if_given (codes "schemaUrl") text)) c.schema_url.ensures c.in_ok-put_text_if_given.ensures in
    let begins = subst (λ n. Appended c.put_text_if_given.new.out c.begin_list.new.out (key n ∷ begin_array ∷ [])) c.list_names.ensures.scopes c.in_ok-begin_list.ensures in
    let scopes = whole_list begins c.in_ok-groups.ensures (token c.in_ok-end_array.was c.end_array.ensures) in
    last_token c.end_object.result c.end_object.ensures (λ ends.
    list_third (codes "resource") form.scopes (codes "schemaUrl") (resource of) (map (scope_value form batch) (first_scopes form.scope_of [] batch)) of.schema_url
    places.scopes_resource places.scopes_url refl (token c.in_ok-begin_object.was c.begin_object.ensures) (and_members value (and_members url scopes)) ends)
