-- Groups of spans that have equal values.
use Rattle.std.proofs.Common.{◌≡◌, List, ℕ, Option, Some, None, true, refl, sym, ap, ◌∙◌, codes}
use Rattle.std.specs.Str.{bytes_eq}
use Rattle.otel_base.specs.InstrumentationScope.{Scope}
use Rattle.serde_json.specs.Data.{Data, null, string}
use Rattle.otel_otlp.specs.Common.{instrumentation_scope}
use Rattle.otel_otlp.specs.Json.{text_if_given}
use Rattle.otel_otlp.specs.Lossless.{EqualGroupsNameSame}
use Rattle.otel_otlp.specs.Traces.{form}
use Rattle.otel_otlp.proofs.Found.{if_so, found, same_found, text_in}
use Rattle.otel_otlp.proofs.GroupMembers as groups
use Rattle.otel_otlp.proofs.GroupMembers.{IsNamed, scope_members, name_in, version_found}

-- the text of the value that is found, if there is one
abbrev pub given_in : Option Data → Option (List ℕ)
given_in (Some (string s)) = Some s
given_in other = None

pub given_again : (q : List ℕ) (t : Option (List ℕ)) → bytes_eq q q ≡ true → given_in (found q (text_if_given q t)) ≡ t
given_again q None r = refl
given_again q (Some t) r = ap (λ b. given_in (if_so b (string t))) r

abbrev pub inside : Option Data → Data
inside None = null
inside (Some d) = d

pub spans_named : IsNamed form
spans_named = record {
  items = record { value_list = refl; value_url = refl; list_url = refl; url_value = refl; url_list = refl };
  scopes = record { value_list = refl; value_url = refl; list_url = refl; url_value = refl; url_list = refl };
}

pub version_in : (s : Scope) → given_in (found (codes "version") (scope_members s)) ≡ s.version
version_in s = ap given_in (version_found s) ∙ given_again (codes "version") s.version refl

pub equal_groups_name_same : EqualGroupsNameSame
equal_groups_name_same ss ts a b e =
    let scope_in = groups.scope_found form spans_named in
    let members = groups.group_members form in
    let scopes : instrumentation_scope a ≡ instrumentation_scope b =
    ap inside (sym (scope_in ss a) ∙ same_found (codes "scope") (members ss a) (members ts b) e ∙ scope_in ts b) in
    record {
      name = ap text_in (sym (name_in a) ∙ same_found (codes "name") (scope_members a) (scope_members b) scopes ∙ name_in b);
      version = sym (version_in a) ∙ ap given_in (same_found (codes "version") (scope_members a) (scope_members b) scopes) ∙ version_in b;
    }
