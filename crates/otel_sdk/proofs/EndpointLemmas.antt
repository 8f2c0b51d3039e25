-- A text has one fault as an endpoint.
use Rattle.std.proofs.Common.{◌≡◌, ℕ, Bool, true, false, not, ◌&&◌, ◌||◌, if◌then◌else◌, List, Option, Some, None, codes, refl, sym, ap, ◌∙◌}
use Rattle.std.specs.Option.{option_map_or}
use Rattle.std.specs.Str.{bytes_eq}
use Rattle.http_uri.specs.Grammar.{authority_host}
use Rattle.http_uri.specs.Uri.{uri_authority, uri_scheme}
use Rattle.http_uri.specs.declared.uri.Uri.{Uri}
use Rattle.http_uri.proofs.Theorems.{Spells_unique}
use Rattle.otel_sdk.specs.EnvEndpoints.{IsUrl, IsFault, AreFaults, fault_of, fault_in, has_at, has_only_ascii, has_query}
use Rattle.otel_sdk.specs.EnvTexts.{Variables, is_long, is_unset}
use Rattle.otel_sdk.specs.declared.env.endpoints.EndpointFaults.{EndpointFaults}
use Rattle.otel_sdk.specs.declared.env.warning.EnvFault.{EnvFault}
use Rattle.otel_sdk.specs.declared.env.warning.EnvFault.TheVariants as fault

-- the fault of a URL with this scheme and this authority
fault_by : Bool → List ℕ → Option (List ℕ) → Option (List ℕ) → Option EnvFault
fault_by is_of_all text scheme authority =
    if not (option_map_or (λ s. bytes_eq s (codes "http") || bytes_eq s (codes "https")) scheme false) then Some fault.Scheme
    else (if option_map_or has_at authority false then Some fault.UserInfo
    else (if not (option_map_or (λ a. not (is_unset (authority_host a))) authority false) || not (has_only_ascii text) then Some fault.Url
    else (if is_of_all && has_query text then Some fault.Query else None)))

same_fault : (is_of_all : Bool) (text : List ℕ) (u v : Uri) → uri_scheme u ≡ uri_scheme v → uri_authority u ≡ uri_authority v
    → fault_of is_of_all text u ≡ fault_of is_of_all text v
unfolding fault_by
same_fault is_of_all text u v scheme authority =
    ap (λ s. fault_by is_of_all text s (uri_authority u)) scheme ∙ ap (λ a. fault_by is_of_all text (uri_scheme v) a) authority

one_found : (is_of_all : Bool) (text : List ℕ) (u v : Option Uri) → IsUrl text u → IsUrl text v → fault_in is_of_all text u ≡ fault_in is_of_all text v
one_found is_of_all text None None h k = refl
one_found is_of_all text None (Some v) h k = absurd (h _ _ _ k)
one_found is_of_all text (Some u) None h k = absurd (k _ _ _ h)
one_found is_of_all text (Some u) (Some v) h k =
    let same = Spells_unique text u v h k in
    ap (λ found. if is_long text then Some fault.Length else found) (same_fault is_of_all text u v same.0 same.1)

one_fault : (is_of_all : Bool) (text : List ℕ) (x y : Option EnvFault) → IsFault is_of_all text x → IsFault is_of_all text y → x ≡ y
one_fault is_of_all text x y h k = h.2 ∙ one_found is_of_all text h.0 k.0 h.1 k.1 ∙ sym k.2

-- the endpoints of some variables have the same faults
pub one_faults : (vars : Variables) (a b : EndpointFaults) → AreFaults vars a → AreFaults vars b → a ≡ b
one_faults vars a b h k = λ i. record {
  all = one_fault true _ a.all b.all h.all k.all i;
  traces = one_fault false _ a.traces b.traces h.traces k.traces i;
  logs = one_fault false _ a.logs b.logs h.logs k.logs i;
}
