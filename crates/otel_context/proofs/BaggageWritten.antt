-- One more member is written, after the comma before it.
use Rattle.std.proofs.Common.{◌≡◌, ℕ, List, [], ◌∷◌, ◌++◌, length, map, refl, sym, ap, ◌∙◌}
use Rattle.std.proofs.lemmas.List.{map-append, length-map}
use Rattle.std.specs.Fmt.{HasWritten}
use Rattle.std.specs.declared.fmt.Formatter.{Formatter}
use Rattle.std.specs.List.{join_with_byte}
use Rattle.std.proofs.Output.{has_written_append, has_written_of_eq}
use Rattle.otel_base.specs.Array.{separator}
use Rattle.otel_base.proofs.shared.Joined.{joined-push}
use Rattle.otel_context.specs.BaggageMember.{Member}
use Rattle.otel_context.specs.BaggageHeader.{member_text, header}
use Rattle.otel_context.specs.BaggageView.{Entry, entry_member, entry_members}

pub comma_after : {X : Type 0} (xs : List X) (x : X) → 44 ∷ [] ≡ separator (length (xs ++ x ∷ []))
comma_after [] x = refl
comma_after (y ∷ ys) x = refl

header-push : (ts : List Member) (t : Member) → header ts ++ (separator (length ts) ++ member_text t) ≡ header (ts ++ t ∷ [])
header-push ts t =
    ap (λ n. header ts ++ (separator n ++ member_text t)) (sym (length-map ts member_text))
    ∙ sym (joined-push (map member_text ts) (member_text t))
    ∙ ap (join_with_byte 44) (sym (map-append member_text ts (t ∷ [])))

one_more : {A : Type 0} (shows : A → Entry) (xs : List A) (x : A) → entry_members (map shows xs) ++ entry_member (shows x) ∷ [] ≡ entry_members (map shows (xs ++ x ∷ []))
one_more shows xs x = sym (map-append entry_member (map shows xs) (shows x ∷ [])) ∙ ap entry_members (sym (map-append shows xs (x ∷ [])))

count_is : {A : Type 0} (shows : A → Entry) (xs : List A) → length xs ≡ length (entry_members (map shows xs))
count_is shows xs = sym (length-map xs shows) ∙ sym (length-map (map shows xs) entry_member)

pub written_more : {W A : Type 0} (took : W → List ℕ → W → Type 0) (shows : A → Entry) (start f g h : Formatter W) (xs : List A) (x : A) (comma : List ℕ) → comma ≡ separator (length xs)
    → HasWritten took start (header (entry_members (map shows xs))) f → HasWritten took f comma g → HasWritten took g (member_text (entry_member (shows x))) h
    → HasWritten took start (header (entry_members (map shows (xs ++ x ∷ [])))) h
written_more took shows start f g h xs x comma is before first then =
    let ms = entry_members (map shows xs) in
    let m = entry_member (shows x) in
    has_written_of_eq took start (header ms ++ (comma ++ member_text m)) (header (entry_members (map shows (xs ++ x ∷ [])))) h
    (ap (λ s. header ms ++ (s ++ member_text m)) (is ∙ ap separator (count_is shows xs))
    ∙ header-push ms m
    ∙ ap header (one_more shows xs x))
    (has_written_append took start _ f _ h before (has_written_append took f _ g _ h first then))
