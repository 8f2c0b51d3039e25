-- Blanks, and the text without the blanks at its ends.
use Rattle.std.specs.Prelude.{◌≡◌, ℕ, Bool, true, false, ◌&&◌, ◌||◌, ◌==◌, List, [], ◌∷◌}
use Rattle.std.specs.Prelude.{if◌then◌else◌}
use Rattle.std.specs.List.{list_all}

-- a space or a tab [W3C trace-context-2, "list": OWS, of RFC 7230 section 3.2.3]
abbrev pub is_blank : ℕ → Bool
is_blank b = b == 32 || b == 9

-- the text is empty or has only blanks
abbrev pub IsBlanks : List ℕ → Type 0
IsBlanks text = list_all is_blank text ≡ true

-- whether the last byte is a blank
abbrev pub ends_in_blank : List ℕ → Bool
ends_in_blank [] = false
ends_in_blank (b ∷ []) = is_blank b
ends_in_blank (b ∷ c ∷ bs) = ends_in_blank (c ∷ bs)

-- the text without the blanks at its front
abbrev pub cut_front : List ℕ → List ℕ
cut_front [] = []
cut_front (b ∷ bs) = if is_blank b then cut_front bs else b ∷ bs

-- the text without the blanks at its end
abbrev pub cut_end : List ℕ → List ℕ
cut_end [] = []
cut_end (b ∷ bs) = if is_blank b && list_all is_blank bs then [] else b ∷ cut_end bs

-- the text without the blanks at both ends: a=1 for a=1 with a space before and a tab after it
abbrev pub cut_blanks : List ℕ → List ℕ
cut_blanks bs = cut_end (cut_front bs)
