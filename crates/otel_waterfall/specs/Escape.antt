-- Texts in HTML. Not in the Rust crates.
use Rattle.std.specs.Prelude.{◌≡◌, ℕ, ◌==◌, false, ◌||◌, if◌then◌else◌, codes, refl}
use Rattle.std.specs.Prelude.{List, [], ◌∷◌, ◌++◌, chars, encode_utf8, map}
use Rattle.std.specs.Fmt.{decimal}
use Rattle.std.specs.List.{flat_map}
use Rattle.otel_waterfall.specs.Name.{shown}
use Rattle.ucd_category.proofs.Computing.{ucd_category}

-- a character as a page shows it: newlines and tabs as they are, others as a terminal shows them
abbrev pub harmless : ℕ → ℕ
harmless c = if c == 10 || c == 9 then c else shown false c

-- the text of a character: & < > " and ' as references, another one as it is shown
abbrev pub char_text : ℕ → List ℕ
char_text c =
    if c == 38 then codes "&amp;" else if c == 60 then codes "&lt;"
    else if c == 62 then codes "&gt;" else if c == 34 then codes "&quot;"
    else if c == 39 then codes "&#39;" else encode_utf8 (harmless c)

-- a text that isn't ours as a page has it
abbrev pub escaped : List ℕ → List ℕ
escaped text = flat_map char_text (chars text)

-- the same between two texts of ours
abbrev pub between : List ℕ → List ℕ → List ℕ → List ℕ
between before text after = before ++ (escaped text ++ after)

-- a name and its value
abbrev pub field : List ℕ → List ℕ → List ℕ
field name value =
    between (codes "<dt>") name (codes "</dt>") ++ between (codes "<dd>") value (codes "</dd>")

-- a name and a number, unless that is 0
abbrev pub count_field : List ℕ → ℕ → List ℕ
count_field name n = if n == 0 then [] else field name (decimal n)

-- ---- worked rows
five_characters : flat_map char_text (codes "<&>\"'") ≡ codes "&lt;&amp;&gt;&quot;&#39;"
five_characters = refl

-- U+202E, which turns the direction, and a newline
turned : map harmless (0x202E ∷ 10 ∷ codes "a") ≡ codes "?\na"
unfolding ucd_category
turned = refl
