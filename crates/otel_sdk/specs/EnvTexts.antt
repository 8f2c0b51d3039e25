-- The texts of environment variables, and warnings about them.
use Rattle.std.specs.Prelude.{◌≡◌, ℕ, ◌^◌, ◌==◌, Bool, true, false, not, ◌&&◌, ◌||◌, List, [], ◌∷◌}
use Rattle.std.specs.Prelude.{Option, Some, None, is_some, map, length, codes, refl, nat_lt, nat_le}
use Rattle.std.specs.Prelude.{if◌then◌else◌, string_bytes}
use Rattle.std.specs.Option.{unwrap_or, option_or}
use Rattle.std.specs.Char.{is_ascii_digit}
use Rattle.std.specs.List.{list_all}
use Rattle.std.specs.Str.{bytes_eq, str_eq_ignore_ascii_case}
use Rattle.std.specs.Str.Parse.{digits_value}
use Rattle.std.specs.declared.string.String.{String}
use Rattle.otel_base.specs.Blanks.{cut_blanks}
use Rattle.otel_sdk.specs.declared.env.warning.EnvWarning.{EnvWarning}
use Rattle.otel_sdk.specs.declared.env.warning.Instead.{Instead}
use Rattle.otel_sdk.specs.declared.env.warning.Instead.TheVariants.{Number, NoLimit}

-- the names of variables with their texts
abbrev pub Variables : Type 0
Variables = List (List ℕ × List ℕ)

-- the variables that the caller gave
abbrev pub variables_of : {A : Type 0} → List (String A × String A) → Variables
variables_of given = map (λ v. (string_bytes v.0, string_bytes v.1)) given

-- The text of the first variable of the name, without the blanks at its ends. It is empty if the
-- variable isn't set.
abbrev pub text_of : List ℕ → Variables → List ℕ
text_of name [] = []
text_of name (v ∷ vs) = if bytes_eq v.0 name then cut_blanks v.1 else text_of name vs

-- whether the text is longer than a variable of OTLP may be: with the path of a signal added, a URL
-- of 65,000 bytes still is one, and so many bytes list no more headers than a map holds
abbrev pub is_long : List ℕ → Bool
is_long text = nat_lt 65000 (length text)

-- the text, or an empty one if it is longer than that
abbrev pub short : List ℕ → List ℕ
short text = if is_long text then [] else text

-- whether the text is the name, in any case of ASCII letters
abbrev pub is_named : List ℕ → List ℕ → Bool
is_named text name = str_eq_ignore_ascii_case text name

-- ---- warnings

-- whether the variable isn't set, or is empty
abbrev pub is_unset : List ℕ → Bool
is_unset text = length text == 0

-- that the text of the variable doesn't count, and what counts instead
abbrev pub warning : List ℕ → List ℕ → Instead → EnvWarning
warning name text instead = record { name = name; value = text; instead = instead }

-- a warning about the text, unless it is understood or empty
abbrev pub warned : Bool → List ℕ → List ℕ → Instead → List EnvWarning
warned understood name text instead =
    if understood || is_unset text then [] else warning name text instead ∷ []

-- ---- numbers

-- whether the text has only ASCII digits
abbrev pub has_digits : List ℕ → Bool
has_digits text = list_all is_ascii_digit text

-- whether the number is at least `least` and fits a `u32`
abbrev pub is_in_range : ℕ → ℕ → Bool
is_in_range least n = nat_le least n && nat_lt n (2 ^ 32)

-- whether the text is one or more digits of a number in this range
abbrev pub is_number : ℕ → List ℕ → Bool
is_number least text =
    not (is_unset text) && has_digits text && is_in_range least (digits_value 10 text)

-- the number that the text denotes: `007` is 7, and `+7` and `7.0` are none
abbrev pub number : ℕ → List ℕ → Option ℕ
number least text = if is_number least text then Some (digits_value 10 text) else None

-- the variable's number, or the default
abbrev pub number_or : List ℕ → ℕ → ℕ → Variables → ℕ
number_or name least default vars = unwrap_or (number least (text_of name vars)) default

-- the warning about a variable that isn't a number
abbrev pub number_warnings : List ℕ → ℕ → ℕ → Variables → List EnvWarning
number_warnings name least default vars =
    warned (is_some (number least (text_of name vars))) name (text_of name vars) (Number default)

-- the variable's number as a limit, or the default, which may be no limit
abbrev pub limit_or : List ℕ → Option ℕ → Variables → Option ℕ
limit_or name default vars = option_or (number 0 (text_of name vars)) default

-- the limit in a warning
abbrev pub limit_instead : Option ℕ → Instead
limit_instead (Some n) = Number n
limit_instead None = NoLimit

-- the warning about a variable that isn't a limit
abbrev pub limit_warnings : List ℕ → Option ℕ → Variables → List EnvWarning
limit_warnings name default vars =
    warned (is_some (number 0 (text_of name vars))) name (text_of name vars) (limit_instead default)

-- ---- worked rows
abbrev some_vars : Variables
some_vars = (codes "A", codes " 7 ") ∷ (codes "B", codes "-1") ∷ (codes "A", codes "8") ∷ []

first_counts : text_of (codes "A") some_vars ≡ codes "7"
first_counts = refl

unset_example : text_of (codes "C") some_vars ≡ []
unset_example = refl

case_example : (is_named (codes "HTTP/json") (codes "http/json") ≡ true)
    × (is_named (codes "http/jso") (codes "http/json") ≡ false)
case_example = (refl, refl)

number_examples : (number 0 (codes "0") ≡ Some 0) × (number 0 (codes "007") ≡ Some 7)
    × (number 0 (codes "4294967295") ≡ Some 4294967295)
number_examples = (refl, refl, refl)

no_number_examples : (number 0 (codes "-1") ≡ None) × (number 0 (codes "+1") ≡ None)
    × (number 0 (codes "4294967296") ≡ None) × (number 1 (codes "0") ≡ None)
    × (number 0 (codes "1 2") ≡ None) × (number 0 [] ≡ None)
no_number_examples = (refl, refl, refl, refl, refl, refl)

default_example : (number_or (codes "B") 0 128 some_vars ≡ 128)
    × (number_warnings (codes "B") 0 128 some_vars
    ≡ warning (codes "B") (codes "-1") (Number 128) ∷ [])
default_example = (refl, refl)
