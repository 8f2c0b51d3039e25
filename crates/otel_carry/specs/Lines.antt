-- The lines of the program's input. A line is the list of its bytes. Not in the Rust crate.
use Rattle.std.specs.Prelude.{◌≡◌, ◌≢◌, ℕ, ◌<◌, ◌≤◌, ◌^◌, ◌==◌, List, ◌∷◌, ◌++◌, length}
use Rattle.std.specs.Prelude.{Some, None, codes, All}
use Rattle.std.specs.List.{before_first}
use Rattle.std.specs.Str.Parse.{IsNumeral, digits_value}
use Rattle.otel_carry.specs.declared.lines.Line.{Line}
use Rattle.otel_carry.specs.declared.lines.Line.TheVariants.{Attach, Detach}
use Rattle.otel_carry.specs.declared.lines.Fault.{Fault}
use Rattle.otel_carry.specs.declared.lines.Fault.TheVariants.{UnknownCommand, BadName}
use Rattle.otel_carry.specs.declared.lines.Fault.TheVariants.{BadTraceState, BadNumber}

-- a name is one or more bytes `!` to `~`
abbrev pub IsName : List ℕ → Type 0
IsName name = (0 < length name) × All (λ byte. (33 ≤ byte) × (byte ≤ 126)) name

-- the text is one or more decimal digits of n, which fits a `usize`: `007` is 7
abbrev pub IsNumber : List ℕ → ℕ → Type 0
IsNumber text n = IsNumeral 10 text × (digits_value 10 text ≡ n) × (n < 2 ^ 64)

-- the text before the first space, as `a` in `a v=1`; the whole text if it has no space
abbrev pub first_word : List ℕ → List ℕ
first_word text = before_first (λ byte. byte == 32) text

-- the text names this attach: only its name, or its name, a space and its trace state
abbrev pub IsAttach : List ℕ → Line → Type 0
IsAttach text (Attach name None) = IsName name.now × (text ≡ name.now)
IsAttach text (Attach name (Some state)) = IsName name.now × (text ≡ name.now ++ (32 ∷ state.now))
IsAttach text (Detach number) = ⊥

-- the text names this detach: its number
abbrev pub IsDetach : List ℕ → Line → Type 0
IsDetach text (Attach name state) = ⊥
IsDetach text (Detach number) = IsNumber text number

-- the line requests this
abbrev pub Reads : List ℕ → Line → Type 0
Reads line (Attach name state) =
    (rest : List ℕ) × (line ≡ codes "attach " ++ rest) × IsAttach rest (Attach name state)
Reads line (Detach number) =
    (digits : List ℕ) × (line ≡ codes "detach " ++ digits) × IsDetach digits (Detach number)

-- the text that is written for a fault
abbrev pub fault_text : Fault → List ℕ
fault_text UnknownCommand = codes "unknown command"
fault_text BadName = codes "bad name"
fault_text BadTraceState = codes "bad trace state"
fault_text BadNumber = codes "bad number"

-- the line has this fault: it starts with neither word; or with `attach ` and no name; or with
-- `detach ` and no number that fits
abbrev pub IsFault : List ℕ → Fault → Type 0
IsFault line UnknownCommand =
    (rest : List ℕ) → (line ≢ codes "attach " ++ rest) × (line ≢ codes "detach " ++ rest)
IsFault line BadName =
    (rest : List ℕ) × (line ≡ codes "attach " ++ rest) × ¬ IsName (first_word rest)
IsFault line BadTraceState = ⊥
IsFault line BadNumber =
    (rest : List ℕ) × (line ≡ codes "detach " ++ rest) × ((n : ℕ) → ¬ IsNumber rest n)
