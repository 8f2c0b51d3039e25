-- The parts of a line. Not in the Rust crates.
use Rattle.std.specs.Prelude.{ℕ, ◌-◌, max, Bool, List, [], ◌++◌, length, replicate, codes}
use Rattle.otel_waterfall.specs.Columns.{group_limit, name_width}
use Rattle.otel_waterfall.specs.Name.{columns_of, fitted}
use Rattle.otel_waterfall.specs.Prefix.{prefix_text}
use Rattle.otel_waterfall.specs.declared.span.Outcome.{Outcome}
use Rattle.otel_waterfall.specs.declared.span.Outcome.TheVariants as outcome

-- the text that the line of a span shows for its status
abbrev pub outcome_text : Outcome → List ℕ
outcome_text outcome.Unset = []
outcome_text outcome.Ok = codes "ok"
outcome_text outcome.Error = codes "error"

-- the characters in front of a name in a picture with this width
abbrev pub front : Bool → ℕ → List Bool → List ℕ
front ascii width follows = prefix_text ascii (group_limit width) follows

-- the columns that these characters leave for the name
abbrev pub columns_after : Bool → ℕ → List Bool → ℕ
columns_after ascii width follows = max (name_width width - length (front ascii width follows)) 1

-- the spaces after a name in this many columns
abbrev pub spaces_after : Bool → ℕ → List ℕ → List ℕ
spaces_after ascii columns name = replicate (columns - columns_of (fitted ascii columns name)) 32

-- the first column of a line: the branches, the name and spaces
abbrev pub name_text : Bool → ℕ → List Bool → List ℕ → List ℕ
name_text ascii width follows name =
    (front ascii width follows ++ fitted ascii (columns_after ascii width follows) name)
    ++ spaces_after ascii (columns_after ascii width follows) name
