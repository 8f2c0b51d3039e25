-- The colours of texts, as ECMA-48 writes them: SGR 1, 31 and 0.
use Rattle.std.specs.Prelude.{ℕ, Bool, List, [], ◌∷◌, ◌++◌, codes, if◌then◌else◌, nat_eq}
use Rattle.std.specs.List.{ends_with}
use Rattle.otel_view.specs.declared.color.Paint.{Paint}
use Rattle.otel_view.specs.declared.color.Paint.TheVariants.{Plain, Strong, Error}

-- what is written in front of a text
abbrev pub start : Paint → List ℕ
start Plain = []
start Strong = 27 ∷ codes "[1m"
start Error = 27 ∷ codes "[31m"

-- what is written after it
abbrev pub end : Paint → List ℕ
end Plain = []
end Strong = 27 ∷ codes "[0m"
end Error = 27 ∷ codes "[0m"

-- a text that is shown so
abbrev pub painted : Paint → List ℕ → List ℕ
painted paint_of text = start paint_of ++ (text ++ end paint_of)

-- whether a line of a picture is of a span with an error
abbrev pub is_error_line : List ℕ → Bool
is_error_line line = ends_with nat_eq line (codes " error")

-- how a text is shown, with colours or without
abbrev pub paint : Bool → Paint → Paint
paint are_on paint_of = if are_on then paint_of else Plain

-- how a text is shown that may be an error
abbrev pub error_if : Bool → Bool → Paint
error_if are_on is_error = if is_error then paint are_on Error else Plain
