-- Headers are written as lines, one after another.
use Rattle.std.proofs.Common.{◌≡◌, ℕ, List, [], ◌∷◌, ◌++◌, sym, ap, ◌∙◌, append_assoc}
use Rattle.std.specs.Fmt.{HasWritten, IsPlainFormatter}
use Rattle.std.specs.List.{flat_map}
use Rattle.std.specs.declared.fmt.Formatter.{Formatter}
use Rattle.std.proofs.Output.{has_written_append, writes_in_calls_nil}
use Rattle.http_header.specs.FieldValue.{FieldValue}
use Rattle.http_header.specs.HeaderMap.{pairs}
use Rattle.otel_http.specs.Headers.{Headers}
use Rattle.otel_http.specs.Lines.{header_line, header_lines}

-- a text is written, and with the lines of these headers it is the text of all
pub record HasBegun {W : Type 0} (took : W → List ℕ → W → Type 0) (start f : Formatter W) (headers : Headers)
    (left : List (List ℕ × FieldValue)) : Type 0 where
  pub done : List ℕ
  pub wrote : HasWritten took start done f
  pub whole : done ++ flat_map header_line left ≡ header_lines headers

-- nothing is written yet
pub no_line : {W : Type 0} (took : W → List ℕ → W → Type 0) (start : Formatter W) (headers : Headers)
    (left : List (List ℕ × FieldValue)) → left ≡ pairs headers → IsPlainFormatter start → HasBegun took start start headers left
no_line took start headers left all plain = record {
  done = [];
  wrote = record { wrote = writes_in_calls_nil took start.writer; plain = plain };
  whole = ap (flat_map header_line) all;
}

pub one_line : {W : Type 0} (took : W → List ℕ → W → Type 0) (start f g : Formatter W) (headers : Headers)
    (whole left : List (List ℕ × FieldValue)) (h : List ℕ × FieldValue) → whole ≡ h ∷ left
    → HasBegun took start f headers whole → HasWritten took f (header_line h) g → HasBegun took start g headers left
one_line took start f g headers whole left h split b wrote = record {
  done = b.done ++ header_line h;
  wrote = has_written_append took start b.done f (header_line h) g b.wrote wrote;
  whole =
      append_assoc b.done (header_line h) (flat_map header_line left)
      ∙ ap (λ (hs : List (List ℕ × FieldValue)). b.done ++ flat_map header_line hs) (sym split)
      ∙ b.whole;
}
