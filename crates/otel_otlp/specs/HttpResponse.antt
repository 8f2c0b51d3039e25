-- The body of a response to a request that a collector has taken [opentelemetry/proto/collector/
-- trace/v1/trace_service.proto and logs/v1/logs_service.proto, `ExportTracePartialSuccess` and
-- `ExportLogsPartialSuccess`].
use Rattle.std.specs.Prelude.{◌≡◌, ◌<◌, ◌^◌, ℕ, List, [], ◌∷◌, Option, Some, None, MatchOption}
use Rattle.std.specs.Prelude.{option_map, option_and_then, string_bytes, codes, is_some, true}
use Rattle.std.specs.Prelude.{String, IsUtf8}
use Rattle.std.specs.declared.alloc.Global.{Global}
use Rattle.std.specs.Option.{SomeIff}
use Rattle.std.specs.Str.Parse.{without_leading_plus, IsNumeral, digits_value}
use Rattle.serde_json.specs.Data.{Data, null, boolean, number, string, array, object}
use Rattle.serde_json.specs.Find.{get, as_u64, as_str, as_object}
use Rattle.serde_json.specs.Read.{read}
use Rattle.serde_json.specs.View.{view}
use Rattle.serde_json.specs.declared.value.Value.{Value}
use Rattle.otel_otlp.specs.declared.otlp_http.response.Partial.{Partial}

-- the number that a text of decimal digits writes, if it has 64 bits
abbrev pub IsDecimal : List ℕ → Option ℕ → Type 0
IsDecimal text count =
    SomeIff count
    (IsNumeral 10 (without_leading_plus text)
    × (digits_value 10 (without_leading_plus text) < 2 ^ 64))
    (digits_value 10 (without_leading_plus text))

-- a number of 64 bits is a number or a decimal text
abbrev pub IsCount : Data → Option ℕ → Type 0
IsCount null count = count ≡ None
IsCount (boolean _) count = count ≡ None
IsCount (number n) count = count ≡ as_u64 n
IsCount (string text) count = IsDecimal text count
IsCount (array _) count = count ≡ None
IsCount (object _) count = count ≡ None

-- the same; null counts as 0
abbrev pub IsCountOrNull : Data → Option ℕ → Type 0
IsCountOrNull null count = count ≡ Some 0
IsCountOrNull value count = IsCount value count

-- the number of rejected items under the name, 0 if it is absent or null
abbrev pub IsRejected : List ℕ → Data → Option ℕ → Type 0
IsRejected name partial count =
    MatchOption (get name partial) (count ≡ Some 0) (λ value. IsCountOrNull value count)

-- its message is the member `errorMessage`
abbrev pub HasMessage : Data → Partial → Type 0
HasMessage partial p =
    option_map string_bytes p.message ≡ option_and_then as_str (get (codes "errorMessage") partial)

-- nothing was rejected, without a message
abbrev pub IsWhole : Partial → Type 0
IsWhole p = (p.rejected ≡ 0) × (p.message ≡ None)

-- the member `partialSuccess` says this
abbrev pub SaysPartial : List ℕ → Data → Partial → Type 0
SaysPartial name partial p = IsRejected name partial (Some p.rejected) × HasMessage partial p

-- it is an object, which says this by its member `partialSuccess`; nothing was rejected if that
-- isn't there
abbrev pub IsPartial : List ℕ → Data → Partial → Type 0
IsPartial name d p =
    (is_some (as_object d) ≡ true)
    × MatchOption (get (codes "partialSuccess") d) (IsWhole p)
    (λ partial. IsRejected name partial (Some p.rejected) × HasMessage partial p)

-- the bytes say this; nothing was rejected if there are none
abbrev pub IsReadFrom : List ℕ → List ℕ → Partial → Type 0
IsReadFrom name [] p = IsWhole p
IsReadFrom name (b ∷ body) p =
    (d : Data) × (read (b ∷ body) ≡ Some d) × IsPartial name d p

-- the message of a response that isn't a success: the member `message` of its body
-- [google/rpc/status.proto, `Status`]
pub record IsMessageOf (body message : List ℕ) : Type 0 where
  pub value : Data
  pub reads : read body ≡ Some value
  pub has : option_and_then as_str (get (codes "message") value) ≡ Some message

-- ---- what is told
-- this is said, or nothing is
abbrev pub Tells : {A : Type 0} → (A → Type 0) → Option A → Type 0
Tells {A = A} Says told = MatchOption told ((a : A) → ¬ (Says a)) Says

-- the bytes are a text that is read as this value; or they aren't read
abbrev pub IsJsonOf : List ℕ → Option Value → Type 0
IsJsonOf bytes None = IsUtf8 bytes → read bytes ≡ None
IsJsonOf bytes (Some value) = IsUtf8 bytes × (read bytes ≡ Some (view value))

-- the bytes are a text that says this of the rejected items
abbrev pub SaysOfItems : List ℕ → List ℕ → Partial → Type 0
SaysOfItems name body p = IsUtf8 body × IsReadFrom name body p

-- the bytes are a text with this message
abbrev pub HasText : List ℕ → String Global → Type 0
HasText body message = IsUtf8 body × IsMessageOf body (string_bytes message)
