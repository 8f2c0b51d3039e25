-- What a client over two files was asked to send, and its answers.
use Rattle.std.specs.Prelude.{◌≡◌, ◌⊎◌, ℕ, List, [], ◌++◌, codes, Option, ⊤, string_bytes}
use Rattle.std.specs.Prelude.{Bool, Result, Ok, Err}
use Rattle.std.specs.declared.io.Error.{Error}
use Rattle.std.specs.Io.KnownBytes.{Appends}
use Rattle.http.specs.declared.request.Parts as Request
use Rattle.otel_otlp.specs.HttpClient.{Sent, Received}
use Rattle.otel_otlp.specs.StreamClient.{Streaming, Answers, ReadsAnswer, request_text}
use Rattle.otel_otlp.specs.StreamClient.{Fails, IsNoAnswer}
use Rattle.otel_otlp.specs.StreamClient as stream
use Rattle.otel_otlp.specs.declared.otlp_http.client.HttpError.{HttpError}
use Rattle.otel_otlp.specs.declared.otlp_http.client.HttpError.TheVariants.{Memory, Unopened}

-- the requests that it was asked to send, and the path of its folder
pub record Filing : Type 0 where
  pub sent : List Sent
  pub folder : List ℕ

-- a new client of the folder
abbrev pub initial : List ℕ → Filing
initial folder = record { sent = []; folder = folder }

-- bytes came that begin with this answer to the request
pub record IsAnswered (p : Request.Parts) (answer : Received) : Type 0 where
  pub came : List ℕ
  pub rest : List ℕ
  pub answers : Answers p came answer rest

-- the path of the folder's file with this name
abbrev pub file_in : List ℕ → List ℕ → List ℕ
file_in folder name = folder ++ codes "/" ++ name

-- the file of the folder with this name couldn't be opened, and the error names its path and why;
-- or memory ran out
abbrev pub IsUnopened : {F : Type 0} → (List ℕ → Result F Error → Type 0) → List ℕ → List ℕ
    → HttpError → Type 0
IsUnopened opens folder name (Unopened path cause) =
    (string_bytes path ≡ file_in folder name) × opens (file_in folder name) (Err cause)
IsUnopened opens folder name (Memory failed) = ⊤
IsUnopened opens folder name other = ⊥

-- `outputs` and `inputs` relate a path and the file that was opened there, or the error of that;
-- `inputs` also the file that was opened before
module _ {F : Type 0} (outputs : List ℕ → Result F Error → Type 0)
    (inputs : F → List ℕ → Result F Error → Type 0) where
  -- both files of the folder were opened, the one for the request first
  pub record Opens (folder : List ℕ) (input output : F) : Type 0 where
    pub written : outputs (file_in folder (codes "request")) (Ok output)
    pub read : inputs output (file_in folder (codes "response")) (Ok input)

  -- the file for the request was opened; the other couldn't be, or memory ran out
  abbrev pub IsUnread : List ℕ → HttpError → Type 0
  IsUnread folder error =
      (output : F) × outputs (file_in folder (codes "request")) (Ok output)
      × IsUnopened (inputs output) folder (codes "response") error

  -- Both files were opened, and a client over them failed. `contents` are the bytes that a file
  -- holds, and `remaining` those that it will give; only the calls show the others.
  pub record FailsOpened (contents remaining : F → Option (List ℕ))
      (may_write : List ℕ → Result ℕ Error → Type 0) (flushed : F → List Bool → Type 0)
      (may_read : Result ℕ Error → Type 0) (p : Request.Parts) (body folder : List ℕ)
      (error : HttpError) : Type 0 where
    pub input : F
    pub output : F
    pub opens : Opens folder input output
    pub left : Streaming F F
    pub fails : Fails contents may_write flushed may_read p body
        (stream.initial input output) left error
    pub malformed :
        IsNoAnswer remaining may_read p body input [] left.reader error

  -- there is no answer: a file couldn't be opened, or memory ran out, or a client over both failed
  abbrev pub IsUnanswered : (F → Option (List ℕ)) → (F → Option (List ℕ))
      → (List ℕ → Result ℕ Error → Type 0) → (F → List Bool → Type 0)
      → (Result ℕ Error → Type 0) → Request.Parts → List ℕ → List ℕ → HttpError → Type 0
  IsUnanswered contents remaining may_write flushed may_read p body folder error =
      (IsUnopened outputs folder (codes "request") error ⊎ IsUnread folder error)
      ⊎ FailsOpened contents remaining may_write flushed may_read p body folder error

  -- Both files were opened, the request was written to the one, and its answer was read from the
  -- other. `contents` are the bytes that a file holds, and `remaining` those that it will give.
  pub record Reads (contents remaining : F → Option (List ℕ)) (p : Request.Parts)
      (body folder : List ℕ) (answer : Received) : Type 0 where
    pub input : F
    pub output : F
    pub opens : Opens folder input output
    pub left : Streaming F F
    pub writes : Appends (contents output) (contents left.writer) (request_text p body)
    pub reads : ReadsAnswer remaining p body (stream.initial input output) answer left
