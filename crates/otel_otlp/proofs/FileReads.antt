-- An answer that a client over two files has read.
use Rattle.std.proofs.Common.{◌≡◌, List, ℕ, Bool, Option, Result, Ok, Err, OnOk, IfOk, IfErr, IsTrue, ap, inr, subst}
use Rattle.std.specs.declared.io.Error.{Error}
use Rattle.std.specs.Io.KnownBytes.{Appends}
use Rattle.http.specs.declared.request.Parts as Request
use Rattle.otel_otlp.specs.FileClient.{Opens, Reads, IsUnanswered, IsAnswered}
use Rattle.otel_otlp.specs.HttpClient.{Answer}
use Rattle.otel_otlp.specs.StreamClient.{Streaming, ReadsAnswer, Fails, IsNoAnswer, request_text, initial}

-- an answer of a client is the answer to the request
pub answered : {F : Type 0} (remaining : F → Option (List ℕ)) (p : Request.Parts) (body : List ℕ) (r : Answer) (client left : Streaming F F)
    → IfOk r (λ answer. ReadsAnswer remaining p body client answer left) → IfOk r (IsAnswered p)
answered remaining p body (Ok answer) client left reads = record { came = _; rest = left.unread; answers = reads.2.0 }
answered remaining p body (Err error) client left reads = tt

module _ {F : Type 0} (outputs : List ℕ → Result F Error → Type 0) (inputs : F → List ℕ → Result F Error → Type 0) (contents remaining : F → Option (List ℕ)) (p : Request.Parts) (body folder : List ℕ) (input output : F) where
  pub over_files : (r : Answer) (client left : Streaming F F)
      → Opens outputs inputs folder input output → client ≡ initial input output
      → OnOk r (Appends (contents client.writer) (contents left.writer) (request_text p body))
      → IfOk r (λ answer. ReadsAnswer remaining p body client answer left)
      → IfOk r (Reads outputs inputs contents remaining p body folder)
  over_files (Ok answer) client left opens new writes reads = record {
    input = input;
    output = output;
    opens = opens;
    left = left;
    writes = subst (λ (c : Streaming F F). Appends (contents c.writer) (contents left.writer) (request_text p body)) new writes;
    reads = subst (λ (c : Streaming F F). ReadsAnswer remaining p body c answer left) new reads;
  }
  over_files (Err error) client left opens new writes reads = tt

  -- a client over both files that failed
  pub fails_over_files : (may_write : List ℕ → Result ℕ Error → Type 0) (flushed : F → List Bool → Type 0) (may_read : Result ℕ Error → Type 0) (r : Answer) (client left : Streaming F F)
      → Opens outputs inputs folder input output → client ≡ initial input output
      → (IsTrue client.is_open → IfErr r (Fails contents may_write flushed may_read p body client left))
      → (IsTrue client.is_open → IfErr r (IsNoAnswer remaining may_read p body client.reader client.unread left.reader))
      → IfErr r (IsUnanswered outputs inputs contents remaining may_write flushed may_read p body folder)
  fails_over_files may_write flushed may_read (Ok answer) client left opens new fails malformed = tt
  fails_over_files may_write flushed may_read (Err error) client left opens new fails malformed =
      let open_now : IsTrue client.is_open = ap (λ (c : Streaming F F). c.is_open) new in
      inr (record {
        input = input;
        output = output;
        opens = opens;
        left = left;
        fails = subst (λ (c : Streaming F F). Fails contents may_write flushed may_read p body c left error) new (fails open_now);
        malformed = subst (λ (c : Streaming F F). IsNoAnswer remaining may_read p body c.reader c.unread left.reader error) new (malformed open_now);
      })
