-- Why a client over a reader and a writer has no answer.
use Rattle.std.proofs.Common.{◌≡◌, ◌≢◌, ℕ, List, [], Option, Some, None, Result, Ok, Err, IfErr, refl, sym, ap, subst, true≢false}
use Rattle.std.specs.Prelude.{is_some}
use Rattle.std.specs.Result.{IsErrAnd}
use Rattle.std.specs.declared.io.Error.{Error}
use Rattle.http.specs.declared.request.Parts as Request
use Rattle.http1.specs.Output.{GivesOrRefuses}
use Rattle.http1.specs.declared.error.WriteError.{WriteError}
use Rattle.http1.specs.declared.error.WriteError.TheVariants as refused
use Rattle.otel_otlp.specs.StreamClient.{IsWritable, CannotWrite, IsOfBytes, IsReadError, IsReaders, HasAnswered, refusal_of}
use Rattle.otel_otlp.specs.declared.otlp_http.client.HttpError.{HttpError}
use Rattle.otel_otlp.specs.declared.otlp_http.client.HttpError.TheVariants.{Io, Memory, Malformed, Unopened, Unreachable}

-- the error that a `?` passes is the same
pub passed : {T : Type 0} (P : HttpError → Type 0) (r : Result T HttpError) (e : HttpError)
    → IsErrAnd r (λ f. f ≡ e) → P e → IfErr r P
passed P (Ok x) e is h = tt
passed P (Err f) e is h = subst P (sym is) h

-- an error of the reader, which hasn't read bytes that are none of a response
pub read_error : (may_read : Result ℕ Error → Type 0) (unread : List ℕ) (e : HttpError)
    → IsReaders may_read e → e ≢ Malformed → IsReadError may_read unread e
read_error may_read unread Unreachable stuck other = stuck
read_error may_read unread (Io cause) stuck other = stuck
read_error may_read unread (Unopened path cause) stuck other = absurd stuck
read_error may_read unread Malformed stuck other = absurd (other refl)
read_error may_read unread (Memory failed) stuck other = tt

-- the same, after bytes that are none of a response
pub read_fault : (may_read : Result ℕ Error → Type 0) (unread : List ℕ) (e : HttpError)
    → IsReaders may_read e → (unread ≡ [] → HasAnswered may_read) → IsReadError may_read unread e
read_fault may_read unread Unreachable stuck answered = stuck
read_fault may_read unread (Io cause) stuck answered = stuck
read_fault may_read unread (Unopened path cause) stuck answered = absurd stuck
read_fault may_read unread Malformed stuck answered = answered
read_fault may_read unread (Memory failed) stuck answered = tt

-- an error of an answer's read is the reader's, or one of bytes
pub of_reader : (may_read : Result ℕ Error → Type 0) (unread : List ℕ) (e : HttpError)
    → IsReadError may_read unread e → IsReaders may_read e
of_reader may_read unread Unreachable stuck = stuck
of_reader may_read unread (Io cause) stuck = stuck
of_reader may_read unread (Unopened path cause) stuck = absurd stuck
of_reader may_read unread Malformed stuck = tt
of_reader may_read unread (Memory failed) stuck = tt

-- an error of bytes isn't the reader's
pub of_bytes : (may_read : Result ℕ Error → Type 0) (e : HttpError) → IsOfBytes e → IsReaders may_read e
of_bytes may_read Unreachable none = absurd none
of_bytes may_read (Io cause) none = absurd none
of_bytes may_read (Unopened path cause) none = absurd none
of_bytes may_read Malformed none = tt
of_bytes may_read (Memory failed) none = tt

-- ---- a request that isn't written
module _ (p : Request.Parts) (body : List ℕ) where
  unwritable : (e : WriteError) → ¬ (IsWritable p body) → CannotWrite p body (refusal_of e)
  unwritable refused.OutOfMemory never = tt
  unwritable e never = never

  no_memory : (e : WriteError) → e ≡ refused.OutOfMemory → CannotWrite p body (refusal_of e)
  no_memory e is = subst (λ x. CannotWrite p body (refusal_of x)) (sym is) tt

  -- a call of the connection that failed
  pub refused_by : {T : Type 0} (o : Option WriteError) (spare len : ℕ) (r : Result T WriteError) (e : WriteError)
      → GivesOrRefuses o spare len r → r ≡ Err e → (IsWritable p body → o ≡ None) → CannotWrite p body (refusal_of e)
  refused_by None spare len r e h is takes =
      let why = subst (λ x. GivesOrRefuses None spare len x) is h in
      no_memory e why.0
  refused_by (Some x) spare len r e h is takes =
      unwritable e (λ w. true≢false (ap is_some (takes w)))
