-- What a client over a reader and a writer sends, and the answer that it reads
-- [RFC 9110; RFC 9112].
use Rattle.std.specs.Prelude.{◌≡◌, ◌≢◌, ◌⊎◌, ◌↔◌, ◌≤◌, ◌<◌, ◌*◌, ◌/◌, ◌==◌, ℕ, Bool, true, false}
use Rattle.std.specs.Prelude.{List, [], ◌∷◌, ◌++◌, length, take, drop, not, ◌||◌}
use Rattle.std.specs.Prelude.{Ok, Option, Some, None, option_map, unwrap_or, Vec, All, IsTrue}
use Rattle.std.specs.Prelude.{map, fold, codes, alloc_error, Result, Err, ⊤, ◌&&◌}
use Rattle.std.specs.Io.KnownBytes.{Appends, Consumes}
use Rattle.std.specs.declared.io.Error.{Error}
use Rattle.std.specs.declared.alloc.Global.{Global}
use Rattle.httparse.specs.Grammar.{print_request}
use Rattle.httparse.specs.Spans.{name_and_value, span_bytes}
use Rattle.httparse.specs.declared.spans.HeaderSpan.{HeaderSpan}
use Rattle.httparse.specs.declared.spans.ResponseSpans.{ResponseSpans}
use Rattle.http_header.specs.Token.{lowercase}
use Rattle.http_header.specs.FieldValue.{FieldValue, plain_value}
use Rattle.http_header.specs.HeaderMap.{Entries, append}
use Rattle.http_uri.specs.declared.uri.Uri.{Uri}
use Rattle.http_uri.specs.ByteClasses.{framed_text, rsplit_once_back, at_sign}
use Rattle.http_uri.specs.Uri.{uri_authority, uri_path, uri_query}
use Rattle.http.specs.declared.error.Error.{Error as PartsError}
use Rattle.http.specs.declared.error.Error.TheVariants.{OutOfMemory as NoMemory}
use Rattle.http.specs.declared.request.Parts as Request
use Rattle.http.specs.declared.response.Parts as Response
use Rattle.http.specs.declared.response.Response.{Response as Answering}
use Rattle.http.specs.Response as answered
use Rattle.http1.specs.declared.client.Client.{Client}
use Rattle.http1.specs.declared.conn.BodySize.TheVariants.{Known}
use Rattle.http1.specs.declared.conn.Limits.{Limits}
use Rattle.http1.specs.declared.conn.Event.{Event}
use Rattle.http1.specs.declared.conn.Event.TheVariants.{NeedMore, Head, Data, End}
use Rattle.http1.specs.declared.conn.Progress.{Progress}
use Rattle.http1.specs.declared.conn.Reading.{Reading as Read}
use Rattle.http1.specs.declared.conn.Reading.TheVariants as Reading
use Rattle.http1.specs.declared.decode.Decoder.TheVariants.{UntilClose}
use Rattle.http1.specs.declared.error.ReadError.{ReadError}
use Rattle.http1.specs.declared.framing.Framing.{Framing}
use Rattle.http1.specs.declared.framing.FramingError.{FramingError}
use Rattle.http1.specs.declared.error.WriteError.{WriteError}
use Rattle.http1.specs.declared.error.WriteError.TheVariants.{OutOfMemory}
use Rattle.http1.specs.Fields.{Header, known_fields}
use Rattle.http1.specs.Framing.{method_kind, response_framing}
use Rattle.http1.specs.Encoder.{encoder_for, AreAccepted}
use Rattle.http1.specs.Head.{is_request_line, head_refusal}
use Rattle.http1.specs.Message as Wire
use Rattle.http1.specs.Message.{Answer, ReadsAnswers}
use Rattle.http1.specs.Conn.{Plan, length_header, data_text, after_data, finish_text, keeps_alive}
use Rattle.http1.specs.Conn.{is_connect, is_until_close}
use Rattle.http1.specs.Client.{new_client, is_interim, request_plan, planned_request}
use Rattle.http1.specs.Client.{after_request, after_end, with_writing, writing, is_written, IsIdle}
use Rattle.http1.specs.Client.{reading, ClientReads, ClientRefuses, client_eof}
use Rattle.http1.specs.ServerTrace.{SeenBody, no_body}
use Rattle.http1.specs.ClientTrace.{SeenResponse, answer_view, Seen, Trace, IsBetween}
use Rattle.http1_typed.specs.Parts.{fields_of, version_of, ResponseError}
use Rattle.otel_sdk_base.specs.Writers.{FlushesOnce, FailsWith, TakesNone}
use Rattle.otel_otlp.specs.HttpClient.{Sent, Received}
use Rattle.otel_otlp.specs.Written.{TakesNoByte}
use Rattle.otel_otlp.specs.declared.otlp_http.client.HttpError.{HttpError}
use Rattle.otel_otlp.specs.declared.otlp_http.client.HttpError.TheVariants.{Memory, Unreachable}
use Rattle.otel_otlp.specs.declared.otlp_http.client.HttpError.TheVariants.{Io, Malformed, Unopened}
use Rattle.otel_otlp.specs.declared.otlp_http.stream_client.source.Source.{Source}

-- the limits of a response: 64 KiB for its head, 16 KiB for its trailers, and for its chunks'
-- extensions
abbrev pub limits : Limits
limits = record {
  max_head_len = 64 * 1024;
  max_extensions_len = 16 * 1024;
  max_trailers_len = 16 * 1024;
}

-- the most headers of a response, and the most trailers
abbrev pub max_headers : ℕ
max_headers = 128

-- the most bytes of a body, 4 MiB
abbrev pub max_body_len : ℕ
max_body_len = 4 * 1024 * 1024

-- the requests that it was asked to send, its reader and writer, the bytes that the reader gave
-- past the last response, and whether another request can be sent
pub record Streaming (R W : Type 0) : Type 0 where
  pub sent : List Sent
  pub reader : R
  pub writer : W
  pub unread : List ℕ
  pub is_open : Bool

-- a new client of the reader and the writer
abbrev pub initial : {R W : Type 0} → R → W → Streaming R W
initial reader writer = record {
  sent = [];
  reader = reader;
  writer = writer;
  unread = [];
  is_open = true;
}

-- ---- the request
-- the error of a request that can't be written
abbrev pub refusal_of : WriteError → HttpError
refusal_of OutOfMemory = Memory alloc_error
refusal_of refused = Unreachable

-- the URI's host with its port, without the user; empty if the URI has none
abbrev pub host_of : Uri → List ℕ
host_of uri = unwrap_or (option_map (λ a. rsplit_once_back at_sign a) (uri_authority uri)) []

-- the URI's path and query
abbrev pub origin_form : Uri → List ℕ
origin_form uri = uri_path uri ++ framed_text (codes "?") (uri_query uri) []

-- the headers: `Host`, `Connection`, and then the request's own
abbrev pub headers_of : Request.Parts → List Header
headers_of p =
    (codes "host", host_of p.uri) ∷ (codes "connection", codes "keep-alive") ∷ fields_of p.headers

-- the connection once the head was written
abbrev pub started : Request.Parts → List ℕ → Client
started p body = after_request (new_client limits) p.method (Known (length body)) (headers_of p)

-- the connection once the whole request was written
abbrev pub asking : Request.Parts → List ℕ → Client
asking p body =
    after_end (with_writing (started p body) (after_data (writing (started p body)) (length body)))

-- the text of the request: its head, to which a `Content-Length` is added unless the request has
-- one, and its body
abbrev pub request_text : Request.Parts → List ℕ → List ℕ
request_text p body =
    planned_request (new_client limits) p.method (origin_form p.uri) (Known (length body))
    (headers_of p)
    ++ data_text (writing (started p body)) body
    ++ finish_text (after_data (writing (started p body)) (length body)) []

-- The text is one request: each server whose limits its head is within reads it as the method, the
-- URI's target, the headers, then a `Content-Length` unless they have one, and the body.
pub record IsRequest (p : Request.Parts) (body text : List ℕ) : Type 0 where
  pub message : Wire.Request
  pub reads : (limits : Limits) → length (print_request message.head) ≤ limits.max_head_len
      → 2 ≤ limits.max_trailers_len → Wire.ReadsRequestMessage limits text message []
  pub method : message.head.method ≡ p.method
  pub target : message.head.target ≡ origin_form p.uri
  pub added : List Header
  pub headers : map name_and_value message.head.fields ≡ headers_of p ++ added
  pub is_added : All (λ h. h ≡ length_header (length body)) added
  pub content : message.body.bytes ≡ body

-- a connection writes the request
pub record IsWritable (p : Request.Parts) (body : List ℕ) : Type 0 where
  pub plan : Plan
  pub planned :
      request_plan (new_client limits) p.method (Known (length body)) (headers_of p) ≡ Ok plan
  pub head :
      head_refusal (is_request_line p.method (origin_form p.uri) 1) (headers_of p ++ plan.extra)
      ≡ None
  pub content : AreAccepted (body ∷ []) (encoder_for plan.framing) []

-- ---- errors
-- `may_write` and `flushed` are the writer's, and `may_read` the reader's: only their calls show
-- them.

-- why a connection doesn't write the request: it can't, or memory ran out
abbrev pub CannotWrite : Request.Parts → List ℕ → HttpError → Type 0
CannotWrite p body Unreachable = ¬ (IsWritable p body)
CannotWrite p body (Memory failed) = ⊤
CannotWrite p body other = ⊥

-- why its text wasn't sent: a write failed with this very error, or took no byte; or the flush
-- failed
abbrev pub IsUnsent : {W : Type 0} → (List ℕ → Result ℕ Error → Type 0)
    → (W → List Bool → Type 0) → W → W → HttpError → Type 0
IsUnsent may_write flushed old new (Io cause) = FailsWith may_write cause
IsUnsent may_write flushed old new Unreachable =
    TakesNoByte may_write ⊎ FlushesOnce flushed false old new
IsUnsent may_write flushed old new other = ⊥

-- why the request wasn't sent
abbrev pub IsWriteError : {W : Type 0} → (List ℕ → Result ℕ Error → Type 0)
    → (W → List Bool → Type 0) → Request.Parts → List ℕ → W → W → HttpError → Type 0
IsWriteError may_write flushed p body old new error =
    CannotWrite p body error ⊎ IsUnsent may_write flushed old new error

-- a read got no further: it gave no byte, or an error
abbrev pub ReadsNone : (Result ℕ Error → Type 0) → Type 0
ReadsNone may_read = (answer : Result ℕ Error) × may_read answer × TakesNone answer

-- the reader was asked, and answered
abbrev pub HasAnswered : (Result ℕ Error → Type 0) → Type 0
HasAnswered may_read = (answer : Result ℕ Error) × may_read answer

-- the error is one of the bytes that were read, or of memory
abbrev pub IsOfBytes : HttpError → Type 0
IsOfBytes Malformed = ⊤
IsOfBytes (Memory failed) = ⊤
IsOfBytes other = ⊥

-- if the error is the reader's: a read got no further, or failed with this very error
abbrev pub IsReaders : (Result ℕ Error → Type 0) → HttpError → Type 0
IsReaders may_read Unreachable = ReadsNone may_read
IsReaders may_read (Io cause) = may_read (Err cause)
IsReaders may_read (Unopened path cause) = ⊥
IsReaders may_read other = ⊤

-- why no answer was read: the reader's error; or the bytes are no answer, after a read unless there
-- were unread ones; or memory ran out
abbrev pub IsReadError : (Result ℕ Error → Type 0) → List ℕ → HttpError → Type 0
IsReadError may_read unread Malformed = unread ≡ [] → HasAnswered may_read
IsReadError may_read unread other = IsReaders may_read other

-- why an open client has no answer: the request wasn't written; or it was written whole, and
-- flushed, and no answer was read
abbrev pub Fails : {R W : Type 0} → (W → Option (List ℕ))
    → (List ℕ → Result ℕ Error → Type 0) → (W → List Bool → Type 0) → (Result ℕ Error → Type 0)
    → Request.Parts → List ℕ → Streaming R W → Streaming R W → HttpError → Type 0
Fails contents may_write flushed may_read p body old new error =
    IsWriteError may_write flushed p body old.writer new.writer error
    ⊎ (Appends (contents old.writer) (contents new.writer) (request_text p body)
    × FlushesOnce flushed true old.writer new.writer × IsReadError may_read old.unread error)

-- ---- the answer
-- names in lower case, and the values of one name together
abbrev pub map_of : List Header → Entries FieldValue
map_of headers = fold (λ m h. append m (lowercase h.0) (plain_value h.1)) [] headers

-- the parts are the ones of the response
pub record ArePartsOf (seen : SeenResponse) (p : Response.Parts) : Type 0 where
  pub status : p.status ≡ seen.status
  pub version : p.version ≡ version_of seen.minor
  pub headers : p.headers ≡ map_of seen.headers

-- the statuses are 1xx, but for 101
abbrev pub AreInterim : List SeenResponse → Type 0
AreInterim seen = All (λ s. IsTrue (is_interim s.status)) seen

-- The bytes begin with the answer to the request, and `rest` follows it: responses of status 1xx,
-- which are skipped, and then a response whose parts and whose body, decoded, are the answer's.
pub record Answers (p : Request.Parts) (stream : List ℕ) (answer : Answering (Vec ℕ Global))
    (rest : List ℕ) : Type 0 where
  pub responses : List Answer
  pub reads : ReadsAnswers limits stream responses rest
  pub interim : List SeenResponse
  pub are_interim : AreInterim interim
  pub last : SeenResponse
  pub seen : map answer_view responses ≡ interim ++ last ∷ []
  pub is_final : is_interim last.status ≡ false
  pub method : last.method ≡ method_kind p.method
  pub parts : ArePartsOf last (answered.head_of answer)
  pub body : (answered.body_of answer).items ≡ last.body.bytes
  pub within : length last.body.bytes ≤ max_body_len

-- another protocol has the connection after the response
abbrev pub switches : SeenResponse → Bool
switches seen = (seen.status == 101) || (is_connect seen.method && (seen.status / 100 == 2))

-- the body ends where the connection closes
abbrev pub is_last : Result Framing FramingError → Bool
is_last (Ok framing) = is_until_close framing
is_last (Err error) = false

abbrev pub ends_with_reader : SeenResponse → Bool
ends_with_reader seen =
    is_last (response_framing seen.method seen.status seen.minor (known_fields seen.headers))

-- the response keeps the connection: no other protocol has it then, its version and its headers say
-- so, and its body has an end of its own
abbrev pub keeps_open : SeenResponse → Bool
keeps_open seen =
    not (switches seen)
    && (keeps_alive seen.minor (known_fields seen.headers) && not (ends_with_reader seen))

-- the connection is kept after the response that it reads
abbrev pub is_kept : Client → Bool
is_kept c = c.keep_alive && is_written c.writing

-- `remaining` is the reader's: the bytes that it will give, if they are known
module _ {R : Type 0} (remaining : R → Option (List ℕ)) where
  -- The client has read bytes, and what it had unread, followed by them, begins with this answer to
  -- the request. Another request can be sent exactly if this one and the response keep the
  -- connection, and no byte is unread.
  abbrev pub ReadsAnswer : {W : Type 0}
      → Request.Parts → List ℕ → Streaming R W → Received → Streaming R W → Type 0
  ReadsAnswer p body old answer new =
      (came : List ℕ) × Consumes (remaining old.reader) (remaining new.reader) came
      × ((told : Answers p (old.unread ++ came) answer new.unread)
      × (IsTrue new.is_open
      ↔ (IsTrue (is_kept (asking p body) && keeps_open told.last) × (new.unread ≡ []))))

  -- the source has read these bytes, and none was used
  abbrev pub Gains : Source R → List ℕ → Source R → Type 0
  Gains old came new =
      (new.unread.items ≡ old.unread.items ++ came)
      × Consumes (remaining old.reader) (remaining new.reader) came

  -- The source has read bytes. `Uses` relates what it had unread, followed by them, and what it has
  -- unread now.
  abbrev pub Reads : Source R → Source R → (List ℕ → List ℕ → Type 0) → Type 0
  Reads old new Uses =
      (came : List ℕ) × Consumes (remaining old.reader) (remaining new.reader) came
      × Uses (old.unread.items ++ came) new.unread.items

-- ---- steps
-- the response with this body
abbrev pub with_body : SeenResponse → SeenBody → SeenResponse
with_body seen body = record seen { body = body }

-- The connection `first`, which is given the stream, has skipped responses of status 1xx, and
-- waits for `unread`.
pub record Skips (first : Client) (stream : List ℕ) (now : Client) (unread : List ℕ) : Type 0 where
  pub interim : List SeenResponse
  pub are_interim : AreInterim interim
  pub same : now ≡ first
  pub goes_on : (more : List ℕ) (later : Seen) (rest : List ℕ) → later.body ≡ no_body
      → Trace now (unread ++ more) later rest
      → Trace first (stream ++ more)
      (record { body = no_body; responses = interim ++ later.responses }) rest

-- a body that ends with the reader doesn't keep the connection
abbrev pub ClosesAtEnd : Client → Type 0
ClosesAtEnd c = reading c ≡ Reading.Body UntilClose → is_kept c ≡ false

-- the same, and then the head of a response with these parts, whose body is to come
pub record FindsHead (first : Client) (stream : List ℕ) (now : Client) (unread : List ℕ)
    (p : Response.Parts) : Type 0 where
  pub interim : List SeenResponse
  pub are_interim : AreInterim interim
  pub head : SeenResponse
  pub is_final : is_interim head.status ≡ false
  pub method : head.method ≡ first.method
  pub parts : ArePartsOf head p
  pub keeps : is_kept now ≡ (is_kept first && keeps_open head)
  pub closes : ClosesAtEnd now
  pub goes_on : (more : List ℕ) (later : Seen) (rest : List ℕ)
      → Trace now (unread ++ more) later rest
      → Trace first (stream ++ more)
      (record {
        body = no_body;
        responses = interim ++ with_body head later.body ∷ later.responses;
      }) rest

-- a step towards a head: it is there, or some responses of status 1xx were skipped
abbrev pub StepsToHead :
    Client → List ℕ → Client → List ℕ → Option Response.Parts → Type 0
StepsToHead first stream now unread None = Skips first stream now unread
StepsToHead first stream now unread (Some p) = FindsHead first stream now unread p

-- what is seen, with more bytes of a body in front
abbrev pub with_front : List ℕ → Seen → Seen
with_front bytes later = record later {
  body = record (later.body) { bytes = bytes ++ later.body.bytes };
}

-- the connection has given these bytes of a body, and waits for `unread`
abbrev pub Gives : Client → List ℕ → Client → List ℕ → List ℕ → Type 0
Gives first stream now unread body =
    (more : List ℕ) (later : Seen) (rest : List ℕ) → Trace now (unread ++ more) later rest
    → Trace first (stream ++ more) (with_front body later) rest

-- the connection has given a whole body, and `rest` follows it
pub record FindsBody (first : Client) (stream body rest : List ℕ) : Type 0 where
  pub trailers : List Header
  pub trace : Trace first stream
      (record { body = record { bytes = body; trailers = trailers }; responses = [] }) rest

-- a step in a body: it has ended without more bytes, or has given this piece
abbrev pub StepsInBody : Client → List ℕ → Client → List ℕ → List ℕ → Bool → Type 0
StepsInBody first stream now unread piece true = FindsBody first stream piece unread
StepsInBody first stream now unread piece false = Gives first stream now unread piece

-- within a body nothing changes whether the connection is kept, and it is idle at the end exactly
-- then
abbrev pub StaysOpen : Bool → Client → Client → Type 0
StaysOpen true old new = IsIdle new ↔ IsTrue (is_kept old)
StaysOpen false old new = (is_kept new ≡ is_kept old) × ClosesAtEnd new

-- a step in a body, by whose piece the body has become `longer`
abbrev pub Grows : List ℕ → List ℕ → Client → List ℕ → Client → List ℕ → Bool → Type 0
Grows body longer first stream now unread ended =
    (piece : List ℕ) × (longer ≡ body ++ piece) × StepsInBody first stream now unread piece ended

-- The connection `first`, which is given the stream, has read responses of status 1xx, then the
-- answer, and `rest` follows it. It is idle `now` exactly if it was kept and the answer keeps it.
pub record Replies (first : Client) (stream : List ℕ) (now : Client)
    (answer : Answering (Vec ℕ Global)) (rest : List ℕ) : Type 0 where
  pub interim : List SeenResponse
  pub are_interim : AreInterim interim
  pub last : SeenResponse
  pub is_final : is_interim last.status ≡ false
  pub method : last.method ≡ first.method
  pub parts : ArePartsOf last (answered.head_of answer)
  pub body : (answered.body_of answer).items ≡ last.body.bytes
  pub within : length last.body.bytes ≤ max_body_len
  pub keeps : IsIdle now ↔ IsTrue (is_kept first && keeps_open last)
  pub trace :
      Trace first stream (record { body = no_body; responses = interim ++ last ∷ [] }) rest

-- ---- bytes that are no answer
-- the bytes of a body that a read has found
abbrev pub piece_of : List ℕ → Event ResponseSpans → List ℕ
piece_of input (Data s) = span_bytes input s
piece_of input other = []

-- The connection `first`, which is given the stream in pieces, has come to be `now`, and hasn't
-- found the end of a response: it has found these bytes of a body, and waits for `left`.
pub data Comes : Client → List ℕ → Client → List ℕ → List ℕ → Type 0 where
  stays : (c : Client) (stream : List ℕ) → Comes c stream c stream []
  moves : (c new now : Client) (input more : List ℕ) (spans : List HeaderSpan)
      (read : Progress ResponseSpans) (left body : List ℕ) → ClientReads c input spans new read
      → ((count : ℕ) → read.event ≢ End count)
      → Comes new (drop read.consumed input ++ more) now left body
      → Comes c (input ++ more) now left (piece_of input read.event ++ body)

-- the connection needs more bytes than these, and isn't at the end of a body if no more come
pub record EndsEarly (now : Client) (left : List ℕ) : Type 0 where
  pub spans : List HeaderSpan
  pub next : Client
  pub read : Progress ResponseSpans
  pub finds : ClientReads now left spans next read
  pub needs : read.event ≡ NeedMore
  pub ends : (count : ℕ) → (client_eof next).0 ≢ Ok (End count)

-- why a connection reads no further: whatever follows these bytes, they aren't what it waits for,
-- or have too many headers; or they end before it, and the reader has ended
abbrev pub StopsAt : (Result ℕ Error → Type 0) → Client → List ℕ → Type 0
StopsAt may_read now left =
    ((error : ReadError) × ClientRefuses now left max_headers error)
    ⊎ (may_read (Ok 0) × EndsEarly now left)

-- the error of a head whose parts aren't those of a response
abbrev pub no_parts : PartsError → HttpError
no_parts NoMemory = Memory alloc_error
no_parts error = Malformed

-- the parts of this head aren't those of a response
abbrev pub HasBadParts : List ℕ → List HeaderSpan → ResponseSpans → Type 0
HasBadParts input spans head =
    (error : PartsError) × (no_parts error ≡ Malformed)
    × ResponseError (take head.len input) spans head error

-- the connection has found a head in these bytes, and its parts aren't those of a response
abbrev pub FindsBadHead : Client → List ℕ → Type 0
FindsBadHead now left =
    (spans : List HeaderSpan) × (next : Client) × (read : Progress ResponseSpans)
    × (head : ResponseSpans) × ClientReads now left spans next read
    × (read.event ≡ Head head) × HasBadParts left spans head

-- another protocol has the connection after the response, or it was closed
abbrev pub IsOver : Read → Type 0
IsOver Reading.Head = ⊥
IsOver other = IsBetween other

-- Why the stream has no response: the connection `first`, which is given it, and has found the
-- bytes `body` of a body, reads a part of a response, and then no further; or the response has a
-- bad head, or a body longer than 4 MiB, or no body. Only the reader's calls show `may_read`.
pub record LacksMore (may_read : Result ℕ Error → Type 0) (body : List ℕ) (first : Client)
    (stream : List ℕ) : Type 0 where
  pub now : Client
  pub left : List ℕ
  pub piece : List ℕ
  pub comes : Comes first stream now left piece
  pub stops : (StopsAt may_read now left ⊎ FindsBadHead now left)
      ⊎ ((max_body_len < length (body ++ piece)) ⊎ IsOver (reading now))

-- the same from the start of a response, or of a body
abbrev pub LacksAnswer : (Result ℕ Error → Type 0) → Client → List ℕ → Type 0
LacksAnswer may_read = LacksMore may_read []

module _ {R : Type 0} (remaining : R → Option (List ℕ)) where
  -- The source has read bytes, and a piece of a body was found in what it had unread, followed by
  -- them, by which the body has become `longer`. The body goes on.
  pub record GoesOn (old new : Source R) (body longer : List ℕ) (first now : Client) : Type 0 where
    pub came : List ℕ
    pub consumed : Consumes (remaining old.reader) (remaining new.reader) came
    pub piece : List ℕ
    pub grows : longer ≡ body ++ piece
    pub comes : Comes first (old.unread.items ++ came) now new.unread.items piece
    pub begun : reading now ≢ Reading.Head

  -- if the error says that the bytes are no response: the source has read bytes, and of what it had
  -- unread, followed by them, this holds
  abbrev pub Breaks : Source R → Source R → (List ℕ → Type 0) → HttpError → Type 0
  Breaks old new Lacks Malformed =
      (came : List ℕ) × Consumes (remaining old.reader) (remaining new.reader) came
      × Lacks (old.unread.items ++ came)
  Breaks old new Lacks other = ⊤

  -- the same for a client, which had these bytes unread, and has asked this
  abbrev pub IsNoAnswer : (Result ℕ Error → Type 0) → Request.Parts → List ℕ
      → R → List ℕ → R → HttpError → Type 0
  IsNoAnswer may_read p body old unread new Malformed =
      (came : List ℕ) × Consumes (remaining old) (remaining new) came
      × LacksAnswer may_read (asking p body) (unread ++ came)
  IsNoAnswer may_read p body old unread new other = ⊤
