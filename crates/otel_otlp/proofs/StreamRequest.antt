-- A request that was written is read as that request.
use Rattle.std.proofs.Common.{◌≡◌, ℕ, ◌<◌, ◌^◌, ◌==◌, Bool, true, false, not, cond, List, [], ◌∷◌, ◌++◌, length, map, All, Option, Some, None, Result, Ok, Err, refl, sym, ap, ◌∙◌, subst, append_assoc, append-nil}
use Rattle.std.specs.List.{concat}
use Rattle.std.proofs.lemmas.List.Elements.{All-nil, All-cons}
use Rattle.http.specs.declared.request.Parts as Request
use Rattle.http1.specs.declared.framing.Framing.{Framing}
use Rattle.http1.specs.declared.framing.Framing.TheVariants as Framed
use Rattle.http1.specs.declared.framing.FramingError.{FramingError}
use Rattle.http1.specs.declared.fields.KnownFields.{KnownFields}
use Rattle.http1.specs.declared.error.WriteError.{WriteError}
use Rattle.http1.specs.declared.conn.BodySize.{BodySize}
use Rattle.http1.specs.declared.conn.BodySize.TheVariants.{Known}
use Rattle.http1.specs.declared.conn.Writing.{Writing}
use Rattle.http1.specs.Fields.{Header, known_fields}
use Rattle.http1.specs.Framing.{request_framing, method_kind}
use Rattle.http1.specs.Head as Head
use Rattle.http1.specs.Head.{are_headers, is_request_line, head_refusal, field_of, request_head}
use Rattle.http1.specs.Encoder.{encoder_for, body_text}
use Rattle.http1.specs.Body.{body_of}
use Rattle.http1.specs.Message as Wire
use Rattle.http1.specs.Output.{GivesOrRefuses}
use Rattle.http1.specs.Conn.{Plan, length_header, plan_refusal, planned_headers, data_text, after_data, finish_text, data_refusal, finish_refusal, fits, is_plain, states_framing}
use Rattle.http1.specs.Client.{new_client, plan_framed, plan_fields, request_plan, requesting, writing, framing_headers}
use Rattle.http1.proofs.HeadRoundTrip.{fields_read_back}
use Rattle.http1.proofs.BodyRoundTrip.{MayFollow}
use Rattle.http1.proofs.MessageRoundTrip.{request_round_trip}
use Rattle.otel_otlp.specs.StreamClient.{limits, headers_of, origin_form, request_text, IsRequest, IsWritable}

-- ---- what was not refused
-- a call that succeeded had nothing to refuse
pub nothing_refused : {T : Type 0} (o : Option WriteError) (spare len : ℕ) (r : Result T WriteError) (x : T) → GivesOrRefuses o spare len r → r ≡ Ok x → o ≡ None
nothing_refused None spare len r x h is = refl
nothing_refused (Some e) spare len r x h is = let it = sym h ∙ is in cc

planned : (r : Result Plan WriteError) (line : Bool) (headers : List Header) → plan_refusal r line headers ≡ None → (p : Plan) × (r ≡ Ok p) × (head_refusal line (headers ++ p.extra) ≡ None)
planned (Ok p) line headers is = (p, refl, is)
planned (Err e) line headers is = cc

module _ (p : Request.Parts) (body : List ℕ) where
  abbrev plan_of : Result Plan WriteError
  plan_of = request_plan (new_client limits) p.method (Known (length body)) (headers_of p)

  abbrev begun : Result Plan WriteError → Writing
  begun r = writing (requesting (new_client limits) p.method (headers_of p) r)

  -- if no call was refused, the request is writable
  pub writable : plan_refusal plan_of (is_request_line p.method (origin_form p.uri) 1) (headers_of p) ≡ None
      → length body < 2 ^ 64
      → data_refusal (begun plan_of) (length body) ≡ None
      → finish_refusal (after_data (begun plan_of) (length body)) [] ≡ None
      → IsWritable p body
  writable head short sent ended =
      let (plan, is, valid) = planned plan_of _ (headers_of p) head in
      record {
        plan = plan;
        planned = is;
        head = valid;
        content = (
          short,
          subst (λ r. data_refusal (begun r) (length body) ≡ None) is sent,
          subst (λ r. finish_refusal (after_data (begun r) (length body)) [] ≡ None) is ended,
        );
      }

  -- a request that is writable isn't refused
  pub takes_head : IsWritable p body → plan_refusal plan_of (is_request_line p.method (origin_form p.uri) 1) (headers_of p) ≡ None
  takes_head w = ap (λ r. plan_refusal r (is_request_line p.method (origin_form p.uri) 1) (headers_of p)) w.planned ∙ w.head

  pub takes_end : IsWritable p body → finish_refusal (after_data (begun plan_of) (length body)) [] ≡ None
  takes_end w = subst (λ r. finish_refusal (after_data (begun r) (length body)) [] ≡ None) (sym w.planned) w.content.2

-- ---- the parts of the request
may_follow : (f : Framing) → MayFollow f []
may_follow Framed.NoBody = tt
may_follow (Framed.Length n) = tt
may_follow Framed.Chunked = tt
may_follow Framed.UntilClose = refl

valid_headers : (line valid : Bool) (x y : WriteError) → cond line (cond valid None (Some x)) (Some y) ≡ None → valid ≡ true
valid_headers true true x y is = refl
valid_headers true false x y is = cc
valid_headers false valid x y is = cc

two_tests : (s t : Bool) (x y : WriteError) (a b : Plan) → cond s (Err x) (cond t (Err y) (Ok a)) ≡ Ok b → a ≡ b
two_tests true t x y a b is = cc
two_tests false true x y a b is = cc
two_tests false false x y a b is = cc

extra_framed : (size : BodySize) (extra : List Header) (k : KnownFields) (framed : Result Framing FramingError) (p : Plan) → plan_framed size extra k framed ≡ Ok p → extra ≡ p.extra
extra_framed size extra k (Err x) p is = cc
extra_framed size extra k (Ok framing) p is = ap (λ q. q.extra) (two_tests (not (fits framing size)) (not (is_plain k)) _ _ _ p is)

hosted : (t : Bool) (x : WriteError) (a : Result Plan WriteError) (p : Plan) → cond t a (Err x) ≡ Ok p → a ≡ Ok p
hosted true x a p is = is
hosted false x a p is = cc

extra_is : (p : Request.Parts) (body : List ℕ) (plan : Plan) → plan_of p body ≡ Ok plan → framing_headers (Known (length body)) (headers_of p) ≡ plan.extra
unfolding plan_fields
extra_is p body plan is =
    let size = Known (length body) in
    let extra = framing_headers size (headers_of p) in
    let k = known_fields (headers_of p ++ extra) in
    extra_framed size extra k (request_framing (method_kind p.method) 1 k) plan (hosted (k.hosts == 1) _ _ plan is)

one_or_none : (t : Bool) (h : Header) → All (λ x. x ≡ h) (cond t (h ∷ []) [])
one_or_none true h = All-cons (λ x. x ≡ h) h [] refl (All-nil _)
one_or_none false h = All-nil _

-- each server reads the text of a request that was written
pub is_request : (p : Request.Parts) (body : List ℕ) → IsWritable p body → IsRequest p body (request_text p body)
is_request p body w =
    let target = origin_form p.uri in
    let headers = headers_of p ++ w.plan.extra in
    let e = encoder_for w.plan.framing in
    let text = λ (r : Result Plan WriteError). Head.request_text p.method target 1 (planned_headers r (headers_of p)) ++ data_text (begun p body r) body ++ finish_text (after_data (begun p body r) (length body)) [] in
    let parts = Head.request_text p.method target 1 headers in
    let whole : request_text p body ≡ parts ++ (body_text (body ∷ []) e [] ++ []) = ap text w.planned ∙ append_assoc parts _ _ ∙ ap (λ (t : List ℕ). parts ++ t) (sym (append-nil _)) in
    let message : Wire.Request = record { head = request_head p.method target 1 headers; body = body_of (concat (body ∷ [])) (map field_of []) } in
    record {
      message = message;
      reads = λ given fits room. subst (λ (t : List ℕ). Wire.ReadsRequestMessage given t message []) (sym whole)
          (request_round_trip given (Known (length body)) (headers_of p) w.plan (body ∷ []) [] [] w.content room (may_follow w.plan.framing) (new_client limits) p.method target w.planned w.head fits);
      method = refl;
      target = refl;
      added = w.plan.extra;
      headers = fields_read_back headers (valid_headers _ _ _ _ w.head);
      is_added = subst (λ (hs : List Header). All (λ h. h ≡ length_header (length body)) hs) (extra_is p body w.plan w.planned) (one_or_none (not (states_framing (known_fields (headers_of p)))) (length_header (length body)));
      content = append-nil body;
    }
