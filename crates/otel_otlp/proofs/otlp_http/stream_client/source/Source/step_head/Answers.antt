use Rattle.std.proofs.Common.{◌≡◌, ℕ, List, [], ◌++◌, drop, subst, subst₂, inl, inr}
use Rattle.std.proofs.KnownBytes.{Consumes-nil}
use Rattle.httparse.specs.Spans.{IsResponseWithin}
use Rattle.httparse.specs.declared.spans.ResponseSpans.{ResponseSpans}
use Rattle.http1.specs.Conn.{IsEventWithin}
use Rattle.http1.specs.declared.conn.Event.TheVariants as Found
use Rattle.http1.specs.Client.{ClientReads, ClientRefuses}
use Rattle.otel_otlp.specs.StreamClient.{FindsHead, Comes, IsReaders, LacksAnswer, Breaks}
use Rattle.otel_otlp.specs.declared.otlp_http.client.HttpError.TheVariants.{Malformed}
use Rattle.otel_otlp.proofs.StreamErrors.{passed, of_bytes, of_reader}
use Rattle.otel_otlp.proofs.StreamFaults.{refuses, breaks_now, breaks_ended, lacks_here, ends_in_head, none_other, last_step_by, waiting_step, begins}
use Rattle.otel_otlp.proofs.StreamSteps.{waits, skips_one, finds_head}
use Rattle.otel_otlp.proofs.otlp_http.stream_client.source.Source.step_head.Goals as goal

pub returns-in_ok-parts-in-Head-clause-steps : goal.returns-in_ok-parts-in-Head-clause-steps
returns-in_ok-parts-in-Head-clause-steps g c =
    let input = c.args.self.now.unread.items in
    let found = subst (λ (xs : List ℕ). ClientReads c.args.connection.now xs c.read.new.headers c.read.new.self c.in-Ok.read) c.as_slice.ensures c.in-Ok.ensures.ok in
    let r = c.in-Head.head in
    let p = c.in_ok-parts-in-Head.parts in
    let finds = finds_head c.args.connection.now c.read.new.self input c.read.new.headers c.in-Ok.read c.requires.head found r p c.in-Head.is c.in_ok-parts-in-Head.ensures.parts in
    let within = subst (IsEventWithin (λ (h : ResponseSpans). (c.in-Ok.read.consumed ≡ h.len) × IsResponseWithin c.as_slice.result.now c.read.new.headers h) c.as_slice.result.now c.read.new.headers c.in-Ok.read.consumed) c.in-Head.is c.in-Ok.ensures.within in (
      [],
      Consumes-nil _,
      rw c.in_ok-parts-in-Head.ensures.rest (subst (λ (n : ℕ). FindsHead c.args.connection.now (input ++ []) c.read.new.self (drop n input) p) within.0 finds),
    )

pub returns-in-Informational-clause-steps : goal.returns-in-Informational-clause-steps
returns-in-Informational-clause-steps g c =
    let input = c.args.self.now.unread.items in
    let found = subst (λ (xs : List ℕ). ClientReads c.args.connection.now xs c.read.new.headers c.read.new.self c.in-Ok.read) c.as_slice.ensures c.in-Ok.ensures.ok in (
      [],
      Consumes-nil _,
      rw c.advance.ensures.items (skips_one _ _ input _ c.in-Ok.read c.requires.head found c.in-Informational.field-0 c.in-Informational.is),
    )

pub returns-in_ok-fill_head-in-NeedMore-clause-steps : goal.returns-in_ok-fill_head-in-NeedMore-clause-steps
returns-in_ok-fill_head-in-NeedMore-clause-steps g c =
    let input = c.args.self.now.unread.items in
    let found = subst (λ (xs : List ℕ). ClientReads c.args.connection.now xs c.read.new.headers c.read.new.self c.in-Ok.read) c.as_slice.ensures c.in-Ok.ensures.ok in
    let (came, gained) = c.in_ok-fill_head-in-NeedMore.ensures.gains in (
      came,
      gained.1,
      rw gained.0 (waits _ _ input _ c.in-Ok.read c.requires.head found c.in-NeedMore.is came),
    )

pub returns-in_default-clause-malformed : goal.returns-in_default-clause-malformed
returns-in_default-clause-malformed g c =
    let may = g.R.ReaderCalls.may_read in
    let input = c.args.self.now.unread.items in
    let (e, why) = refuses _ c.read.result c.in_default.not-Ok c.read.ensures.err in
    let told = subst₂ (λ xs n. ClientRefuses c.args.connection.now xs n e) c.as_slice.ensures c.requires.room why in
    breaks_now g.R.Read.remaining c.args.self.now c.args.self.now (LacksAnswer may c.args.connection.now) Malformed (Consumes-nil _) (λ _. lacks_here may [] c.args.connection.now input (inl (inl (inl (e, told)))))

pub returns-in_err-parts-in-Head-clause-malformed : goal.returns-in_err-parts-in-Head-clause-malformed
returns-in_err-parts-in-Head-clause-malformed g c =
    let may = g.R.ReaderCalls.may_read in
    let input = c.args.self.now.unread.items in
    let found = subst (λ (xs : List ℕ). ClientReads c.args.connection.now xs c.read.new.headers c.read.new.self c.in-Ok.read) c.as_slice.ensures c.in-Ok.ensures.ok in
    let e = c.in_err-parts-in-Head.field-0.0 in
    passed (Breaks g.R.Read.remaining c.args.self.now c.args.self.now (LacksAnswer may c.args.connection.now)) c.from_residual.result e c.from_residual.ensures.1
    (breaks_now g.R.Read.remaining c.args.self.now c.args.self.now (LacksAnswer may c.args.connection.now) e (Consumes-nil _)
    (λ is. lacks_here may [] c.args.connection.now input (inl (inr (c.read.new.headers, c.read.new.self, c.in-Ok.read, c.in-Head.head, found, c.in-Head.is, c.in_err-parts-in-Head.ensures.malformed is)))))

pub returns-in_err-fill_head-in-NeedMore-clause-malformed : goal.returns-in_err-fill_head-in-NeedMore-clause-malformed
returns-in_err-fill_head-in-NeedMore-clause-malformed g c =
    let may = g.R.ReaderCalls.may_read in
    let input = c.args.self.now.unread.items in
    let found = subst (λ (xs : List ℕ). ClientReads c.args.connection.now xs c.read.new.headers c.read.new.self c.in-Ok.read) c.as_slice.ensures c.in-Ok.ensures.ok in
    let e = c.in_err-fill_head-in-NeedMore.field-0.0 in
    passed (Breaks g.R.Read.remaining c.args.self.now c.fill_head.new.self (LacksAnswer may c.args.connection.now)) c.from_residual-in_err-fill_head-in-NeedMore.result e c.from_residual-in_err-fill_head-in-NeedMore.ensures.1
    (breaks_ended g.R.Read.remaining c.args.self.now c.fill_head.new.self (LacksAnswer may c.args.connection.now) e
    (λ is. let (ended, gained) = c.in_err-fill_head-in-NeedMore.ensures.ended is in
    (gained.1, lacks_here may [] c.args.connection.now input (inl (inl (inr (ended, ends_in_head _ _ input _ c.in-Ok.read found c.requires.head c.in-NeedMore.is)))))))

pub returns-in_default-event-clause-malformed : goal.returns-in_default-event-clause-malformed
returns-in_default-event-clause-malformed g c =
    let may = g.R.ReaderCalls.may_read in
    let input = c.args.self.now.unread.items in
    let found = subst (λ (xs : List ℕ). ClientReads c.args.connection.now xs c.read.new.headers c.read.new.self c.in-Ok.read) c.as_slice.ensures c.in-Ok.ensures.ok in
    breaks_now g.R.Read.remaining c.args.self.now c.args.self.now (LacksAnswer may c.args.connection.now) Malformed (Consumes-nil _)
    (λ _. absurd (none_other _ _ input _ c.in-Ok.read found c.requires.head c.requires.asked c.in_default-event.not-Head c.in_default-event.not-Informational c.in_default-event.not-NeedMore))

pub returns-in_ok-parts-in-Head-clause-comes : goal.returns-in_ok-parts-in-Head-clause-comes
returns-in_ok-parts-in-Head-clause-comes g c =
    let input = c.args.self.now.unread.items in
    let found = subst (λ (xs : List ℕ). ClientReads c.args.connection.now xs c.read.new.headers c.read.new.self c.in-Ok.read) c.as_slice.ensures c.in-Ok.ensures.ok in
    let within = subst (IsEventWithin (λ (h : ResponseSpans). (c.in-Ok.read.consumed ≡ h.len) × IsResponseWithin c.as_slice.result.now c.read.new.headers h) c.as_slice.result.now c.read.new.headers c.in-Ok.read.consumed) c.in-Head.is c.in-Ok.ensures.within in
    let step = last_step_by _ _ input _ c.in-Ok.read found (Found.Head c.in-Head.head) c.in-Head.is (λ count is. cc) in
    ([], Consumes-nil _, rw c.in_ok-parts-in-Head.ensures.rest (subst (λ (n : ℕ). Comes c.args.connection.now (input ++ []) c.read.new.self (drop n input) []) within.0 step))

pub returns-in_ok-parts-in-Head-clause-begun : goal.returns-in_ok-parts-in-Head-clause-begun
returns-in_ok-parts-in-Head-clause-begun g c =
    let input = c.args.self.now.unread.items in
    let found = subst (λ (xs : List ℕ). ClientReads c.args.connection.now xs c.read.new.headers c.read.new.self c.in-Ok.read) c.as_slice.ensures c.in-Ok.ensures.ok in
    λ _. begins _ _ input _ c.in-Ok.read found c.requires.head c.in-Head.head c.in-Head.is

pub returns-in-Informational-clause-comes : goal.returns-in-Informational-clause-comes
returns-in-Informational-clause-comes g c =
    let input = c.args.self.now.unread.items in
    let found = subst (λ (xs : List ℕ). ClientReads c.args.connection.now xs c.read.new.headers c.read.new.self c.in-Ok.read) c.as_slice.ensures c.in-Ok.ensures.ok in
    ([], Consumes-nil _, rw c.advance.ensures.items (last_step_by _ _ input _ c.in-Ok.read found (Found.Informational c.in-Informational.field-0) c.in-Informational.is (λ count is. cc)))

pub returns-in_ok-fill_head-in-NeedMore-clause-comes : goal.returns-in_ok-fill_head-in-NeedMore-clause-comes
returns-in_ok-fill_head-in-NeedMore-clause-comes g c =
    let input = c.args.self.now.unread.items in
    let found = subst (λ (xs : List ℕ). ClientReads c.args.connection.now xs c.read.new.headers c.read.new.self c.in-Ok.read) c.as_slice.ensures c.in-Ok.ensures.ok in
    let (came, gained) = c.in_ok-fill_head-in-NeedMore.ensures.gains in
    (came, gained.1, rw gained.0 (waiting_step _ _ input _ c.in-Ok.read found c.requires.head c.in-NeedMore.is came))

pub returns-in_err-parts-in-Head-clause-failed : goal.returns-in_err-parts-in-Head-clause-failed
returns-in_err-parts-in-Head-clause-failed g c =
    let may = g.R.ReaderCalls.may_read in
    let e = c.in_err-parts-in-Head.field-0.0 in
    passed (IsReaders may) c.from_residual.result e c.from_residual.ensures.1 (of_bytes may e c.in_err-parts-in-Head.ensures.failed)

pub returns-in_err-fill_head-in-NeedMore-clause-failed : goal.returns-in_err-fill_head-in-NeedMore-clause-failed
returns-in_err-fill_head-in-NeedMore-clause-failed g c =
    let may = g.R.ReaderCalls.may_read in
    let e = c.in_err-fill_head-in-NeedMore.field-0.0 in
    passed (IsReaders may) c.from_residual-in_err-fill_head-in-NeedMore.result e c.from_residual-in_err-fill_head-in-NeedMore.ensures.1 (of_reader may [] e c.in_err-fill_head-in-NeedMore.ensures.failed)
