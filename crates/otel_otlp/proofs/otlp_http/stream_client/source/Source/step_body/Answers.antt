use Rattle.std.proofs.Common.{◌≡◌, ◌<◌, ℕ, List, [], ◌++◌, length, drop, Ok, refl, sym, ap, ◌∙◌, subst, subst₂, inl, inr, append-nil, arith, rules}
use Rattle.std.proofs.KnownBytes.{Consumes-nil}
use Rattle.std.proofs.lemmas.List.{nil_from_length}
use Rattle.std.specs.Io.KnownBytes.{Consumes}
use Rattle.httparse.specs.Spans.{span_bytes}
use Rattle.http1.specs.declared.conn.Event.TheVariants as Found
use Rattle.http1.specs.Client.{ClientReads, ClientRefuses, reading, IsIdle}
use Rattle.otel_otlp.specs.StreamClient.{max_body_len, IsReaders, LacksMore, Breaks}
use Rattle.otel_otlp.specs.declared.otlp_http.client.HttpError.TheVariants.{Malformed}
use Rattle.otel_otlp.proofs.StreamErrors.{passed, of_bytes}
use Rattle.otel_otlp.proofs.StreamFaults.{refuses, breaks_now, breaks_front, lacks_here, over, ends_in_body, last_step_by, one_step_by, goes_on}
use Rattle.otel_otlp.proofs.StreamSteps.{gives_data, gives_more, finds_end, finds_close, until_close, stays_by_data, stays_by_need, stays_at_end, stays_at_eof, eof_closes}
use Rattle.otel_otlp.proofs.otlp_http.stream_client.source.Source.step_body.Goals as goal

pub returns-in_ok-add_piece-in-Data-clause-steps : goal.returns-in_ok-add_piece-in-Data-clause-steps
returns-in_ok-add_piece-in-Data-clause-steps g c =
    let input = c.args.self.now.unread.items in
    let found = subst (λ (xs : List ℕ). ClientReads c.args.connection.now xs c.read.new.headers c.read.new.self c.in-Ok.read) c.as_slice.ensures c.in-Ok.ensures.ok in
    let s = c.in-Data.piece in (
      [],
      Consumes-nil _,
      (
        span_bytes input s,
        c.in_ok-add_piece-in-Data.ensures.added ∙ ap (λ (xs : List ℕ). c.args.body.now.items ++ xs) (c.of.ensures ∙ ap (λ (xs : List ℕ). span_bytes xs s) c.as_slice-in-Data.ensures),
        rw c.advance.ensures.items (gives_data _ _ input _ c.in-Ok.read found s c.in-Data.is),
      ),
    )

pub returns-in-End-clause-steps : goal.returns-in-End-clause-steps
returns-in-End-clause-steps g c =
    let input = c.args.self.now.unread.items in
    let found = subst (λ (xs : List ℕ). ClientReads c.args.connection.now xs c.read.new.headers c.read.new.self c.in-Ok.read) c.as_slice.ensures c.in-Ok.ensures.ok in (
      [],
      Consumes-nil _,
      (
        [],
        sym (append-nil _),
        rw c.advance-in-End.ensures.items (finds_end _ _ input _ c.in-Ok.read found c.in-End.field-0 c.in-End.is),
      ),
    )

pub returns-then-branch-gt0-clause-steps : goal.returns-then-branch-gt0-clause-steps
returns-then-branch-gt0-clause-steps g c =
    let input = c.args.self.now.unread.items in
    let found = subst (λ (xs : List ℕ). ClientReads c.args.connection.now xs c.read.new.headers c.read.new.self c.in-Ok.read) c.as_slice.ensures c.in-Ok.ensures.ok in
    let (came, counted, gained) = c.in_ok-fill-in-NeedMore.ensures.gains in (
      came,
      gained.1,
      (
        [],
        sym (append-nil _),
        rw (gained.0, c.advance-in-NeedMore.ensures.items) (gives_more _ _ input _ c.in-Ok.read found c.in-NeedMore.is came),
      ),
    )

pub returns-in-Ok-End-clause-steps : goal.returns-in-Ok-End-clause-steps
returns-in-Ok-End-clause-steps g c =
    let input = c.args.self.now.unread.items in
    let found = subst (λ (xs : List ℕ). ClientReads c.args.connection.now xs c.read.new.headers c.read.new.self c.in-Ok.read) c.as_slice.ensures c.in-Ok.ensures.ok in
    let (came, counted, gained) = c.in_ok-fill-in-NeedMore.ensures.gains in
    let none : came ≡ [] = nil_from_length came (omega (arith, counted, c.if-branch-gt0.false)) in
    let closed = until_close (reading c.read.new.self) c.read.new.self c.in-Ok-End.field-0-0 (sym c.read_eof.ensures.answer ∙ search rules) in (
      [],
      subst (λ (xs : List ℕ). Consumes (g.R.Read.remaining c.args.self.now.reader) (g.R.Read.remaining c.fill.new.self.reader) xs) none gained.1,
      (
        [],
        sym (append-nil _),
        rw (gained.0, none, c.advance-in-NeedMore.ensures.items) (finds_close _ _ input _ c.in-Ok.read found c.in-NeedMore.is closed),
      ),
    )

pub returns-in_ok-add_piece-in-Data-clause-keeps : goal.returns-in_ok-add_piece-in-Data-clause-keeps
returns-in_ok-add_piece-in-Data-clause-keeps g c =
    let input = c.args.self.now.unread.items in
    let found = subst (λ (xs : List ℕ). ClientReads c.args.connection.now xs c.read.new.headers c.read.new.self c.in-Ok.read) c.as_slice.ensures c.in-Ok.ensures.ok in
    stays_by_data _ _ input _ c.in-Ok.read found c.requires.closes c.in-Data.piece c.in-Data.is

pub returns-in-End-clause-keeps : goal.returns-in-End-clause-keeps
returns-in-End-clause-keeps g c =
    let input = c.args.self.now.unread.items in
    let found = subst (λ (xs : List ℕ). ClientReads c.args.connection.now xs c.read.new.headers c.read.new.self c.in-Ok.read) c.as_slice.ensures c.in-Ok.ensures.ok in
    stays_at_end _ _ input _ c.in-Ok.read found c.in-End.field-0 c.in-End.is

pub returns-then-branch-gt0-clause-keeps : goal.returns-then-branch-gt0-clause-keeps
returns-then-branch-gt0-clause-keeps g c =
    let input = c.args.self.now.unread.items in
    let found = subst (λ (xs : List ℕ). ClientReads c.args.connection.now xs c.read.new.headers c.read.new.self c.in-Ok.read) c.as_slice.ensures c.in-Ok.ensures.ok in
    stays_by_need _ _ input _ c.in-Ok.read found c.requires.closes c.in-NeedMore.is

pub returns-in-Ok-End-clause-keeps : goal.returns-in-Ok-End-clause-keeps
returns-in-Ok-End-clause-keeps g c =
    let input = c.args.self.now.unread.items in
    let found = subst (λ (xs : List ℕ). ClientReads c.args.connection.now xs c.read.new.headers c.read.new.self c.in-Ok.read) c.as_slice.ensures c.in-Ok.ensures.ok in
    let closed = until_close (reading c.read.new.self) c.read.new.self c.in-Ok-End.field-0-0 (sym c.read_eof.ensures.answer ∙ search rules) in
    stays_at_eof _ _ input _ c.in-Ok.read found c.requires.closes c.in-NeedMore.is c.read_eof.new.self closed
    (λ idle. eof_closes (reading c.read.new.self) c.read.new.self closed (subst (λ k. IsIdle k) c.read_eof.ensures.after idle))

pub returns-in_default-clause-malformed : goal.returns-in_default-clause-malformed
returns-in_default-clause-malformed g c =
    let may = g.R.ReaderCalls.may_read in
    let input = c.args.self.now.unread.items in
    let (e, why) = refuses _ c.read.result c.in_default.not-Ok c.read.ensures.err in
    let told = subst₂ (λ xs n. ClientRefuses c.args.connection.now xs n e) c.as_slice.ensures c.requires.room why in
    breaks_now g.R.Read.remaining c.args.self.now c.args.self.now (LacksMore may c.args.body.now.items c.args.connection.now) Malformed (Consumes-nil _)
    (λ _. lacks_here may c.args.body.now.items c.args.connection.now input (inl (inl (inl (e, told)))))

pub returns-in_err-add_piece-in-Data-clause-malformed : goal.returns-in_err-add_piece-in-Data-clause-malformed
returns-in_err-add_piece-in-Data-clause-malformed g c =
    let may = g.R.ReaderCalls.may_read in
    let input = c.args.self.now.unread.items in
    let found = subst (λ (xs : List ℕ). ClientReads c.args.connection.now xs c.read.new.headers c.read.new.self c.in-Ok.read) c.as_slice.ensures c.in-Ok.ensures.ok in
    let s = c.in-Data.piece in
    let same : c.of.result.now ≡ span_bytes input s = c.of.ensures ∙ ap (λ (xs : List ℕ). span_bytes xs s) c.as_slice-in-Data.ensures in
    let e = c.in_err-add_piece-in-Data.field-0.0 in
    passed (Breaks g.R.Read.remaining c.args.self.now c.args.self.now (LacksMore may c.args.body.now.items c.args.connection.now)) c.from_residual.result e c.from_residual.ensures.1
    (breaks_front g.R.Read.remaining c.args.self.now c.args.self.now (LacksMore may c.args.body.now.items c.args.connection.now) e (Consumes-nil _)
    (λ is. record {
      now = c.read.new.self;
      left = drop c.in-Ok.read.consumed input;
      piece = span_bytes input s;
      comes = last_step_by _ _ input _ c.in-Ok.read found (Found.Data s) c.in-Data.is (λ count is. cc);
      stops = inr (inl (subst (λ (xs : List ℕ). max_body_len < length (c.args.body.now.items ++ xs)) same (c.in_err-add_piece-in-Data.ensures.malformed is)));
    }))

pub returns-in_default-event-clause-malformed : goal.returns-in_default-event-clause-malformed
returns-in_default-event-clause-malformed g c =
    let may = g.R.ReaderCalls.may_read in
    let input = c.args.self.now.unread.items in
    let found = subst (λ (xs : List ℕ). ClientReads c.args.connection.now xs c.read.new.headers c.read.new.self c.in-Ok.read) c.as_slice.ensures c.in-Ok.ensures.ok in
    breaks_now g.R.Read.remaining c.args.self.now c.args.self.now (LacksMore may c.args.body.now.items c.args.connection.now) Malformed (Consumes-nil _)
    (λ _. lacks_here may c.args.body.now.items c.args.connection.now input (inr (over _ _ input _ c.in-Ok.read found c.in_default-event.not-Data c.in_default-event.not-End c.in_default-event.not-NeedMore c.requires.begun)))

pub returns-in-Err-clause-malformed : goal.returns-in-Err-clause-malformed
returns-in-Err-clause-malformed g c =
    let may = g.R.ReaderCalls.may_read in
    let input = c.args.self.now.unread.items in
    let found = subst (λ (xs : List ℕ). ClientReads c.args.connection.now xs c.read.new.headers c.read.new.self c.in-Ok.read) c.as_slice.ensures c.in-Ok.ensures.ok in
    let (came, counted, gained) = c.in_ok-fill-in-NeedMore.ensures.gains in
    let none : came ≡ [] = nil_from_length came (omega (arith, counted, c.if-branch-gt0.false)) in
    let zero : c.in_ok-fill-in-NeedMore.field-0 ≡ 0 = omega (arith, c.if-branch-gt0.false) in
    let ended = subst (λ (n : ℕ). may (Ok n)) zero c.in_ok-fill-in-NeedMore.ensures.answered in
    breaks_now g.R.Read.remaining c.args.self.now c.fill.new.self (LacksMore may c.args.body.now.items c.args.connection.now) Malformed
    (subst (λ (xs : List ℕ). Consumes (g.R.Read.remaining c.args.self.now.reader) (g.R.Read.remaining c.fill.new.self.reader) xs) none gained.1)
    (λ _. lacks_here may c.args.body.now.items c.args.connection.now input (inl (inl (inr (
      ended,
      ends_in_body _ _ input _ c.in-Ok.read found c.in-NeedMore.is
          (λ count is. let it = sym c.in-Err.is ∙ c.read_eof.ensures.answer ∙ is in cc),
    )))))

pub returns-in_ok-add_piece-in-Data-clause-comes : goal.returns-in_ok-add_piece-in-Data-clause-comes
returns-in_ok-add_piece-in-Data-clause-comes g c =
    let input = c.args.self.now.unread.items in
    let found = subst (λ (xs : List ℕ). ClientReads c.args.connection.now xs c.read.new.headers c.read.new.self c.in-Ok.read) c.as_slice.ensures c.in-Ok.ensures.ok in
    let s = c.in-Data.piece in
    λ _. record {
      came = [];
      consumed = Consumes-nil _;
      piece = span_bytes input s;
      grows = c.in_ok-add_piece-in-Data.ensures.added ∙ ap (λ (xs : List ℕ). c.args.body.now.items ++ xs) (c.of.ensures ∙ ap (λ (xs : List ℕ). span_bytes xs s) c.as_slice-in-Data.ensures);
      comes = rw c.advance.ensures.items (last_step_by _ _ input _ c.in-Ok.read found (Found.Data s) c.in-Data.is (λ count is. cc));
      begun = goes_on _ _ input _ c.in-Ok.read found c.requires.begun (Found.Data s) c.in-Data.is (λ count is. cc);
    }

pub returns-then-branch-gt0-clause-comes : goal.returns-then-branch-gt0-clause-comes
returns-then-branch-gt0-clause-comes g c =
    let input = c.args.self.now.unread.items in
    let found = subst (λ (xs : List ℕ). ClientReads c.args.connection.now xs c.read.new.headers c.read.new.self c.in-Ok.read) c.as_slice.ensures c.in-Ok.ensures.ok in
    let (came, counted, gained) = c.in_ok-fill-in-NeedMore.ensures.gains in
    λ _. record {
      came = came;
      consumed = gained.1;
      piece = [];
      grows = sym (append-nil _);
      comes = rw (gained.0, c.advance-in-NeedMore.ensures.items) (one_step_by _ _ input _ c.in-Ok.read found Found.NeedMore c.in-NeedMore.is (λ count is. cc) refl came);
      begun = goes_on _ _ input _ c.in-Ok.read found c.requires.begun Found.NeedMore c.in-NeedMore.is (λ count is. cc);
    }

pub returns-in_err-add_piece-in-Data-clause-failed : goal.returns-in_err-add_piece-in-Data-clause-failed
returns-in_err-add_piece-in-Data-clause-failed g c =
    let may = g.R.ReaderCalls.may_read in
    let e = c.in_err-add_piece-in-Data.field-0.0 in
    passed (IsReaders may) c.from_residual.result e c.from_residual.ensures.1 (of_bytes may e c.in_err-add_piece-in-Data.ensures.failed)

pub returns-in_err-fill-in-NeedMore-clause-failed : goal.returns-in_err-fill-in-NeedMore-clause-failed
returns-in_err-fill-in-NeedMore-clause-failed g c =
    let may = g.R.ReaderCalls.may_read in
    passed (IsReaders may) c.from_residual-in_err-fill-in-NeedMore.result c.in_err-fill-in-NeedMore.field-0.0 c.from_residual-in_err-fill-in-NeedMore.ensures.1 c.in_err-fill-in-NeedMore.ensures.failed
