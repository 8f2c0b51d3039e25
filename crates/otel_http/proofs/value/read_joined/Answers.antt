use Rattle.std.proofs.Common.{◌∙◌, sym, ap, map, length, Some}
use Rattle.std.specs.List.{filter_map, join_by}
use Rattle.std.specs.Prelude.{codes}
use Rattle.std.proofs.lemmas.Bool.{eqb-true, eqb-false}
use Rattle.std.proofs.lemmas.List.{nil_from_length}
use Rattle.otel_http.specs.Headers.{joined, text}
use Rattle.otel_http.proofs.Reading.{joined_of, more_pieces, no_piece, pieces_done}
use Rattle.otel_http.proofs.value.read_joined.Goals as goal

pub loop-value-preserved-in_ok-push : goal.loop-value-preserved-in_ok-push
loop-value-preserved-in_ok-push c =
    more_pieces c.loop-value.pieces.items c.push.new.self.items c.in-Some-read.piece c.loop-value.value-iterator c.in-Some.value.now c.next.new.self
    (filter_map text c.args.values.now) c.in_ok-push.ensures.items c.in-Some.ensures.steps c.in-Some-read.ensures c.loop-value.invariant

pub loop-value-preserved : goal.loop-value-preserved
loop-value-preserved c =
    no_piece (map (λ p. p.now) c.loop-value.pieces.items) c.loop-value.value-iterator c.in-Some.value.now c.next.new.self
    (filter_map text c.args.values.now) c.in-Some.ensures.steps c.in_default.ensures c.loop-value.invariant

pub returns-then-is_empty : goal.returns-then-is_empty
returns-then-is_empty c =
    let done = pieces_done (map (λ p. p.now) c.loop-value.pieces.items) c.loop-value.value-iterator (filter_map text c.args.values.now) c.in-None.ensures.steps.0 c.loop-value.invariant in
    let none = nil_from_length c.loop-value.pieces.items (sym c.loop-value.pieces.ok.0 ∙ eqb-true _ _ (sym c.is_empty.ensures ∙ c.if-is_empty.true)) in
    ap (λ xs. joined (map (λ p. p.now) xs)) (sym none) ∙ ap joined done

pub returns : goal.returns
returns c =
    let done = pieces_done (map (λ p. p.now) c.loop-value.pieces.items) c.loop-value.value-iterator (filter_map text c.args.values.now) c.in-None.ensures.steps.0 c.loop-value.invariant in
    ap Some c.in_ok-join.ensures.ok
    ∙ ap (λ xs. Some (join_by (λ p. p.now) (codes ",") xs)) c.deref.ensures.value
    ∙ joined_of c.loop-value.pieces.items (λ none. eqb-false _ _ (sym c.is_empty.ensures ∙ c.if-is_empty.false) (c.loop-value.pieces.ok.0 ∙ ap length none))
    ∙ ap joined done
