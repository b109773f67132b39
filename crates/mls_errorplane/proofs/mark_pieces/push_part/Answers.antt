use Rattle.std.proofs.Common.{ap, sym, ◌∙◌, arith}
use Rattle.mls_geom.specs.Rects.{Rect, common, has_squares}
use Rattle.mls_errorplane.proofs.PaintedAreas.{Paints-common, Paints-none, length-pushed}
use Rattle.mls_errorplane.proofs.mark_pieces.push_part.Goals as goal

pub returns-then-not-has_squares-clause-painted : goal.returns-then-not-has_squares-clause-painted
returns-then-not-has_squares-clause-painted c = λ set paints.
    let shared = c.common-common.ensures ∙ ap (λ (e : Rect). common c.args.area e) c.area.ensures.value in
    Paints-none c.args.pieces.now.items c.args.part c.args.area set (sym (ap has_squares shared) ∙ sym c.if-not-has_squares.ensures) paints

pub returns-clause-painted : goal.returns-clause-painted
returns-clause-painted c = λ set paints.
    let shared = c.common-common.ensures ∙ ap (λ (e : Rect). common c.args.area e) c.area.ensures.value in
    Paints-common c.args.pieces.now.items c.push_reserved.new.self.items c.args.part c.args.area c.between-rect.result set c.requires.legal (sym (ap has_squares shared) ∙ sym c.if-not-has_squares.ensures)
    (c.between-rect.ensures ∙ c.common.view_is ∙ shared) (rw c.new.ensures at c.push_reserved.ensures.items) paints

pub returns-clause-few : goal.returns-clause-few
returns-clause-few c = omega (arith, length-pushed c.args.pieces.now.items c.push_reserved.new.self.items _ c.push_reserved.ensures.items)
