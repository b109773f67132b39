use Rattle.std.proofs.Common.{ap, sym, ◌∙◌}
use Rattle.mls_geom.specs.Rects.{Rect, common, has_squares}
use Rattle.mls_errorplane.proofs.SetStrips.{laid-pushed, laid-same}
use Rattle.mls_errorplane.proofs.set_strips.push_piece.Goals as goal

pub returns-then-not-has_squares : goal.returns-then-not-has_squares
returns-then-not-has_squares c x y =
    let shared = c.common-common.ensures ∙ ap (λ (e : Rect). common c.args.area e) c.area.ensures.value in
    laid-same c.args.pieces.now.items c.args.rect c.args.area x y (sym (ap has_squares shared) ∙ sym c.if-not-has_squares.ensures)

pub returns : goal.returns
returns c x y =
    let shared = c.common-common.ensures ∙ ap (λ (e : Rect). common c.args.area e) c.area.ensures.value in
    laid-pushed c.args.pieces.now.items c.push.new.self.items c.args.rect c.args.area c.between-rect.result x y
    (c.between-rect.ensures ∙ c.common.view_is ∙ shared) (rw c.new.ensures at c.in_ok-push.ensures.items)
