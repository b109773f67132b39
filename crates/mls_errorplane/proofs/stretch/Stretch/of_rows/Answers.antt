use Rattle.std.proofs.Common.{ap, ◌*◌, ◌∙◌, arith}
use Rattle.mls_errorplane.proofs.NextStretches.{rows-IsNext, same_sides}
use Rattle.mls_errorplane.proofs.stretch.Stretch.of_rows.Goals as goal

pub returns : goal.returns
returns c others =
    let (left, bottom, right, top) = same_sides _ _ c.area.view_is in
    rows-IsNext c.args.area c.between.result c.rows_from.result others c.rect_of.result c.pieces_along-columns.result c.min-rows.result (c.from.result * c.from-2.result) c.min-top.result
    c.requires.legal (omega (arith, c.pieces_along-columns.ensures.enough, left, right)) (omega (arith, c.pieces_along-columns.ensures.few, left, right))
    (omega (arith, c.pieces_along.ensures.few, c.min-rows.ensures, bottom, top)) (omega (arith, c.min-top.ensures, bottom, top)) (cc (c.between.ensures, left, bottom, right))
    c.rows_from.ensures c.rect_of.ensures
    (ap (λ n. n * c.from-2.result) c.from.ensures ∙ ap (λ n. c.pieces_along-columns.result * n) c.from-2.ensures)
    (omega (arith, c.pieces_along-columns.ensures.enough, c.requires.legal.wide, left, right))
    (omega (arith, c.pieces_along.ensures.enough, c.min-rows.ensures, c.requires.legal.tall, c.requires.some, bottom, top))
