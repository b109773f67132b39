use Rattle.std.proofs.Common.{arith}
use Rattle.mls_errorplane.proofs.NextStretches.{row-IsNext, same_sides}
use Rattle.mls_errorplane.proofs.stretch.Stretch.in_row.Goals as goal

pub returns : goal.returns
returns c others =
    let (left, bottom, right, top) = same_sides _ _ c.area.view_is in
    row-IsNext c.args.area c.between.result c.columns_from.result others c.rect_of.result c.min-pieces.result c.from.result c.min-right.result c.requires.legal c.requires.low
    (omega (arith, c.pieces_along.ensures.few, c.min-pieces.ensures, left, right)) (omega (arith, c.min-right.ensures, left, right)) (cc (c.between.ensures, left, bottom, top))
    c.columns_from.ensures c.rect_of.ensures c.from.ensures
    (omega (arith, c.pieces_along.ensures.enough, c.min-pieces.ensures, c.requires.legal.wide, c.requires.some, left, right))
