use Rattle.std.proofs.Common.{◌∷◌, subst}
use Rattle.mls_errorplane.proofs.Common.{IsNext, Rect}
use Rattle.mls_errorplane.proofs.stretch.Stretch.of.Goals as goal

pub returns-then-lines-le-PIECE_SIDE : goal.returns-then-lines-le-PIECE_SIDE
returns-then-lines-le-PIECE_SIDE c others = subst (λ (area : Rect). IsNext (area ∷ others) c.in_row.result) c.area-lines.ensures.value (c.in_row.ensures others)

pub returns-else-lines-le-PIECE_SIDE : goal.returns-else-lines-le-PIECE_SIDE
returns-else-lines-le-PIECE_SIDE c others = subst (λ (area : Rect). IsNext (area ∷ others) c.of_rows.result) c.area-lines.ensures.value (c.of_rows.ensures others)
