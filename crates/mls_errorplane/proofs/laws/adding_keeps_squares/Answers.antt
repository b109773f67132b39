use Rattle.mls_errorplane.proofs.DirtySquares.{squares_of-added}
use Rattle.mls_errorplane.proofs.laws.adding_keeps_squares.Goals as goal

pub returns : goal.returns
returns c = squares_of-added
