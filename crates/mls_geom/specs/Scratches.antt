-- What a caller sees of a scratch.
use Rattle.std.specs.Prelude.{ℕ, List}
use Rattle.mls_geom.specs.declared.piece.Piece.{Piece}

-- the strips that the last sweep left, and how many pieces and strips there is room for
pub record Scratch : Type 0 where
  pub strips : List Piece
  pub room : ℕ
