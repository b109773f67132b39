-- Pieces that later ones hide.
use Rattle.std.specs.Prelude.{◌≡◌, List}
use Rattle.mls_geom.specs.Pictures.{Picture, overlaid}
use Rattle.mls_geom.specs.declared.piece.Piece.{Piece}

-- the lists show the same over any picture
abbrev pub ShowAlike : List Piece → List Piece → Type 0
ShowAlike pieces others = (below : Picture) → overlaid below pieces ≡ overlaid below others
