-- The strips of which the tests build planes.
use Rattle.std.proofs.Common.{◌≡◌, List, sym, subst}
use Rattle.mls_geom.specs.Locality.{AreUnorderedStrips}
use Rattle.mls_geom.specs.Pictures.{Picture, picture_of}
use Rattle.mls_geom.specs.Strips.{AreStrips}
use Rattle.mls_geom.specs.World.{world}
use Rattle.mls_geom.specs.declared.piece.Piece.{Piece}
use Rattle.mls_geom.proofs.StripPictures.{AreUnorderedStrips-ordered}

-- strips in order, read again, are strips of what they show
pub strips_read :
    (picture : Picture) (strips pieces : List Piece) → AreStrips world picture strips → picture_of strips ≡ picture → pieces ≡ strips
    → AreUnorderedStrips world (picture_of pieces) pieces
strips_read picture strips pieces are shown same =
    let shown' = subst (λ p. AreStrips world p strips) (sym shown) are in
    subst (λ l. AreUnorderedStrips world (picture_of l) l) (sym same) (AreUnorderedStrips-ordered world (picture_of strips) strips shown')
