-- How many tiles there are.
use Rattle.std.proofs.Common.{◌≡◌, ℕ, List, length, map, sym, ◌∙◌}
use Rattle.std.proofs.lemmas.List.{length-map}
use Rattle.mls_session.specs.Common.{AreStrips, LaidTile, Pool, picture_in, tile_count, world}
use Rattle.mls_geom.proofs.StripPictures.{AreUnorderedStrips-ordered}
use Rattle.mls_geom.proofs.UnorderedStrips.{unordered_strips_number}

-- the strips of a plane are as many as its tiles are counted
pub length-strips :
    (pool : Pool) (owner : ℕ) (list : List LaidTile) → AreStrips world (picture_in pool owner) (map (λ tile. tile.piece) list)
    → length list ≡ tile_count world (picture_in pool owner)
length-strips pool owner list strips =
    let pieces = map (λ (tile : LaidTile). tile.piece) list in
    sym (length-map list (λ tile. tile.piece))
    ∙ unordered_strips_number world (picture_in pool owner) pieces (AreUnorderedStrips-ordered world (picture_in pool owner) pieces strips)
