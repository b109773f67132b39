-- A list of the strips of a plane is as long as the plane has tiles, which are no more than a workspace has room for.
use Rattle.std.proofs.Common.{◌≡◌, ℕ, ◌≤◌, Option, Some, None, IsSome, IfSome, List, length, map, sym, ◌∙◌, arith}
use Rattle.std.proofs.lemmas.List.{length-map}
use Rattle.mls_geom.specs.Strips.{AreStrips}
use Rattle.mls_geom.specs.World.{world}
use Rattle.mls_geom.proofs.StripLaws.{strips_number}
use Rattle.mls_geom.proofs.UnorderedStrips.{unordered_strips_number}
use Rattle.mls_tilepool.specs.Pools.{Pool, count_of, room_of, tiles_of}
use Rattle.mls_stitch.specs.Tilings.{block_of}
use Rattle.mls_stitch.specs.declared.laid_tile.LaidTile.{LaidTile}
use Rattle.mls_paint.specs.Planes.{HasStrips, picture_in}
use Rattle.mls_layout.specs.Workspaces.{FitsWorkspace, tile_room}

length-listed :
    (pool : Pool) (owner : ℕ) (tiles : List LaidTile) → HasStrips pool owner → AreStrips world (picture_in pool owner) (map (λ tile. tile.piece) tiles)
    → length tiles ≡ count_of pool owner
length-listed pool owner tiles has are =
    sym (length-map tiles (λ (tile : LaidTile). tile.piece)) ∙ strips_number world (picture_in pool owner) (map (λ (tile : LaidTile). tile.piece) tiles) are
    ∙ sym (unordered_strips_number _ _ _ has.maximal) ∙ length-map (tiles_of pool owner) (λ entry. block_of (tiles_of pool owner) entry.1)

within_reserve : (reserve : Option ℕ) (count most : ℕ) → IsSome reserve → IfSome reserve (λ room. count ≤ room) → IfSome reserve (λ room. room ≤ most) → count ≤ most
within_reserve None count most some fewer fits = absurd (cc some)
within_reserve (Some room) count most some fewer fits = omega (arith, fewer, fits)

pub listed-few :
    (pool : Pool) (owner : ℕ) (tiles : List LaidTile) → HasStrips pool owner → AreStrips world (picture_in pool owner) (map (λ tile. tile.piece) tiles)
    → IfSome (room_of pool owner) (λ room. count_of pool owner ≤ room) → FitsWorkspace pool owner → length tiles ≤ tile_room
listed-few pool owner tiles has are fewer fits =
    omega (arith, length-listed pool owner tiles has are, within_reserve (room_of pool owner) (count_of pool owner) tile_room has.plane.live fewer fits)
