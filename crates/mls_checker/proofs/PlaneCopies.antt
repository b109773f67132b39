-- Copies of one plane in a zone, made of pieces or of the tiles found in it, and compared with these tiles.
use Rattle.std.proofs.Common.{◌≡◌, ◌↔◌, ℕ, true, false, List, [], get_or, All, refl, sym, ap, subst, ◌∙◌}
use Rattle.std.proofs.lemmas.Bool.{and_from, and_parts, cond-true}
use Rattle.std.proofs.lemmas.List.{get_or_default}
use Rattle.mls_geom.specs.Pictures.{Picture}
use Rattle.mls_geom.specs.Rects.{IsRectangleIn, Rect, holds}
use Rattle.mls_geom.specs.World.{world}
use Rattle.mls_geom.specs.declared.piece.Piece.{Piece}
use Rattle.mls_geom.proofs.Holds.{holds_common}
use Rattle.mls_tilepool.specs.Pools.{Pool, tiles_of}
use Rattle.mls_stitch.specs.Areas.{MeetArea}
use Rattle.mls_stitch.specs.Tilings.{HasPlane, block_at}
use Rattle.mls_stitch.specs.declared.laid_tile.LaidTile.{LaidTile}
use Rattle.mls_paint.specs.Planes.{picture_in}
use Rattle.mls_layout.specs.Grids.{AppendsCover, CoverBlock}
use Rattle.mls_layout.specs.Uses.{cell_layouts, flat_plane, uses_layout}
use Rattle.mls_layout.specs.declared.uses.Uses.{Uses}
use Rattle.mls_layout.proofs.FlatLayouts.{over-space}
use Rattle.mls_checker.specs.FlatZones.{piece_tiles}
use Rattle.mls_checker.specs.Tiles.{AreTiles, HasTile, Tile, clipped_tile, outer, zone_tiles}
use Rattle.mls_checker.proofs.Copying.{HasPiece, cut, found-HasPiece}
use Rattle.mls_checker.proofs.FlatBlocks.{cut-same}
use Rattle.mls_checker.proofs.FlatTiles.{AppendsCover-none, pieces-AreTiles}
use Rattle.mls_checker.proofs.ZoneTiles.{amid-outer, cut_by_found, zone-AreTiles}

-- where no use shows anything in the zone, a plane shows its own paint there
pub own-cut :
    (pool : Pool) (uses : Uses) (number owner : ℕ) (zone : Rect)
    → ((plane x y : ℕ) → holds zone x y ≡ true → uses_layout (cell_layouts pool uses.library.now) uses.list.now plane x y ≡ 0)
    → cut (picture_in pool owner) zone ≡ cut (flat_plane pool uses number owner) zone
own-cut pool uses number owner zone apart =
    let others = uses_layout (cell_layouts pool uses.library.now) uses.list.now number in
    cut-same zone (picture_in pool owner) (flat_plane pool uses number owner) (λ x y here. sym (over-space (picture_in pool owner) others x y (apart number x y here)))

-- tiles made of pieces that leave no square of the zone out
pub pieces-copied :
    (zone : Rect) (picture : Picture) (old new pieces : List Piece) (tiles : List Tile) → IsRectangleIn world zone → old ≡ [] → AppendsCover zone picture old new
    → pieces ≡ new → tiles ≡ piece_tiles outer zone pieces → AreTiles outer (cut picture zone) tiles
pieces-copied zone picture old new pieces tiles legal none appended same are =
    let cover = subst (CoverBlock zone picture) (sym same) (AppendsCover-none zone picture old new none appended) in
    subst (AreTiles outer (cut picture zone)) (sym are) (pieces-AreTiles outer zone picture pieces (amid-outer zone legal) cover)

-- the tiles that a search finds
module _ (pool : Pool) (owner : ℕ) (zone : Rect) (found : List LaidTile) (plane : HasPlane pool owner) (met : MeetArea (block_at (tiles_of pool owner)) zone found) where
  pub found-kinds : All (λ tile. HasPiece (picture_in pool owner) tile.piece) found
  found-kinds k tile within =
      found-HasPiece pool owner zone found found k (get_or found k tile) plane met refl within (get_or_default found k tile (get_or found k tile) within)

  pub found-copied : (tiles : List Tile) → IsRectangleIn world zone → tiles ≡ zone_tiles outer zone found → AreTiles outer (cut (picture_in pool owner) zone) tiles
  found-copied tiles legal are =
      subst (AreTiles outer (cut (picture_in pool owner) zone)) (sym are)
      (zone-AreTiles (block_at (tiles_of pool owner)) outer zone (picture_in pool owner) found (amid-outer zone legal) met found-kinds)

  -- a picture that is space outside the zone has each of them as far as it lies in the zone exactly if it is what the plane shows in the zone
  found-shown :
      (mine : Picture) → ((x y : ℕ) → holds zone x y ≡ false → mine x y ≡ 0)
      → All (λ tile. HasTile mine (clipped_tile zone tile.piece)) found ↔ (mine ≡ cut (picture_in pool owner) zone)
  found-shown mine space =
      let picture = picture_in pool owner in (
        λ has. cut_by_found (block_at (tiles_of pool owner)) zone mine picture found met space (λ k d within x y here in_tile.
            let tile = get_or found k d in
            has k d within x y (holds_common tile.piece.rect zone x y ∙ and_from (holds tile.piece.rect x y) (holds zone x y) in_tile here)
            ∙ sym (found-kinds k d within x y in_tile)),
        λ same k d within x y here.
            let tile = get_or found k d in
            let both = and_parts (holds tile.piece.rect x y) (holds zone x y) (sym (holds_common tile.piece.rect zone x y) ∙ here) in
            ap (λ (p : Picture). p x y) same ∙ cond-true (holds zone x y) (picture x y) 0 both.1 ∙ found-kinds k d within x y both.0,
      )

  -- and so exactly if it is what the plane shows there with uses, where none of these shows anything in the zone
  pub found-shown_flat :
      (uses : Uses) (number : ℕ) → ((plane x y : ℕ) → holds zone x y ≡ true → uses_layout (cell_layouts pool uses.library.now) uses.list.now plane x y ≡ 0)
      → (mine : Picture) → ((x y : ℕ) → holds zone x y ≡ false → mine x y ≡ 0)
      → All (λ tile. HasTile mine (clipped_tile zone tile.piece)) found ↔ (mine ≡ cut (flat_plane pool uses number owner) zone)
  found-shown_flat uses number apart mine space =
      subst (λ (shown : Picture). All (λ tile. HasTile mine (clipped_tile zone tile.piece)) found ↔ (mine ≡ shown)) (own-cut pool uses number owner zone apart)
      (found-shown mine space)
