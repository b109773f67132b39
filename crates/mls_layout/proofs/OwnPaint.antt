-- What uses show, one after another, and a plane's own tiles laid over it.
use Rattle.std.proofs.Common.{◌≡◌, ℕ, true, pos, ◌≤◌, ◌+◌, length, List, sym, ap, subst, ◌∙◌}
use Rattle.std.proofs.Math.ListN.{drop_of_length-le}
use Rattle.mls_geom.specs.Pictures.{Picture}
use Rattle.mls_geom.specs.Rects.{Rect, holds}
use Rattle.mls_tilepool.specs.Pools.{Pool, tiles_of}
use Rattle.mls_stitch.specs.Areas.{MeetArea}
use Rattle.mls_stitch.specs.Tilings.{HasPlane, block_at}
use Rattle.mls_stitch.specs.declared.laid_tile.LaidTile.{LaidTile}
use Rattle.mls_paint.specs.Planes.{picture_in}
use Rattle.mls_layout.specs.Inner.{ShowMoved, later_uses}
use Rattle.mls_layout.specs.Moves.{moved_picture}
use Rattle.mls_layout.specs.Uses.{cell_layouts, flat_plane, over, uses_layout}
use Rattle.mls_layout.specs.declared.uses.CellUse.{CellUse}
use Rattle.mls_layout.specs.declared.uses.Uses.{Uses}
use Rattle.mls_layout.proofs.FoundTiles.{ShowMoved-here, moved-zero}
use Rattle.mls_layout.proofs.ShownUses.{over-as}

-- the tiles that were found in a block show the plane there, also by what the pool was before
pub ShowMoved-own :
    (pool now : Pool) (owner : ℕ) (block : Rect) (found list : List LaidTile) → HasPlane pool owner → now ≡ pool → list ≡ found
    → MeetArea (block_at (tiles_of now owner)) block found → ShowMoved (picture_in pool owner) (pos 0) (pos 0) block list
ShowMoved-own pool now owner block found list plane same is are =
    subst (λ (tiles : List LaidTile). ShowMoved (picture_in pool owner) (pos 0) (pos 0) block tiles) (sym is)
    (ShowMoved-here pool owner plane block found (subst (λ (p : Pool). MeetArea (block_at (tiles_of p owner)) block found) same are))

module _ (pool : Pool) (uses : Uses) (number index : ℕ) where
  -- one use more
  pub later_uses-next :
      (area : Rect) (now : Pool) (old new : Picture) → now ≡ pool
      → ((x y : ℕ) → holds area x y ≡ true → over (later_uses now uses (index + 1) number) new x y ≡ over (later_uses now uses index number) old x y)
      → ((x y : ℕ) → holds area x y ≡ true → over (later_uses pool uses index number) old x y ≡ uses_layout (cell_layouts pool uses.library.now) uses.list.now number x y)
      → (x y : ℕ) → holds area x y ≡ true → over (later_uses pool uses (index + 1) number) new x y ≡ uses_layout (cell_layouts pool uses.library.now) uses.list.now number x y
  later_uses-next area now old new same step so_far x y inside =
      subst (λ (p : Pool). over (later_uses p uses (index + 1) number) new x y ≡ over (later_uses p uses index number) old x y) same (step x y inside) ∙ so_far x y inside

  -- the plane's own paint over them all
  pub flat_plane-painted :
      (owner : ℕ) (below new : Picture) (x y : ℕ) → HasPlane pool owner → length uses.list.now ≤ index
      → over (later_uses pool uses index number) below x y ≡ uses_layout (cell_layouts pool uses.library.now) uses.list.now number x y
      → new x y ≡ over (moved_picture (picture_in pool owner) (pos 0) (pos 0)) below x y → new x y ≡ flat_plane pool uses number owner x y
  flat_plane-painted owner below new x y plane last so_far own =
      let cells = cell_layouts pool uses.library.now in
      let none = ap (λ (list : List CellUse). over (uses_layout cells list number) below x y) (drop_of_length-le uses.list.now {i = index} last) in
      own
      ∙ over-as (moved_picture (picture_in pool owner) (pos 0) (pos 0)) (picture_in pool owner) below (uses_layout cells uses.list.now number) x y (moved-zero pool owner plane x y)
      (sym none ∙ so_far)
