-- What a use shows, by the cell that it places.
use Rattle.std.proofs.Common.{◌≡◌, ℕ, ℤ, pos, negsuc, ◌-ℤ◌, Bool, true, false, if◌then◌else◌, Option, Some, None, List, slice_get, refl, sym, ap, ◌∙◌, subst}
use Rattle.std.specs.Option.{option_map, unwrap_or}
use Rattle.std.proofs.lemmas.Bool.{cond-true}
use Rattle.std.proofs.lemmas.Option.{get_or_from_slice_get, same_Some, slice_get-map, slice_get_within}
use Rattle.mls_geom.specs.Layouts.{Layout}
use Rattle.mls_geom.specs.Pictures.{Picture, empty_picture}
use Rattle.mls_geom.specs.Rects.{Rect, holds}
use Rattle.mls_geom.specs.World.{world}
use Rattle.mls_tilepool.specs.Pools.{Pool}
use Rattle.mls_paint.specs.Planes.{picture_at, picture_in}
use Rattle.mls_library.specs.Libraries.{IsCellHome, IsHome, Library, NamedCell, ShowsWithin, cell_layout}
use Rattle.mls_layout.specs.Inner.{bounds_hold}
use Rattle.mls_layout.specs.Moves.{holds_at, kind_or_space, moved_picture}
use Rattle.mls_layout.specs.Uses.{cell_layouts, cell_shown, use_layout}
use Rattle.mls_layout.specs.declared.uses.CellUse.{CellUse}
use Rattle.mls_layout.proofs.FlatLayouts.{kind_or_space-space, moved_picture-space}

-- ---- moved pictures
-- what lies outside a picture's bounds is space where it is moved
outside_at : (bounds : Rect) (picture : Picture) (zx zy : ℤ) → ShowsWithin (Some bounds) picture → holds_at bounds zx zy ≡ false → kind_or_space picture zx zy ≡ 0
outside_at bounds picture (pos a) (pos b) within out = within a b out
outside_at bounds picture (pos a) (negsuc b) within out = refl
outside_at bounds picture (negsuc a) zy within out = refl

pub moved_picture-outside :
    (bounds : Option Rect) (picture : Picture) (dx dy : ℤ) (x y : ℕ) → ShowsWithin bounds picture → bounds_hold bounds dx dy x y ≡ false → moved_picture picture dx dy x y ≡ 0
unfolding moved_picture
moved_picture-outside None picture dx dy x y within out = kind_or_space-space picture (pos x -ℤ dx) (pos y -ℤ dy) (λ x y. within x y refl)
moved_picture-outside (Some bounds) picture dx dy x y within out = outside_at bounds picture (pos x -ℤ dx) (pos y -ℤ dy) within out

-- ---- the cell of a number
-- there is one with these planes and these bounds
pub cell_there :
    (at : Option NamedCell) (planes : List ℕ) (bounds : Option Rect) → Some planes ≡ option_map (λ cell. cell.planes) at → Some bounds ≡ option_map (λ cell. cell.bounds) at
    → (cell : NamedCell) × (at ≡ Some cell) × (cell.planes ≡ planes) × (cell.bounds ≡ bounds)
cell_there None planes bounds of_planes of_bounds = absurd (cc of_planes)
cell_there (Some cell) planes bounds of_planes of_bounds = (cell, refl, sym (same_Some planes cell.planes of_planes), sym (same_Some bounds cell.bounds of_bounds))

-- there is none
pub no_cell : (at : Option NamedCell) → None ≡ option_map (λ (cell : NamedCell). cell.planes) at → at ≡ None
no_cell None none = refl
no_cell (Some cell) none = absurd (cc none)

-- ---- a use of a library's cell
pub nowhere : (inside : Bool) (kind : ℕ) → kind ≡ 0 → (if inside then kind else 0) ≡ 0
nowhere true kind none = none
nowhere false kind none = refl

module _ (pool : Pool) (cells : Library) (cell_use : CellUse) where
  layout_there : (cell : Option NamedCell) → slice_get cells cell_use.cell ≡ cell → cell_shown (cell_layouts pool cells) cell_use.cell ≡ unwrap_or (option_map (cell_layout pool) cell) (λ plane. empty_picture)
  layout_there cell is = ap (λ (found : Option Layout). unwrap_or found (λ plane. empty_picture)) (slice_get-map (cell_layout pool) cells cell_use.cell ∙ ap (option_map (cell_layout pool)) is)

  -- of none it shows nothing
  pub use_layout-None : slice_get cells cell_use.cell ≡ None → (plane x y : ℕ) → use_layout (cell_layouts pool cells) cell_use plane x y ≡ 0
  use_layout-None none plane x y =
      nowhere (holds world x y) (moved_picture (cell_shown (cell_layouts pool cells) cell_use.cell plane) cell_use.dx cell_use.dy x y)
      (ap (λ (layout : Layout). moved_picture (layout plane) cell_use.dx cell_use.dy x y) (layout_there None none) ∙ moved_picture-space empty_picture cell_use.dx cell_use.dy x y (λ x y. refl))

  module _ (cell : NamedCell) (is : slice_get cells cell_use.cell ≡ Some cell) where
    shown : (plane : ℕ) → cell_shown (cell_layouts pool cells) cell_use.cell plane ≡ cell_layout pool cell plane
    shown plane = ap (λ (layout : Layout). layout plane) (layout_there (Some cell) is)

    pub cell_home : IsHome pool cells → IsCellHome pool cell
    cell_home home = subst (IsCellHome pool) (get_or_from_slice_get cells cell_use.cell cell cell is) (home.each cell_use.cell cell (slice_get_within cells cell_use.cell cell is))

    -- outside the cell's bounds it shows nothing
    pub use_layout-outside :
        IsHome pool cells → (plane x y : ℕ) → bounds_hold cell.bounds cell_use.dx cell_use.dy x y ≡ false → use_layout (cell_layouts pool cells) cell_use plane x y ≡ 0
    use_layout-outside home plane x y out =
        nowhere (holds world x y) (moved_picture (cell_shown (cell_layouts pool cells) cell_use.cell plane) cell_use.dx cell_use.dy x y)
        (ap (λ (picture : Picture). moved_picture picture cell_use.dx cell_use.dy x y) (shown plane)
        ∙ moved_picture-outside cell.bounds (cell_layout pool cell plane) cell_use.dx cell_use.dy x y ((cell_home home).bounded plane) out)

    -- nor on a plane that the cell doesn't have
    pub use_layout-beyond : (plane x y : ℕ) → slice_get cell.planes plane ≡ None → use_layout (cell_layouts pool cells) cell_use plane x y ≡ 0
    use_layout-beyond plane x y none =
        nowhere (holds world x y) (moved_picture (cell_shown (cell_layouts pool cells) cell_use.cell plane) cell_use.dx cell_use.dy x y)
        (ap (λ (picture : Picture). moved_picture picture cell_use.dx cell_use.dy x y) (shown plane ∙ ap (picture_at pool) none)
        ∙ moved_picture-space empty_picture cell_use.dx cell_use.dy x y (λ x y. refl))

    -- the cell shows on each plane what the plane does
    pub cell_shown-owner : (plane owner : ℕ) → slice_get cell.planes plane ≡ Some owner → cell_shown (cell_layouts pool cells) cell_use.cell plane ≡ picture_in pool owner
    cell_shown-owner plane owner there = shown plane ∙ ap (picture_at pool) there

    -- in the world it shows what the cell's plane does, moved
    pub use_layout-plane :
        (plane owner x y : ℕ) → slice_get cell.planes plane ≡ Some owner → holds world x y ≡ true
        → use_layout (cell_layouts pool cells) cell_use plane x y ≡ moved_picture (picture_in pool owner) cell_use.dx cell_use.dy x y
    use_layout-plane plane owner x y there inside =
        cond-true (holds world x y) (moved_picture (cell_shown (cell_layouts pool cells) cell_use.cell plane) cell_use.dx cell_use.dy x y) 0 inside
        ∙ ap (λ (picture : Picture). moved_picture picture cell_use.dx cell_use.dy x y) (cell_shown-owner plane owner there)
