-- The use of an index, by what the library has for it, and what is seen of it on the plane of a number.
use Rattle.std.proofs.Common.{◌≡◌, ℕ, ◌<◌, ◌≤◌, ◌+◌, Contains, Option, Some, None, false, true, List, drop, slice_get, get_or, length, refl, sym, ap, ◌∙◌, arith}
use Rattle.std.specs.Option.{option_map}
use Rattle.std.proofs.lemmas.Option.{slice_get_past, slice_get_read}
use Rattle.mls_geom.specs.Pictures.{Picture}
use Rattle.mls_geom.specs.Rects.{IsRectangleIn, Rect, holds}
use Rattle.mls_geom.specs.World.{world}
use Rattle.mls_tilepool.specs.Pools.{Pool}
use Rattle.mls_stitch.specs.declared.laid_tile.LaidTile.{LaidTile}
use Rattle.mls_paint.specs.Planes.{picture_in}
use Rattle.mls_library.specs.Libraries.{IsHome, NamedCell}
use Rattle.mls_layout.specs.Inner.{FindsUse, ShowMoved, bounds_hold, later_uses}
use Rattle.mls_layout.specs.Moves.{moved_picture}
use Rattle.mls_layout.specs.Uses.{cell_layouts, over, use_layout}
use Rattle.mls_layout.specs.declared.uses.CellUse.{CellUse}
use Rattle.mls_layout.specs.declared.uses.Uses.{Uses}
use Rattle.mls_layout.proofs.ShownUses.{inside_world, over-as, under_later-among, under_later-none, under_later-painted}
use Rattle.mls_layout.proofs.UsedCells.{cell_there, no_cell, use_layout-None, use_layout-beyond, use_layout-outside, use_layout-plane}

module _ (pool : Pool) (uses : Uses) (index number : ℕ) (cell_use : CellUse) (within : index < length uses.list.now) (is_listed : cell_use ≡ get_or uses.list.now index cell_use) where
  -- nothing of it is seen at the square, whatever lies below
  abbrev pub IsHidden : ℕ → ℕ → Type 0
  IsHidden x y = (below : Picture) → over (later_uses pool uses (index + 1) number) below x y ≡ over (later_uses pool uses index number) below x y

  hidden-space : (x y : ℕ) → use_layout (cell_layouts pool uses.library.now) cell_use number x y ≡ 0 → IsHidden x y
  hidden-space x y none below = under_later-none (cell_layouts pool uses.library.now) uses.list.now index cell_use within is_listed number x y below none

  pub hidden-among : Contains (drop (index + 1) uses.list.now) cell_use → (x y : ℕ) → IsHidden x y
  hidden-among among x y below = under_later-among (cell_layouts pool uses.library.now) uses.list.now index cell_use within is_listed number x y below among

  pub hidden-no_cell : None ≡ option_map (λ (cell : NamedCell). cell.planes) (slice_get uses.library.now cell_use.cell) → (x y : ℕ) → IsHidden x y
  hidden-no_cell none x y = hidden-space x y (use_layout-None pool uses.library.now cell_use (no_cell (slice_get uses.library.now cell_use.cell) none) number x y)

  -- ---- a cell with these planes and these bounds
  module _ (planes : List ℕ) (bounds : Option Rect) (of_planes : Some planes ≡ option_map (λ (cell : NamedCell). cell.planes) (slice_get uses.library.now cell_use.cell)) (of_bounds : Some bounds ≡ option_map (λ (cell : NamedCell). cell.bounds) (slice_get uses.library.now cell_use.cell)) where
    found : (cell : NamedCell) × (slice_get uses.library.now cell_use.cell ≡ Some cell) × (cell.planes ≡ planes) × (cell.bounds ≡ bounds)
    found = cell_there (slice_get uses.library.now cell_use.cell) planes bounds of_planes of_bounds

    pub hidden-outside : IsHome pool uses.library.now → (x y : ℕ) → bounds_hold bounds cell_use.dx cell_use.dy x y ≡ false → IsHidden x y
    hidden-outside home x y out =
        let (cell, is, same, around) = found in
        hidden-space x y (use_layout-outside pool uses.library.now cell_use cell is home number x y (ap (λ (b : Option Rect). bounds_hold b cell_use.dx cell_use.dy x y) around ∙ out))

    pub hidden-beyond : length planes ≤ number → (x y : ℕ) → IsHidden x y
    hidden-beyond past x y =
        let (cell, is, same, around) = found in
        hidden-space x y (use_layout-beyond pool uses.library.now cell_use cell is number x y (slice_get_past cell.planes number (omega (arith, past, ap length same))))

    -- and the plane of the number among them
    module _ (owner : ℕ) (rect : Rect) (there : number < length planes) (is_owner : owner ≡ get_or planes number owner) (legal : IsRectangleIn world rect) where
      shows : (x y : ℕ) → holds rect x y ≡ true → use_layout (cell_layouts pool uses.library.now) cell_use number x y ≡ moved_picture (picture_in pool owner) cell_use.dx cell_use.dy x y
      shows x y inside =
          let (cell, is, same, around) = found in
          let at = slice_get_read cell.planes (length cell.planes) number owner refl (omega (arith, there, ap length same)) (is_owner ∙ ap (λ (list : List ℕ). get_or list number owner) (sym same)) in
          use_layout-plane pool uses.library.now cell_use cell is number owner x y at (inside_world rect x y legal inside)

      pub hidden-nowhere : (x y : ℕ) → holds rect x y ≡ true → moved_picture (picture_in pool owner) cell_use.dx cell_use.dy x y ≡ 0 → IsHidden x y
      hidden-nowhere x y inside none = hidden-space x y (shows x y inside ∙ none)

      pub FindsUse-found : (tiles : List LaidTile) → ShowMoved (picture_in pool owner) cell_use.dx cell_use.dy rect tiles → FindsUse pool uses index number rect cell_use.dx cell_use.dy tiles
      FindsUse-found tiles show = record {
        picture = picture_in pool owner;
        show = show;
        painted = λ below above x y inside painted.
            under_later-painted (cell_layouts pool uses.library.now) uses.list.now index cell_use within is_listed number x y below above
            (painted ∙ over-as (moved_picture (picture_in pool owner) cell_use.dx cell_use.dy) (use_layout (cell_layouts pool uses.library.now) cell_use number) below below x y (sym (shows x y inside)) refl);
      }
