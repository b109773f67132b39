-- What layouts show with uses: where uses show nothing it is the own paint, beyond the planes and outside the world it is space, and it stays as tiles of
-- an owner change that has neither.
use Rattle.std.proofs.Common.{◌≡◌, ℕ, zero, suc, ◌==◌, ◌≤◌, false, if◌then◌else◌, inl, inr, List, [], ◌∷◌, length, get_or, All, Some, slice_get, refl, ap, ◌∙◌, arith}
use Rattle.std.specs.Prelude.{ℤ, pos, negsuc, ◌-ℤ◌}
use Rattle.std.proofs.lemmas.Bool.{cases_Bool, cond-false, cond-true}
use Rattle.std.proofs.lemmas.Bool.Decides.{nat_tests}
use Rattle.std.proofs.lemmas.List.Elements.{All-cons, All-head, All-nil, All-tail}
use Rattle.std.proofs.lemmas.Option.{slice_get_past}
use Rattle.mls_geom.specs.Layouts.{Layout}
use Rattle.mls_geom.specs.Pictures.{Picture}
use Rattle.mls_geom.specs.Rects.{holds}
use Rattle.mls_geom.specs.World.{world}
use Rattle.mls_tilepool.specs.Pools.{Pool}
use Rattle.mls_paint.specs.Owners.{ChangesAmong}
use Rattle.mls_paint.specs.Planes.{layout_in, picture_at}
use Rattle.mls_library.specs.Libraries.{Library, NamedCell, cell_layout}
use Rattle.mls_library.proofs.KeptCells.{IsCellApart, IsHome-ChangesAmong, cell_layout-ChangesAmong}
use Rattle.mls_layout.specs.Moves.{kind_or_space, moved_picture}
use Rattle.mls_layout.specs.Uses.{HasCells, cell_layouts, cell_shown, flat_layout, flat_plane, flattened, over, use_layout, uses_layout}
use Rattle.mls_layout.specs.declared.uses.CellUse.{CellUse}
use Rattle.mls_layout.specs.declared.uses.Uses.{Uses}

-- ---- one picture over another
over_kind : (upper lower : ℕ) → lower ≡ 0 → (if upper == 0 then lower else upper) ≡ upper
over_kind upper lower none = grind (arith, nat_tests)

-- over space a picture is as it is
pub over-space : (upper lower : Picture) (x y : ℕ) → lower x y ≡ 0 → over upper lower x y ≡ upper x y
over-space upper lower x y none = over_kind (upper x y) (lower x y) none

-- ---- squares where uses show nothing
pub kind_or_space-space : (picture : Picture) (x y : ℤ) → ((x y : ℕ) → picture x y ≡ 0) → kind_or_space picture x y ≡ 0
kind_or_space-space picture (pos x) (pos y) none = none x y
kind_or_space-space picture (pos x) (negsuc y) none = refl
kind_or_space-space picture (negsuc x) y none = refl

pub moved_picture-space : (picture : Picture) (dx dy : ℤ) (x y : ℕ) → ((x y : ℕ) → picture x y ≡ 0) → moved_picture picture dx dy x y ≡ 0
unfolding moved_picture
moved_picture-space picture dx dy x y none = kind_or_space-space picture (pos x -ℤ dx) (pos y -ℤ dy) none

-- the layout shows nothing on this plane
abbrev pub IsSpaceOn : ℕ → Layout → Type 0
IsSpaceOn plane layout = (x y : ℕ) → layout plane x y ≡ 0

cell_shown-space : (cells : List Layout) (cell plane : ℕ) → All (IsSpaceOn plane) cells → IsSpaceOn plane (cell_shown cells cell)
cell_shown-space [] cell plane none x y = refl
cell_shown-space (first ∷ cells) zero plane none x y = All-head (IsSpaceOn plane) first cells none x y
cell_shown-space (first ∷ cells) (suc cell) plane none x y = cell_shown-space cells cell plane (All-tail (IsSpaceOn plane) first cells none) x y

use_layout-space : (cells : List Layout) (cell_use : CellUse) (plane : ℕ) → All (IsSpaceOn plane) cells → IsSpaceOn plane (use_layout cells cell_use)
use_layout-space cells cell_use plane none x y = elim (cases_Bool (holds world x y)) [
  | inl inside ↦ cond-true (holds world x y) (moved_picture (cell_shown cells cell_use.cell plane) cell_use.dx cell_use.dy x y) 0 inside
      ∙ moved_picture-space (cell_shown cells cell_use.cell plane) cell_use.dx cell_use.dy x y (cell_shown-space cells cell_use.cell plane none)
  | inr outside ↦ cond-false (holds world x y) (moved_picture (cell_shown cells cell_use.cell plane) cell_use.dx cell_use.dy x y) 0 outside
]

-- where no cell shows anything on a plane, no use does
pub uses_layout-space : (cells : List Layout) (uses : List CellUse) (plane : ℕ) → All (IsSpaceOn plane) cells → IsSpaceOn plane (uses_layout cells uses)
uses_layout-space cells [] plane none x y = refl
uses_layout-space cells (first ∷ later) plane none x y =
    over-space (uses_layout cells later plane) (use_layout cells first plane) x y (use_layout-space cells first plane none x y)
    ∙ uses_layout-space cells later plane none x y

-- outside the world no use shows anything
pub uses_layout-outside : (cells : List Layout) (uses : List CellUse) (plane x y : ℕ) → holds world x y ≡ false → uses_layout cells uses plane x y ≡ 0
uses_layout-outside cells [] plane x y outside = refl
uses_layout-outside cells (first ∷ later) plane x y outside =
    over-space (uses_layout cells later plane) (use_layout cells first plane) x y
    (cond-false (holds world x y) (moved_picture (cell_shown cells first.cell plane) first.dx first.dy x y) 0 outside)
    ∙ uses_layout-outside cells later plane x y outside

-- ---- planes that no cell has
-- beyond its owners a layout shows nothing
pub layout_in-beyond : (pool : Pool) (owners : List ℕ) (plane : ℕ) → length owners ≤ plane → IsSpaceOn plane (layout_in pool owners)
layout_in-beyond pool owners plane past x y = ap (λ slot. picture_at pool slot x y) (slice_get_past owners plane past)

cell_layouts-beyond :
    (pool : Pool) (cells : Library) (count plane : ℕ) → All (λ cell. length cell.planes ≤ count) cells → count ≤ plane
    → All (IsSpaceOn plane) (cell_layouts pool cells)
cell_layouts-beyond pool [] count plane few past = All-nil (IsSpaceOn plane)
cell_layouts-beyond pool (cell ∷ cells) count plane few past =
    let first : length cell.planes ≤ count = All-head (λ (cell : NamedCell). length cell.planes ≤ count) cell cells few in
    All-cons (IsSpaceOn plane) (cell_layout pool cell) (cell_layouts pool cells) (layout_in-beyond pool cell.planes plane (omega arith))
    (cell_layouts-beyond pool cells count plane (All-tail (λ (cell : NamedCell). length cell.planes ≤ count) cell cells few) past)

module _ (pool : Pool) (uses : Uses) (planes : List ℕ) where
  -- beyond its planes a layout shows nothing with uses either, where no cell has more planes
  pub flat_layout-beyond : (plane : ℕ) → HasCells pool (length planes) uses.library.now → length planes ≤ plane → IsSpaceOn plane (flat_layout pool uses planes)
  unfolding flattened
  flat_layout-beyond plane cells past x y =
      over-space (layout_in pool planes plane) (uses_layout (cell_layouts pool uses.library.now) uses.list.now plane) x y
      (uses_layout-space (cell_layouts pool uses.library.now) uses.list.now plane (cell_layouts-beyond pool uses.library.now (length planes) plane cells.few past) x y)
      ∙ layout_in-beyond pool planes plane past x y

  -- on a plane that there is, the layout shows what the plane does with uses
  pub flat_layout-plane : (plane owner : ℕ) → slice_get planes plane ≡ Some owner → flat_layout pool uses planes plane ≡ flat_plane pool uses plane owner
  unfolding flattened
  flat_layout-plane plane owner is =
      ap (λ slot. over (picture_at pool slot) (uses_layout (cell_layouts pool uses.library.now) uses.list.now plane)) is

  -- where uses show nothing, the layout shows the own paint
  pub flat_layout-apart :
      (plane x y : ℕ) → uses_layout (cell_layouts pool uses.library.now) uses.list.now plane x y ≡ 0 → flat_layout pool uses planes plane x y ≡ layout_in pool planes plane x y
  unfolding flattened
  flat_layout-apart plane x y none =
      over-space (layout_in pool planes plane) (uses_layout (cell_layouts pool uses.library.now) uses.list.now plane) x y none

  -- outside the world it shows what the planes do
  pub flat_layout-outside : (plane x y : ℕ) → holds world x y ≡ false → flat_layout pool uses planes plane x y ≡ layout_in pool planes plane x y
  flat_layout-outside plane x y outside =
      flat_layout-apart plane x y (uses_layout-outside (cell_layouts pool uses.library.now) uses.list.now plane x y outside)

-- ---- changes of tiles
cell_layouts-kept : (old new : Pool) (cells : Library) → All (λ cell. cell_layout new cell ≡ cell_layout old cell) cells → cell_layouts new cells ≡ cell_layouts old cells
cell_layouts-kept old new [] kept = refl
cell_layouts-kept old new (cell ∷ cells) kept =
    let same : cell_layout new cell ≡ cell_layout old cell = All-head (λ (cell : NamedCell). cell_layout new cell ≡ cell_layout old cell) cell cells kept in
    let rest = cell_layouts-kept old new cells (All-tail (λ (cell : NamedCell). cell_layout new cell ≡ cell_layout old cell) cell cells kept) in
    ap (λ (layout : Layout). layout ∷ cell_layouts new cells) same ∙ ap (λ (layouts : List Layout). cell_layout old cell ∷ layouts) rest

module _ (old new : Pool) (owners : List ℕ) (changed : ChangesAmong old new owners) where
  -- the cells show what they showed, where only tiles of other owners changed
  pub cell_layouts-ChangesAmong : (cells : Library) → All (IsCellApart owners) cells → cell_layouts new cells ≡ cell_layouts old cells
  cell_layouts-ChangesAmong cells apart =
      cell_layouts-kept old new cells (λ k d within. cell_layout-ChangesAmong old new owners changed (get_or cells k d) (apart k d within))

  -- they are where they were
  pub HasCells-ChangesAmong : (count : ℕ) (cells : Library) → All (IsCellApart owners) cells → HasCells old count cells → HasCells new count cells
  HasCells-ChangesAmong count cells apart has = record {
    home = IsHome-ChangesAmong old new owners changed cells apart has.home;
    few = has.few;
  }

  -- and the layout shows what it showed, where the planes do
  pub flat_layout-ChangesAmong :
      (uses : Uses) (planes : List ℕ) → All (IsCellApart owners) uses.library.now → layout_in new planes ≡ layout_in old planes
      → flat_layout new uses planes ≡ flat_layout old uses planes
  flat_layout-ChangesAmong uses planes apart same =
      ap (λ (cells : List Layout). flattened cells uses.list.now (layout_in new planes)) (cell_layouts-ChangesAmong uses.library.now apart)
      ∙ ap (λ (layout : Layout). flattened (cell_layouts old uses.library.now) uses.list.now layout) same
