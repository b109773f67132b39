-- Cells that are placed in a layout show one kind round a rectangle, or bars, and so do layouts with them.
use Rattle.std.proofs.Common.{◌≡◌, ℕ, ℤ, pos, negsuc, ◌-ℤ◌, ◌+ℤ◌, ◌==◌, true, false, inl, inr, if◌then◌else◌, List, [], ◌∷◌, All, Option, Some, None, slice_get, refl, sym, ap, subst, ◌∙◌, arith}
use Rattle.std.proofs.lemmas.Bool.{cases_Bool, cond-false, cond-true}
use Rattle.std.proofs.lemmas.Int.{ints}
use Rattle.std.proofs.lemmas.List.Elements.{All-head, All-tail}
use Rattle.std.proofs.lemmas.Option.{get_or_from_slice_get, slice_get_within}
use Rattle.mls_geom.specs.Layouts.{Layout}
use Rattle.mls_geom.specs.Pictures.{Picture}
use Rattle.mls_geom.specs.Rects.{Rect, IsRectangleIn, common, grown, holds}
use Rattle.mls_geom.specs.World.{world}
use Rattle.mls_tilepool.specs.Pools.{Pool, tiles_of}
use Rattle.mls_stitch.specs.Areas.{MeetArea}
use Rattle.mls_stitch.specs.Tilings.{HasPlane, block_at}
use Rattle.mls_stitch.specs.declared.laid_tile.LaidTile.{LaidTile}
use Rattle.mls_stitch.proofs.ShownTiles.{KeysDiffer-tiles_of, shown-outside}
use Rattle.mls_paint.specs.Planes.{layout_in, picture_at, picture_in}
use Rattle.mls_library.specs.Libraries.{Library, NamedCell}
use Rattle.mls_layout.specs.Inner.{in_world}
use Rattle.mls_layout.specs.Likenesses.{ShowsAlike, Spans, like_column, like_row}
use Rattle.mls_layout.specs.Moves.{IsPartOf, holds_at, is_moved, kind_or_space, moved_picture, moves_into}
use Rattle.mls_layout.specs.Uses.{cell_layouts, flat_layout, flattened, over, use_layout, uses_layout}
use Rattle.mls_layout.specs.declared.likeness.Likeness.{Likeness}
use Rattle.mls_layout.specs.declared.likeness.Likeness.TheVariants.{OneKind, Columns, Rows}
use Rattle.mls_layout.specs.declared.uses.CellUse.{CellUse}
use Rattle.mls_layout.specs.declared.uses.Uses.{Uses}
use Rattle.mls_layout.proofs.AlikePlanes.{alike-extent, in_zone, one_kind-alike, one_kind-found}
use Rattle.mls_layout.proofs.LikeSquares.{alike-same, grown-holds}
use Rattle.mls_layout.proofs.ShownUses.{inside_world}
use Rattle.mls_layout.proofs.UsedCells.{cell_shown-owner, moved_picture-outside, nowhere, use_layout-beyond}

-- ---- squares that are moved
-- a square that a rectangle has, at a column and a row
held_at : (e : Rect) (zx zy : ℤ) → holds_at e zx zy ≡ true → (a : ℕ) × (b : ℕ) × (zx ≡ pos a) × (zy ≡ pos b) × (holds e a b ≡ true)
held_at e (pos a) (pos b) here = (a, b, refl, refl, here)
held_at e (pos a) (negsuc b) here = absurd (cc here)
held_at e (negsuc a) zy here = absurd (cc here)

back : (x a : ℕ) (d : ℤ) → pos x -ℤ d ≡ pos a → pos a +ℤ d ≡ pos x
back x a d at = omega (arith, ints, at)

one_line : (x x' a a' : ℕ) (d : ℤ) → x ≡ x' → pos x -ℤ d ≡ pos a → pos x' -ℤ d ≡ pos a' → a ≡ a'
one_line x x' a a' d same at at' = omega (arith, ints, same, at, at')

-- squares for which a rectangle has the same come from squares for which another one has the same
like_column-moved :
    (likeness : Likeness) (rect part : Rect) (x x' a a' : ℕ) (d : ℤ) → like_column likeness rect x ≡ like_column likeness rect x' → pos x -ℤ d ≡ pos a → pos x' -ℤ d ≡ pos a'
    → like_column likeness part a ≡ like_column likeness part a'
like_column-moved OneKind rect part x x' a a' d same at at' = refl
like_column-moved Columns rect part x x' a a' d same at at' = one_line x x' a a' d same at at'
like_column-moved Rows rect part x x' a a' d same at at' = refl

like_row-moved :
    (likeness : Likeness) (rect part : Rect) (y y' b b' : ℕ) (d : ℤ) → like_row likeness rect y ≡ like_row likeness rect y' → pos y -ℤ d ≡ pos b → pos y' -ℤ d ≡ pos b'
    → like_row likeness part b ≡ like_row likeness part b'
like_row-moved OneKind rect part y y' b b' d same at at' = refl
like_row-moved Columns rect part y y' b b' d same at at' = refl
like_row-moved Rows rect part y y' b b' d same at at' = one_line y y' b b' d same at at'

-- ---- a cell's plane
module _ (pool : Pool) (owner : ℕ) (plane : HasPlane pool owner) (dx dy : ℤ) where
  -- what it shows where it is placed
  abbrev placed : Picture
  placed = in_world (moved_picture (picture_in pool owner) dx dy)

  -- it shows nothing where nothing of the world comes to lie
  placed-beyond : (x y : ℕ) → is_moved world dx dy x y ≡ false → placed x y ≡ 0
  placed-beyond x y out =
      nowhere (holds world x y) (moved_picture (picture_in pool owner) dx dy x y)
      (moved_picture-outside (Some world) (picture_in pool owner) dx dy x y (λ a b outside. shown-outside (tiles_of pool owner) a b plane.plane (KeysDiffer-tiles_of pool owner) outside) out)

  module _ (h : ℕ) (rect zone part : Rect) (is : zone ≡ common (grown h rect) world) (into : IsPartOf world (moves_into zone dx dy) (Some part)) where
    -- elsewhere it shows what the plane does in the part that comes to lie in the zone
    placed-part :
        (x y : ℕ) → holds (grown h rect) x y ≡ true → holds world x y ≡ true → is_moved world dx dy x y ≡ true
        → (a : ℕ) × (b : ℕ) × (pos x -ℤ dx ≡ pos a) × (pos y -ℤ dy ≡ pos b) × (holds part a b ≡ true) × (placed x y ≡ picture_in pool owner a b)
    unfolding moved_picture
    placed-part x y here inside from =
        let (a, b, column, row, there) = held_at world (pos x -ℤ dx) (pos y -ℤ dy) from in
        let lands : moves_into zone dx dy a b ≡ true =
        ap (λ (z : ℤ). holds_at zone z (pos b +ℤ dy)) (back x a dx column) ∙ ap (holds_at zone (pos x)) (back y b dy row) ∙ in_zone h rect zone x y is here inside in (
          a,
          b,
          column,
          row,
          into.1 a b there ∙ lands,
          cond-true (holds world x y) (moved_picture (picture_in pool owner) dx dy x y) 0 inside
              ∙ ap (λ (z : ℤ). kind_or_space (picture_in pool owner) z (pos y -ℤ dy)) column ∙ ap (kind_or_space (picture_in pool owner) (pos a)) row,
        )

    -- where the part is space, it shows nothing round the rectangle
    placed-space : ((a b : ℕ) → holds part a b ≡ true → picture_in pool owner a b ≡ 0) → (x y : ℕ) → holds (grown h rect) x y ≡ true → placed x y ≡ 0
    placed-space space x y here = elim (cases_Bool (holds world x y)) [
      | inr outside ↦ cond-false (holds world x y) (moved_picture (picture_in pool owner) dx dy x y) 0 outside
      | inl inside ↦ elim (cases_Bool (is_moved world dx dy x y)) [
        | inr beyond ↦ placed-beyond x y beyond
        | inl from ↦ (
            let (a, b, column, row, there, shown) = placed-part x y here inside from in
            shown ∙ space a b there)
      ]
    ]

    -- it has the part's likeness round the rectangle, where the squares of the world that also lie in the moved world span that
    pub placed-alike :
        (likeness : Likeness) (both : Rect) → IsRectangleIn world rect → IsPartOf world (is_moved world dx dy) (Some both) → Spans likeness both (grown h rect)
        → ShowsAlike likeness 0 part (picture_in pool owner) → ShowsAlike likeness h rect placed
    placed-alike likeness both legal are spans alike =
        alike-extent likeness h rect both placed legal spans
        (λ x y outside. elim (cases_Bool (holds world x y)) [
          | inl inside ↦ placed-beyond x y (sym (are.1 x y inside) ∙ outside)
          | inr beyond ↦ cond-false (holds world x y) (moved_picture (picture_in pool owner) dx dy x y) 0 beyond
        ])
        (λ x y x' y' columns rows here here' within within'.
        let inside = inside_world both x y are.0 within in
        let inside' = inside_world both x' y' are.0 within' in
        let (a, b, column, row, there, shown) = placed-part x y here inside (sym (are.1 x y inside) ∙ within) in
        let (a', b', column', row', there', shown') = placed-part x' y' here' inside' (sym (are.1 x' y' inside') ∙ within') in
        shown
        ∙ alike-same likeness 0 part (picture_in pool owner) a b a' b' alike (like_column-moved likeness rect part x x' a a' dx columns column column')
        (like_row-moved likeness rect part y y' b b' dy rows row row') (grown-holds 0 part a b there) (grown-holds 0 part a' b' there')
        ∙ sym shown')

    -- so it is where all tiles of the part are space
    pub placed-space-found :
        (likeness : Likeness) (found : List LaidTile) → IsRectangleIn world rect → MeetArea (block_at (tiles_of pool owner)) part found
        → All (λ tile. tile.piece.kind ≡ 0) found → ShowsAlike likeness h rect placed
    placed-space-found likeness found legal are none =
        one_kind-alike likeness h 0 rect placed legal (placed-space (one_kind-found pool owner part found 0 plane are none))

pub in_world-space : (picture : Picture) (x y : ℕ) → picture x y ≡ 0 → in_world picture x y ≡ 0
in_world-space picture x y none = nowhere (holds world x y) (picture x y) none

pub in_world-outside : (picture : Picture) (x y : ℕ) → holds world x y ≡ false → in_world picture x y ≡ 0
in_world-outside picture x y outside = cond-false (holds world x y) (picture x y) 0 outside

-- ---- pictures over each other
-- both have the likeness, and so has one over the other
pub ShowsAlike-over :
    (likeness : Likeness) (h : ℕ) (rect : Rect) (upper lower : Picture) → ShowsAlike likeness h rect upper → ShowsAlike likeness h rect lower
    → ShowsAlike likeness h rect (over upper lower)
ShowsAlike-over likeness h rect upper lower above below = λ x y here.
    ap (λ (kind : ℕ). if kind == 0 then lower x y else kind) (above x y here)
    ∙ ap (λ (kind : ℕ). if upper (like_column likeness rect x) (like_row likeness rect y) == 0 then kind else upper (like_column likeness rect x) (like_row likeness rect y)) (below x y here)

module _ (likeness : Likeness) (h : ℕ) (rect : Rect) where
  -- the planes of a cell have it, and so have those of a use of it
  pub ShowsAlike-use :
      (pool : Pool) (cells : Library) (cell_use : CellUse) (cell : NamedCell) → IsRectangleIn world rect → slice_get cells cell_use.cell ≡ Some cell
      → All (λ owner. ShowsAlike likeness h rect (in_world (moved_picture (picture_in pool owner) cell_use.dx cell_use.dy))) cell.planes
      → (plane : ℕ) → ShowsAlike likeness h rect (use_layout (cell_layouts pool cells) cell_use plane)
  ShowsAlike-use pool cells cell_use cell legal is each plane = by (slice_get cell.planes plane) refl
    where
      by : (at : Option ℕ) → slice_get cell.planes plane ≡ at → ShowsAlike likeness h rect (use_layout (cell_layouts pool cells) cell_use plane)
      by None at = one_kind-alike likeness h 0 rect (use_layout (cell_layouts pool cells) cell_use plane) legal (λ x y here. use_layout-beyond pool cells cell_use cell is plane x y at)
      by (Some owner) at =
          let alike = subst (λ (o : ℕ). ShowsAlike likeness h rect (in_world (moved_picture (picture_in pool o) cell_use.dx cell_use.dy))) (get_or_from_slice_get cell.planes plane owner owner at)
          (each plane owner (slice_get_within cell.planes plane owner at)) in
          subst (λ (picture : Picture). ShowsAlike likeness h rect (in_world (moved_picture picture cell_use.dx cell_use.dy))) (sym (cell_shown-owner pool cells cell_use cell is plane owner at)) alike

  -- each use has it, and so have all together
  pub ShowsAlike-uses :
      (cells : List Layout) (uses : List CellUse) → All (λ cell_use. (plane : ℕ) → ShowsAlike likeness h rect (use_layout cells cell_use plane)) uses
      → (plane : ℕ) → ShowsAlike likeness h rect (uses_layout cells uses plane)
  ShowsAlike-uses cells [] each plane = λ x y here. refl
  ShowsAlike-uses cells (first ∷ later) each plane =
      let P : CellUse → Type 0 = λ cell_use. (plane : ℕ) → ShowsAlike likeness h rect (use_layout cells cell_use plane) in
      ShowsAlike-over likeness h rect (uses_layout cells later plane) (use_layout cells first plane) (ShowsAlike-uses cells later (All-tail P first later each) plane) (All-head P first later each plane)

  own-ShowsAlike :
      (pool : Pool) (owners : List ℕ) (plane : ℕ) (at : Option ℕ) → slice_get owners plane ≡ at → All (λ owner. ShowsAlike likeness h rect (picture_in pool owner)) owners
      → ShowsAlike likeness h rect (picture_at pool at)
  own-ShowsAlike pool owners plane None is each = λ x y here. refl
  own-ShowsAlike pool owners plane (Some owner) is each =
      subst (λ o. ShowsAlike likeness h rect (picture_in pool o)) (get_or_from_slice_get owners plane owner owner is) (each plane owner (slice_get_within owners plane owner is))

  -- the own planes have it, and so has the layout
  pub ShowsAlike-layout :
      (pool : Pool) (uses : Uses) (owners : List ℕ) → All (λ owner. ShowsAlike likeness h rect (picture_in pool owner)) owners
      → ((plane : ℕ) → ShowsAlike likeness h rect (uses_layout (cell_layouts pool uses.library.now) uses.list.now plane))
      → (plane : ℕ) → ShowsAlike likeness h rect (flat_layout pool uses owners plane)
  unfolding flattened
  ShowsAlike-layout pool uses owners own below plane =
      ShowsAlike-over likeness h rect (layout_in pool owners plane) (uses_layout (cell_layouts pool uses.library.now) uses.list.now plane)
      (own-ShowsAlike pool owners plane (slice_get owners plane) refl own) (below plane)
