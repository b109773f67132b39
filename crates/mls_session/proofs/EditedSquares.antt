-- An edit leaves a layout as it was outside the edit's rectangle, and a cell shows nothing outside the rectangle to which it is moved.
use Rattle.std.proofs.Common.{◌≡◌, Bool, true, false, ℕ, ℤ, pos, negsuc, ◌-◌, ◌<◌, ◌≤◌, ◌+ℤ◌, ◌-ℤ◌, ◌==◌, ◌&&◌, not, if◌then◌else◌, Option, Some, None, Contains, inl, inr, refl, sym, ap, subst, ◌∙◌, eqb-true, arith, option_and_then}
use Rattle.std.specs.List.{range_with_len}
use Rattle.std.proofs.Math.Path.{fun_ext}
use Rattle.std.proofs.lemmas.Bool.{and_from, cases_Bool, cases_lt}
use Rattle.std.proofs.lemmas.Int.{ints}
use Rattle.std.proofs.lemmas.List.Folds.{Any-from_list_any}
use Rattle.mls_session.proofs.Common.{AgreeOutside, Layout, Picture, Rect, dumped_layout, dumped_rect, empty_picture, erased_layout, has_paint, holds, kind_or_space, layout_leaves_world, leaves_world, moved_picture, moved_rect, painted, painted_bounds, with_plane, world, world_has}
use Rattle.mls_geom.proofs.Holds.{holds_between}
use Rattle.mls_geom.proofs.Squares.{range_with_len-Contains}
use Rattle.mls_kinds.specs.KindSets.{has_bit as has_type}
use Rattle.mls_library.proofs.FirstPlanes.{any_at}
use Rattle.mls_session.proofs.MovedRects.{IsMoved, IsMoved-moved_rect, world_has-to, holds-IsMoved, holds_at, lines_moved, moved_rect-is, none_of, not_beyond}
use Rattle.mls_session.proofs.MovedTiles.{leaves_world-at}
use Rattle.mls_library.proofs.SmallestRects.{IsBounds, IsBounds-bounds_of, IsSmallest, Passes}

-- ---- paint and erase
pub AgreeOutside-painted :
    (layout : Layout) (plane : ℕ) (e : Rect) (kind : ℕ) → AgreeOutside e layout (with_plane layout plane (painted (layout plane) (record { rect = e; kind = kind })))
AgreeOutside-painted layout plane e kind p x y outside = by (p == plane) refl
  where
    picture : Picture
    picture = painted (layout plane) (record { rect = e; kind = kind })

    by : (same : Bool) → (p == plane) ≡ same → layout p x y ≡ (if same then picture else layout p) x y
    by true same = ap (λ q. layout q x y) (eqb-true p plane same) ∙ ap (λ inside. if inside then kind else layout plane x y) (sym outside)
    by false same = refl

pub AgreeOutside-erased : (layout : Layout) (e : Rect) (kinds : ℕ) → AgreeOutside e layout (erased_layout layout e kinds)
AgreeOutside-erased layout e kinds plane x y outside = ap (λ inside. if inside && has_type kinds (layout plane x y) then 0 else layout plane x y) (sym outside)

-- ---- dump
-- a smallest rectangle has a square
pub sized : (test : ℕ → ℕ → Bool) (e : Rect) → IsSmallest test e → (e.left < e.right) × (e.bottom < e.top)
sized test e smallest =
    let (y, left) = smallest.on_left in
    let (x, bottom) = smallest.on_bottom in
    let column = holds_between e e.left y (smallest.each e.left y left) in
    let row = holds_between e x e.bottom (smallest.each x e.bottom bottom) in
    (column.1, row.3)

pub bounds_there : (test : ℕ → ℕ → Bool) (found : Option Rect) (e : Rect) → IsBounds test found → found ≡ Some e → IsSmallest test e
bounds_there test found e is same = subst (IsBounds test) same is

module _ (planes : ℕ) (cell : Layout) (dx dy : ℤ) where
  plane_there : (x y : ℕ) → has_paint planes cell x y ≡ true → (plane : ℕ) × (plane < planes) × (not (cell plane x y == 0) ≡ true)
  plane_there x y some =
      let (i, plane, within, is, here) = Any-from_list_any (λ plane. not (cell plane x y == 0)) (range_with_len 0 planes) some in
      let count : planes ≡ planes - 0 = omega arith in
      let lines = range_with_len-Contains 0 planes plane (subst (λ n. Contains (range_with_len 0 n) plane) count (i, within, is)) in
      (plane, lines.1, here)

  -- ---- where no square leaves the world, the rectangle doesn't
  module _ (stays : layout_leaves_world planes cell dx dy ≡ false) where
    lands : (x y : ℕ) → Passes (has_paint planes cell) x y → world_has (pos x +ℤ dx) (pos y +ℤ dy) ≡ true
    lands x y passes =
        let (plane, within, some) = plane_there x y passes.1 in
        elim (cases_Bool (world_has (pos x +ℤ dx) (pos y +ℤ dy))) [
          | inl there ↦ there
          | inr lost ↦
              let leaves = leaves_world-at (cell plane) dx dy x y passes.0 (and_from _ _ some (ap not lost)) in
              absurd (cc (sym stays ∙ any_at (λ plane. leaves_world (cell plane) dx dy) planes plane within leaves))
        ]

    pub moved_rect-smallest : (e : Rect) → IsSmallest (has_paint planes cell) e → moved_rect e dx dy ≡ Some (lines_moved e dx dy)
    moved_rect-smallest e smallest =
        let size = sized (has_paint planes cell) e smallest in
        let (ly, on_left) = smallest.on_left in
        let (bx, on_bottom) = smallest.on_bottom in
        let (rx, ry, right, on_right) = smallest.on_right in
        let (tx, ty, top, on_top) = smallest.on_top in
        let left_square = world_has-to (pos e.left +ℤ dx) (pos ly +ℤ dy) (lands e.left ly on_left) in
        let bottom_square = world_has-to (pos bx +ℤ dx) (pos e.bottom +ℤ dy) (lands bx e.bottom on_bottom) in
        let right_square = world_has-to (pos rx +ℤ dx) (pos ry +ℤ dy) (lands rx ry on_right) in
        let top_square = world_has-to (pos tx +ℤ dx) (pos ty +ℤ dy) (lands tx ty on_top) in
        let inside =
        none_of _ _ _ _
        (not_beyond (pos e.left +ℤ dx) left_square.0 (omega (arith, ints, left_square.1)))
        (not_beyond (pos e.bottom +ℤ dy) bottom_square.2 (omega (arith, ints, bottom_square.3)))
        (not_beyond (pos e.right +ℤ dx) (omega (arith, ints, right, right_square.0)) (omega (arith, ints, right, right_square.1)))
        (not_beyond (pos e.top +ℤ dy) (omega (arith, ints, top, top_square.2)) (omega (arith, ints, top, top_square.3))) in
        moved_rect-is e dx dy size.0 size.1 ∙ ap (λ beyond. if beyond then None else Some (lines_moved e dx dy)) inside

  -- ---- what it shows
  module _ (beyond : (plane : ℕ) → planes ≤ plane → cell plane ≡ empty_picture) (outside : (plane x y : ℕ) → holds world x y ≡ false → cell plane x y ≡ 0) where
    space_at : (plane x y : ℕ) → ¬ (Passes (has_paint planes cell) x y) → cell plane x y ≡ 0
    space_at plane x y none = elim (cases_lt plane planes) [
      | inr over ↦ ap (λ (picture : Picture). picture x y) (beyond plane over)
      | inl within ↦ elim (cases_Bool (holds world x y)) [
        | inr out ↦ outside plane x y out
        | inl inside ↦ elim (cases_Bool (cell plane x y == 0)) [
          | inl space ↦ eqb-true (cell plane x y) 0 space
          | inr some ↦ absurd (none (inside, any_at (λ plane. not (cell plane x y == 0)) planes plane within (ap not some)))
        ]
      ]
    ]

    -- a cell without a square other than space shows nothing
    none_at : ((a b : ℕ) → ¬ (Passes (has_paint planes cell) a b)) → (plane : ℕ) (zx zy : ℤ) → kind_or_space (cell plane) zx zy ≡ 0
    none_at none plane (pos a) (pos b) = space_at plane a b (none a b)
    none_at none plane (pos a) (negsuc b) = refl
    none_at none plane (negsuc a) zy = refl

    moved-nothing : painted_bounds planes cell ≡ None → (plane x y : ℕ) → moved_picture (cell plane) dx dy x y ≡ 0
    unfolding moved_picture
    moved-nothing empty plane x y =
        none_at (subst (IsBounds (has_paint planes cell)) empty (IsBounds-bounds_of (has_paint planes cell))) plane (pos x -ℤ dx) (pos y -ℤ dy)

    -- and another one shows nothing outside its moved rectangle
    none_outside : (e : Rect) → IsSmallest (has_paint planes cell) e → (plane : ℕ) (zx zy : ℤ) → holds_at e zx zy ≡ false → kind_or_space (cell plane) zx zy ≡ 0
    none_outside e smallest plane (pos a) (pos b) h = space_at plane a b (λ passes. absurd (cc (sym h ∙ smallest.each a b passes)))
    none_outside e smallest plane (pos a) (negsuc b) h = refl
    none_outside e smallest plane (negsuc a) zy h = refl

    outside_moved :
        (e rect : Rect) → IsSmallest (has_paint planes cell) e → IsMoved e rect dx dy → (plane x y : ℕ) → holds rect x y ≡ false
        → moved_picture (cell plane) dx dy x y ≡ 0
    unfolding moved_picture
    outside_moved e rect smallest is plane x y out =
        none_outside e smallest plane (pos x -ℤ dx) (pos y -ℤ dy) (sym (holds-IsMoved e rect dx dy x y is) ∙ out)

    -- so it does outside the rectangle that is asked for
    pub moved_picture-outside : (rect : Rect) → dumped_rect planes cell dx dy ≡ Some rect → (plane x y : ℕ) → holds rect x y ≡ false → moved_picture (cell plane) dx dy x y ≡ 0
    moved_picture-outside rect asked = by (painted_bounds planes cell) (IsBounds-bounds_of (has_paint planes cell)) asked
      where
        by :
            (found : Option Rect) → IsBounds (has_paint planes cell) found → option_and_then (λ bounds. moved_rect bounds dx dy) found ≡ Some rect
            → (plane x y : ℕ) → holds rect x y ≡ false → moved_picture (cell plane) dx dy x y ≡ 0
        by None none h = absurd (cc h)
        by (Some bounds) smallest h =
            let size = sized (has_paint planes cell) bounds smallest in
            outside_moved bounds rect smallest (IsMoved-moved_rect bounds rect dx dy size.0 size.1 h)

    -- and where there is none, it shows nothing
    pub moved-None : layout_leaves_world planes cell dx dy ≡ false → dumped_rect planes cell dx dy ≡ None → (plane x y : ℕ) → moved_picture (cell plane) dx dy x y ≡ 0
    moved-None stays asked = by (painted_bounds planes cell) refl asked
      where
        by :
            (found : Option Rect) → painted_bounds planes cell ≡ found → option_and_then (λ bounds. moved_rect bounds dx dy) found ≡ None
            → (plane x y : ℕ) → moved_picture (cell plane) dx dy x y ≡ 0
        by None empty h = moved-nothing empty
        by (Some bounds) found h =
            let smallest = bounds_there (has_paint planes cell) (painted_bounds planes cell) bounds (IsBounds-bounds_of (has_paint planes cell)) found in
            absurd (cc (sym h ∙ moved_rect-smallest stays bounds smallest))

    -- ---- what a dump of it changes
    kept_square : (layout : Layout) (plane x y : ℕ) → moved_picture (cell plane) dx dy x y ≡ 0 → layout plane x y ≡ dumped_layout layout cell dx dy plane x y
    kept_square layout plane x y space = ap (λ kind. if kind == 0 then layout plane x y else kind) (sym space)

    -- squares of the rectangle that is asked for
    pub AgreeOutside-dumped : (layout : Layout) (rect : Rect) → dumped_rect planes cell dx dy ≡ Some rect → AgreeOutside rect layout (dumped_layout layout cell dx dy)
    AgreeOutside-dumped layout rect asked plane x y out = kept_square layout plane x y (moved_picture-outside rect asked plane x y out)

    -- and nothing, where there is none
    pub dumped-None : (layout : Layout) → layout_leaves_world planes cell dx dy ≡ false → dumped_rect planes cell dx dy ≡ None → dumped_layout layout cell dx dy ≡ layout
    dumped-None layout stays asked = sym (fun_ext (λ plane. fun_ext (λ x. fun_ext (λ y. kept_square layout plane x y (moved-None stays asked plane x y)))))
