-- A cell's bounds leave the world as they are moved just where a square of it does.
use Rattle.std.proofs.Common.{◌≡◌, Bool, true, false, ℕ, ℤ, to_z, of_z, pos, ◌-◌, ◌+ℤ◌, ◌==◌, not, if◌then◌else◌, Option, Some, None, Result, Ok, Err, Contains, inl, inr, refl, sym, ap, subst, ◌∙◌, arith, option_and_then, FitsSigned}
use Rattle.std.specs.Int.{w32}
use Rattle.std.specs.List.{range_with_len}
use Rattle.std.proofs.lemmas.Bool.{and_parts, cases_Bool, false_from_ne_true}
use Rattle.std.proofs.lemmas.Int.{to_z-of_z}
use Rattle.std.proofs.lemmas.List.Folds.{Any-from_list_any}
use Rattle.mls_session.proofs.Common.{CellOutside, Layout, Rect, Refusal, bounds_placed, dumped_rect, has_paint, holds, layout_leaves_world, leaves_world, moved_rect, painted_bounds, placed_bounds, world, world_has}
use Rattle.mls_geom.proofs.Squares.{range_with_len-Contains}
use Rattle.mls_library.proofs.FirstPlanes.{any_at}
use Rattle.mls_library.proofs.SmallestRects.{IsBounds, IsBounds-bounds_of}
use Rattle.mls_session.proofs.EditedSquares.{bounds_there, moved_rect-smallest, sized}
use Rattle.mls_session.proofs.MovedRects.{IsMoved-moved_rect, world_has-IsMoved}
use Rattle.mls_session.proofs.MovedTiles.{at-leaves_world}

module _ (planes : ℕ) (cell : Layout) (dx dy : ℤ) where
  -- a square that leaves
  leaving :
      layout_leaves_world planes cell dx dy ≡ true
      → (x : ℕ) × (y : ℕ) × (holds world x y ≡ true) × (has_paint planes cell x y ≡ true) × (not (world_has (pos x +ℤ dx) (pos y +ℤ dy)) ≡ true)
  leaving leaves =
      let (i, plane, within, is, here) = Any-from_list_any (λ plane. leaves_world (cell plane) dx dy) (range_with_len 0 planes) leaves in
      let count : planes ≡ planes - 0 = omega arith in
      let lines = range_with_len-Contains 0 planes plane (subst (λ n. Contains (range_with_len 0 n) plane) count (i, within, is)) in
      let (x, y, inside, out) = at-leaves_world (cell plane) dx dy here in
      let tests = and_parts (not (cell plane x y == 0)) (not (world_has (pos x +ℤ dx) (pos y +ℤ dy))) out in
      (x, y, inside, any_at (λ plane. not (cell plane x y == 0)) planes plane lines.1 tests.0, tests.1)

  -- none does where there are no bounds
  stays-None : painted_bounds planes cell ≡ None → layout_leaves_world planes cell dx dy ≡ false
  stays-None empty = false_from_ne_true (layout_leaves_world planes cell dx dy) (λ leaves.
      let (x, y, inside, some, out) = leaving leaves in
      subst (IsBounds (has_paint planes cell)) empty (IsBounds-bounds_of (has_paint planes cell)) x y (inside, some))

  module _ (e : Rect) (found : painted_bounds planes cell ≡ Some e) where
    -- nor where the bounds stay
    stays-Some : (r : Rect) → moved_rect e dx dy ≡ Some r → layout_leaves_world planes cell dx dy ≡ false
    stays-Some r kept = false_from_ne_true (layout_leaves_world planes cell dx dy) (λ leaves.
        let (x, y, inside, some, out) = leaving leaves in
        let smallest = bounds_there (has_paint planes cell) (painted_bounds planes cell) e (IsBounds-bounds_of (has_paint planes cell)) found in
        let size = sized (has_paint planes cell) e smallest in
        let there = world_has-IsMoved e r dx dy x y (IsMoved-moved_rect e r dx dy size.0 size.1 kept) (smallest.each x y (inside, some)) in
        absurd (cc (sym out ∙ ap not there)))

    -- and one does where they leave
    leaves-None : moved_rect e dx dy ≡ None → layout_leaves_world planes cell dx dy ≡ true
    leaves-None lost = elim (cases_Bool (layout_leaves_world planes cell dx dy)) [
      | inl leaves ↦ leaves
      | inr stays ↦
          let smallest = bounds_there (has_paint planes cell) (painted_bounds planes cell) e (IsBounds-bounds_of (has_paint planes cell)) found in
          absurd (cc (sym lost ∙ moved_rect-smallest planes cell dx dy stays e smallest))
    ]

  abbrev placed : Bool → Result (Option Rect) Refusal
  placed leaves = if leaves then Err CellOutside else Ok (dumped_rect planes cell dx dy)

  placed_at-is : (e : Rect) (moved : Option Rect) → painted_bounds planes cell ≡ Some e → moved_rect e dx dy ≡ moved → bounds_placed moved ≡ placed (layout_leaves_world planes cell dx dy)
  placed_at-is e None found lost = sym (ap placed (leaves-None e found lost))
  placed_at-is e (Some r) found kept =
      let rect : dumped_rect planes cell dx dy ≡ Some r = ap (option_and_then (λ bounds. moved_rect bounds dx dy)) found ∙ kept in
      sym (ap placed (stays-Some e found r kept) ∙ ap Ok rect)

  placed_bounds-is : (bounds : Option Rect) → painted_bounds planes cell ≡ bounds → placed_bounds bounds dx dy ≡ placed (layout_leaves_world planes cell dx dy)
  placed_bounds-is None empty = sym (ap placed (stays-None empty) ∙ ap (λ bounds. Ok (option_and_then (λ bounds. moved_rect bounds dx dy) bounds)) empty)
  placed_bounds-is (Some e) found = placed_at-is e (moved_rect e dx dy) found refl

  refused : (leaves : Bool) (refusal : Refusal) → Err refusal ≡ placed leaves → (refusal ≡ CellOutside) × (leaves ≡ true)
  refused true refusal h = (cc h, refl)
  refused false refusal h = absurd (cc h)

  accepted : (leaves : Bool) (rect : Option Rect) → Ok rect ≡ placed leaves → (leaves ≡ false) × (rect ≡ dumped_rect planes cell dx dy)
  accepted true rect h = absurd (cc h)
  accepted false rect h = (refl, cc h)

  -- ---- what is returned of a cell's bounds
  pub placed-Err :
      (bounds : Option Rect) (refusal : Refusal) → bounds ≡ painted_bounds planes cell → Err refusal ≡ placed_bounds bounds dx dy
      → (refusal ≡ CellOutside) × (layout_leaves_world planes cell dx dy ≡ true)
  placed-Err bounds refusal is h = refused (layout_leaves_world planes cell dx dy) refusal (h ∙ placed_bounds-is bounds (sym is))

  pub placed-Ok :
      (bounds rect : Option Rect) → bounds ≡ painted_bounds planes cell → Ok rect ≡ placed_bounds bounds dx dy
      → (layout_leaves_world planes cell dx dy ≡ false) × (rect ≡ dumped_rect planes cell dx dy)
  placed-Ok bounds rect is h = accepted (layout_leaves_world planes cell dx dy) rect (h ∙ placed_bounds-is bounds (sym is))

-- moves that fit their type are those that are passed
pub placed_bounds-fits :
    (bounds : Option Rect) (dx dy : ℤ) → FitsSigned w32 dx → FitsSigned w32 dy
    → placed_bounds bounds (to_z w32 (of_z w32 dx)) (to_z w32 (of_z w32 dy)) ≡ placed_bounds bounds dx dy
placed_bounds-fits bounds dx dy along up = rw (to_z-of_z w32 dx along, to_z-of_z w32 dy up) refl
