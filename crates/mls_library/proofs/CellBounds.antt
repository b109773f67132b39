-- The bounds of a cell are the smallest rectangle round all that its planes show.
use Rattle.std.proofs.Common.{◌≡◌, ℕ, zero, suc, ◌+◌, ◌-◌, ◌<◌, ◌==◌, ◌||◌, true, not, Option, Some, None, List, [], ◌∷◌, ◌++◌, length, map, take, get_or, All, Contains, inl, inr, refl, sym, ap, subst, ◌∙◌, arith}
use Rattle.std.specs.List.{range_with_len}
use Rattle.std.proofs.Math.Bool.{or-false}
use Rattle.std.proofs.lemmas.Bool.{cases_Bool, eqb-true}
use Rattle.std.proofs.lemmas.Bool.Decides.{same_from_decides}
use Rattle.std.proofs.lemmas.List.{get_or-map, get_or_default, length-map, take_more}
use Rattle.std.proofs.lemmas.List.Folds.{Any-from_list_any, list_any-append, list_any-from_Any}
use Rattle.mls_geom.specs.Locality.{AreUnorderedStrips}
use Rattle.mls_geom.specs.Pictures.{Picture, picture_of}
use Rattle.mls_geom.specs.Rects.{Rect, holds}
use Rattle.mls_geom.specs.World.{world}
use Rattle.mls_geom.specs.declared.piece.Piece.{Piece}
use Rattle.mls_geom.proofs.Squares.{range_with_len-Contains}
use Rattle.mls_geom.proofs.StripPictures.{picture_of_strips_outside}
use Rattle.mls_tilepool.specs.Pools.{Pool}
use Rattle.mls_paint.specs.Planes.{layout_in, picture_in}
use Rattle.mls_paint.proofs.OwnerFrames.{layout_in-at}
use Rattle.mls_library.specs.Bounds.{any_painted, are_painted, bounds_of, has_paint, painted_bounds, round_both}
use Rattle.mls_library.specs.Inner.{AreBuilt}
use Rattle.mls_library.specs.Libraries.{ShowsWithin, holds_some}
use Rattle.mls_library.proofs.BoundedStrips.{are_painted-strips}
use Rattle.mls_library.proofs.FirstPlanes.{any_at}
use Rattle.mls_library.proofs.SmallestRects.{IsBounds, IsBounds-bounds_of, Passes, bounds_of-either, bounds_of-none, either, same_squares}

-- ---- round the lists before the next one
pub bounds_of-no_lists : bounds_of (any_painted []) ≡ None
bounds_of-no_lists = bounds_of-none (any_painted []) (λ x y. refl)

bounds_of-next_list :
    (lists : List (List Piece)) (i : ℕ) (list : List Piece) → i < length lists → list ≡ get_or lists i list
    → bounds_of (any_painted (take (i + 1) lists)) ≡ round_both (bounds_of (any_painted (take i lists))) (bounds_of (are_painted list))
bounds_of-next_list lists i list within is =
    same_squares (any_painted (take (i + 1) lists)) (either (any_painted (take i lists)) (are_painted list)) (λ x y inside.
    ap (λ all. any_painted all x y) (take_more lists i list within ∙ ap (λ one. take i lists ++ one ∷ []) (sym is))
    ∙ list_any-append (λ one. are_painted one x y) (take i lists) (list ∷ [])
    ∙ ap (λ last. any_painted (take i lists) x y || last) (or-false (are_painted list x y)))
    ∙ bounds_of-either (any_painted (take i lists)) (are_painted list)

-- the list of one thing more
pub bounds_of-next : {X : Type 0} (pieces : X → List Piece) (things : List X) (i : ℕ) (thing : X) → i < length things → thing ≡ get_or things i thing
    → bounds_of (any_painted (take (i + 1) (map pieces things))) ≡ round_both (bounds_of (any_painted (take i (map pieces things)))) (bounds_of (are_painted (pieces thing)))
bounds_of-next pieces things i thing within is =
    bounds_of-next_list (map pieces things) i (pieces thing) (omega (arith, length-map things pieces, within))
    (ap pieces is ∙ sym (get_or-map pieces things i thing (pieces thing) within))

-- ---- where each list has the strips of what it shows
module _ (lists : List (List Piece)) (strips : All (λ list. AreUnorderedStrips world (picture_of list) list) lists) where
  -- nothing is shown outside the rectangle
  held : (found : Option Rect) → IsBounds (any_painted lists) found → (x y : ℕ) → Passes (any_painted lists) x y → holds_some found x y ≡ true
  held None none x y passes = absurd (none x y passes)
  held (Some e) smallest x y passes = smallest.each x y passes

  pub ShowsWithin-lists : All (λ list. ShowsWithin (bounds_of (any_painted lists)) (picture_of list)) lists
  ShowsWithin-lists k d within x y out =
      let list = get_or lists k d in
      let picture = picture_of list in
      elim (cases_Bool (holds world x y)) [
        | inr outside ↦ picture_of_strips_outside world picture list x y (strips k d within) outside
        | inl inside ↦ elim (cases_Bool (picture x y == 0)) [
          | inl space ↦ eqb-true (picture x y) 0 space
          | inr some ↦
              let here = are_painted-strips picture list (strips k d within) x y inside ∙ ap not some in
              let passes = list_any-from_Any (λ one. are_painted one x y) lists (k, list, within, get_or_default lists k list d within, here) in
              absurd (cc (sym out ∙ held (bounds_of (any_painted lists)) (IsBounds-bounds_of (any_painted lists)) x y (inside, passes)))
        ]
      ]

  -- and it is the one round the planes that are built of them
  module _ (old new : Pool) (owners : List ℕ) (built : AreBuilt old new owners lists) where
    shown_at : (k : ℕ) → k < length lists → (x y : ℕ) → layout_in new owners k x y ≡ picture_of (get_or lists k []) x y
    shown_at k within x y =
        ap (λ (picture : Picture). picture x y)
        (layout_in-at new owners k (get_or owners k 0) (omega (arith, within, built.count)) (get_or_default owners k 0 (get_or owners k 0) (omega (arith, within, built.count))) ∙ built.shows k 0 [] within)

    module _ (x y : ℕ) (inside : holds world x y ≡ true) where
      to_layout : any_painted lists x y ≡ true → has_paint (length owners) (layout_in new owners) x y ≡ true
      to_layout painted =
          let (k, list, within, is, here) = Any-from_list_any (λ one. are_painted one x y) lists painted in
          let same : list ≡ get_or lists k [] = sym is ∙ get_or_default lists k list [] within in
          let some = sym (are_painted-strips (picture_of (get_or lists k [])) (get_or lists k []) (strips k [] within) x y inside) ∙ ap (λ one. are_painted one x y) (sym same) ∙ here in
          any_at (λ plane. not (layout_in new owners plane x y == 0)) (length owners) k (omega (arith, within, built.count)) (ap (λ kind. not (kind == 0)) (shown_at k within x y) ∙ some)

      from_layout : has_paint (length owners) (layout_in new owners) x y ≡ true → any_painted lists x y ≡ true
      from_layout some =
          let (i, plane, at, is, here) = Any-from_list_any (λ plane. not (layout_in new owners plane x y == 0)) (range_with_len 0 (length owners)) some in
          let count : length owners ≡ length owners - 0 = omega arith in
          let lines = range_with_len-Contains 0 (length owners) plane (subst (λ n. Contains (range_with_len 0 n) plane) count (i, at, is)) in
          let within : plane < length lists = omega (arith, lines.1, built.count) in
          let list = get_or lists plane [] in
          let painted = are_painted-strips (picture_of list) list (strips plane [] within) x y inside ∙ ap (λ kind. not (kind == 0)) (sym (shown_at plane within x y)) ∙ here in
          list_any-from_Any (λ one. are_painted one x y) lists (plane, list, within, get_or_default lists plane list [] within, painted)

    pub painted_bounds-built : bounds_of (any_painted lists) ≡ painted_bounds (length owners) (layout_in new owners)
    painted_bounds-built =
        same_squares (any_painted lists) (has_paint (length owners) (layout_in new owners)) (λ x y inside.
        same_from_decides {P = has_paint (length owners) (layout_in new owners) x y ≡ true} (any_painted lists x y) (has_paint (length owners) (layout_in new owners) x y) (to_layout x y inside, from_layout x y inside) (λ h. h, λ h. h))

-- ---- the planes of a cell
pub ShowsWithin-layout :
    (pool : Pool) (bounds : Option Rect) (owners : List ℕ) → ((k d : ℕ) → k < length owners → ShowsWithin bounds (picture_in pool (get_or owners k d)))
    → (plane : ℕ) → ShowsWithin bounds (layout_in pool owners plane)
ShowsWithin-layout pool bounds [] each plane x y outside = refl
ShowsWithin-layout pool bounds (owner ∷ owners) each zero x y outside = each 0 owner (omega arith) x y outside
ShowsWithin-layout pool bounds (owner ∷ owners) each (suc plane) x y outside =
    ShowsWithin-layout pool bounds owners (λ k d within. each (suc k) d (omega (arith, within))) plane x y outside

-- planes that are built of lists that show nothing outside the bounds
pub AreBuilt-within :
    (old new : Pool) (owners : List ℕ) (lists : List (List Piece)) (bounds : Option Rect) → AreBuilt old new owners lists
    → All (λ list. ShowsWithin bounds (picture_of list)) lists → (plane : ℕ) → ShowsWithin bounds (layout_in new owners plane)
AreBuilt-within old new owners lists bounds built within = ShowsWithin-layout new bounds owners each
  where
    in_lists : (k : ℕ) → k < length owners → k < length lists
    in_lists k below = omega (arith, below, built.count)

    each : (k d : ℕ) → k < length owners → ShowsWithin bounds (picture_in new (get_or owners k d))
    each k d below = subst (ShowsWithin bounds) (sym (built.shows k d [] (in_lists k below))) (within k [] (in_lists k below))
