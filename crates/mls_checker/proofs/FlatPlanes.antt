-- Copies of a zone on all planes of a layout with uses.
use Rattle.std.proofs.Common.{◌≡◌, ◌↔◌, ℕ, zero, suc, ◌+◌, ◌<◌, inl, inr, Some, List, [], ◌∷◌, ◌++◌, get_or, length, slice_get, refl, sym, ap, ◌∙◌, arith}
use Rattle.std.specs.Option.{unwrap_or}
use Rattle.std.proofs.Math.Path.{fun_ext}
use Rattle.std.proofs.lemmas.Bool.{cases_Bool, cases_lt, cond-false, cond-true}
use Rattle.std.proofs.lemmas.Option.{slice_get_past, slice_get_read}
use Rattle.mls_geom.specs.Layouts.{Layout}
use Rattle.mls_geom.specs.Pictures.{Picture}
use Rattle.mls_geom.specs.Rects.{Rect, holds}
use Rattle.mls_tilepool.specs.Pools.{Pool}
use Rattle.mls_layout.specs.Uses.{HasCells, flat_layout, flat_plane}
use Rattle.mls_layout.specs.declared.uses.Uses.{Uses}
use Rattle.mls_layout.proofs.FlatLayouts.{flat_layout-beyond, flat_layout-plane}
use Rattle.mls_checker.specs.Copies.{IsOfZone, PlaneTiles, no_plane, plane_picture}
use Rattle.mls_checker.specs.FlatZones.{planes_layout}
use Rattle.mls_checker.specs.ZoneLayouts.{within}
use Rattle.mls_checker.proofs.Copying.{cut}
use Rattle.mls_checker.proofs.NoPlane.{no_plane-space}

-- ---- plane by plane

-- what the layout has on a plane in the zone, where neither the pool nor the owners have changed
pub flat-at :
    (pool now : Pool) (uses : Uses) (owners : List ℕ) (zone : Rect) (plane owner : ℕ) → now ≡ pool → plane < length owners
    → owner ≡ get_or owners plane owner → cut (flat_plane now uses plane owner) zone ≡ within zone (flat_layout pool uses owners) plane
flat-at pool now uses owners zone plane owner same_pool below is =
    let is_owner : slice_get owners plane ≡ Some owner =
    slice_get_read owners (length owners) plane owner refl below is in
    ap (λ (p : Pool). cut (flat_plane p uses plane owner) zone) same_pool ∙ ap (λ (p : Picture). cut p zone) (sym (flat_layout-plane pool uses owners plane owner is_owner))

-- copies of all planes show what the layout has in the zone, where no cell has more planes
pub flat-by_copies :
    (pool : Pool) (uses : Uses) (owners : List ℕ) (zone : Rect) (copies : List PlaneTiles) → HasCells pool (length owners) uses.library.now → length copies ≡ length owners
    → ((plane : ℕ) → plane < length owners → planes_layout copies plane ≡ within zone (flat_layout pool uses owners) plane)
    → planes_layout copies ≡ within zone (flat_layout pool uses owners)
flat-by_copies pool uses owners zone copies cells as_many each = fun_ext (λ plane. elim (cases_lt plane (length owners)) [
  | inl below ↦ each plane below
  | inr past ↦ fun_ext (λ x. fun_ext (λ y.
      ap (λ slot. plane_picture (unwrap_or slot no_plane) x y) (slice_get_past copies plane (omega (arith, past, as_many))) ∙ no_plane-space x y
      ∙ sym (elim (cases_Bool (holds zone x y)) [
        | inl here ↦ cond-true (holds zone x y) (flat_layout pool uses owners plane x y) 0 here ∙ flat_layout-beyond pool uses owners plane cells past x y
        | inr outside ↦ cond-false (holds zone x y) (flat_layout pool uses owners plane x y) 0 outside
      ])))
])

-- a plane among copies
pub planes_layout-at : (copies : List PlaneTiles) (plane : ℕ) (copied : PlaneTiles) → slice_get copies plane ≡ Some copied → planes_layout copies plane ≡ plane_picture copied
planes_layout-at copies plane copied is = ap (λ slot. plane_picture (unwrap_or slot no_plane)) is

-- so a copy shows what its plane has exactly if the copies show there what the layout has
pub copy-at :
    (pool now : Pool) (uses : Uses) (owners : List ℕ) (zone : Rect) (copies : List PlaneTiles) (plane : ℕ) (copied : PlaneTiles) (owner : ℕ) → now ≡ pool
    → length copies ≡ length owners → plane < length copies → copied ≡ get_or copies plane copied → owner ≡ get_or owners plane owner
    → (plane_picture copied ≡ cut (flat_plane now uses plane owner) zone) ↔ (planes_layout copies plane ≡ within zone (flat_layout pool uses owners) plane)
copy-at pool now uses owners zone copies plane copied owner same_pool as_many below is_copied is_owner =
    let copy = planes_layout-at copies plane copied (slice_get_read copies (length copies) plane copied refl below is_copied) in
    let flat = flat-at pool now uses owners zone plane owner same_pool (omega (arith, below, as_many)) is_owner in
    (λ shown. copy ∙ shown ∙ flat, λ shown. sym copy ∙ shown ∙ sym flat)

-- a copy of what a picture has in the zone shows space outside it
pub cut-IsOfZone : (zone : Rect) (copied : PlaneTiles) (picture : Picture) → plane_picture copied ≡ cut picture zone → IsOfZone zone copied
cut-IsOfZone zone copied picture is x y outside = ap (λ (p : Picture). p x y) is ∙ cond-false (holds zone x y) (picture x y) 0 outside

-- ---- one copy more
push-before : {X : Type 0} (xs : List X) (x : X) (k : ℕ) → k < length xs → slice_get (xs ++ x ∷ []) k ≡ slice_get xs k
push-before [] x k below = absurd (omega arith)
push-before (y ∷ xs) x zero below = refl
push-before (y ∷ xs) x (suc k) below = push-before xs x k (omega (arith, below))

push-last : {X : Type 0} (xs : List X) (x : X) → slice_get (xs ++ x ∷ []) (length xs) ≡ Some x
push-last [] x = refl
push-last (y ∷ xs) x = push-last xs x

pub planes_layout-push :
    (copies : List PlaneTiles) (copied : PlaneTiles) (layout : Layout) (count : ℕ) → length copies ≡ count
    → ((plane : ℕ) → plane < count → planes_layout copies plane ≡ layout plane) → plane_picture copied ≡ layout count
    → (plane : ℕ) → plane < count + 1 → planes_layout (copies ++ copied ∷ []) plane ≡ layout plane
planes_layout-push copies copied layout count many so_far more plane below = elim (cases_lt plane count) [
  | inl before ↦ ap (λ slot. plane_picture (unwrap_or slot no_plane)) (push-before copies copied plane (omega (arith, before, many))) ∙ so_far plane before
  | inr last ↦
      (let here : plane ≡ length copies = omega (arith, below, last, many) in
      let there : plane ≡ count = omega (arith, below, last) in
      ap (planes_layout (copies ++ copied ∷ [])) here ∙ planes_layout-at (copies ++ copied ∷ []) (length copies) copied (push-last copies copied) ∙ more
      ∙ sym (ap (λ (n : ℕ). layout n) there))
]
