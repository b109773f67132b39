-- The pieces that a change paints, listed plane by plane.
use Rattle.std.proofs.Common.{◌≡◌, ◌≢◌, ℕ, ◌+◌, ◌<◌, ◌≤◌, List, length, get_or, inl, inr, sym, ap, subst, ◌∙◌, arith}
use Rattle.std.proofs.lemmas.Bool.{cases_eq}
use Rattle.mls_session.proofs.Common.{ArePlanned, Change, Design, FitsQuota, IsPlanFor, Layout, ListsChange, Picture, Piece, Pool, Scratch, changed, changed_layout, layout_in, overlaid, painted_over, picture_in, plan_of, tile_count, world}
use Rattle.mls_paint.proofs.OwnerFrames.{layout_in-at}

-- ---- pieces of each plane
-- the change is listed for one plane more
pub ListsChange-more :
    (pool : Pool) (change : Change) (layout : Layout) (i : ℕ) (old new : ℕ → List Piece) → overlaid (layout i) (new i) ≡ changed_layout pool change layout i
    → ((plane : ℕ) → plane ≢ i → new plane ≡ old plane) → ListsChange pool change i layout old → ListsChange pool change (i + 1) layout new
ListsChange-more pool change layout i old new made others so_far plane below = elim (cases_eq plane i) [
  | inl same ↦
      let P : ℕ → Type 0 = λ j. painted_over new layout j ≡ changed_layout pool change layout j in
      subst P (sym same) made
  | inr other ↦ ap (overlaid (layout plane)) (others plane other) ∙ so_far plane (omega (arith, below, other))
]

-- and a plan is kept for one plane more
pub ArePlanned-more :
    (pool : Pool) (owners : List ℕ) (i : ℕ) (old new : Scratch) → IsPlanFor pool (get_or owners i 0) (plan_of new i)
    → ((plane : ℕ) → plane ≢ i → plan_of new plane ≡ plan_of old plane) → ArePlanned pool owners i old → ArePlanned pool owners (i + 1) new
ArePlanned-more pool owners i old new made others so_far plane below = elim (cases_eq plane i) [
  | inl same ↦
      let P : ℕ → Type 0 = λ j. IsPlanFor pool (get_or owners j 0) (plan_of new j) in
      subst P (sym same) made
  | inr other ↦ subst (IsPlanFor pool (get_or owners plane 0)) (sym (others plane other)) (so_far plane (omega (arith, below, other)))
]

-- ---- one plane
-- what is listed for a plane makes the change on it
module _ (pool mid : Pool) (design : Design) (change : Change) (i owner : ℕ) (pieces : List Piece) (within : i < length design.planes) (is : owner ≡ get_or design.planes i owner) (same : mid ≡ pool) (listed : (below : Picture) → below ≡ picture_in mid owner → overlaid below pieces ≡ changed mid change i below) where
  shown : layout_in pool design.planes i ≡ picture_in mid owner
  shown = layout_in-at pool design.planes i owner within is ∙ ap (λ (now : Pool). picture_in now owner) (sym same)

  pub listed-changed : overlaid (layout_in pool design.planes i) pieces ≡ changed_layout pool change (layout_in pool design.planes) i
  listed-changed =
      listed (layout_in pool design.planes i) shown ∙ ap (λ (now : Pool). changed now change i (layout_in pool design.planes i)) same

  pub lent-changed : (over : List Piece) → over ≡ pieces → overlaid (picture_in mid owner) over ≡ changed_layout pool change (layout_in pool design.planes) i
  lent-changed over is_list = ap (overlaid (picture_in mid owner)) is_list ∙ ap (λ (below : Picture). overlaid below pieces) (sym shown) ∙ listed-changed

-- ---- all planes
-- where the change fits, so does what is listed for it
pub FitsQuota-listed :
    (pool : Pool) (change : Change) (planes quota : ℕ) (layout : Layout) (pieces : ℕ → List Piece) → ListsChange pool change planes layout pieces
    → FitsQuota planes quota (changed_layout pool change layout) → FitsQuota planes quota (painted_over pieces layout)
FitsQuota-listed pool change planes quota layout pieces listed fits plane within =
    subst (λ picture. tile_count world picture ≤ quota) (sym (listed plane within)) (fits plane within)
