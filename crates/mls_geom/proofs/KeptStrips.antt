-- The strips of a kept row, once the sweep has reached the world's top line.
use Rattle.mls_geom.proofs.Common.{◌≡◌, ℕ, ◌<◌, ◌≤◌, min, List, length, map, ap, ◌∙◌, subst, arith, inl, inr, cases_lt, ext_get_or, get_or-map, length-map, All-contains}
use Rattle.mls_geom.proofs.Definitions.{AreCoveredStrips, Picture, IsKept, lowered, strip_at, extended, world, Piece}

-- strips that reach no further than the line are as they are below it
lowered_all : (y : ℕ) (strips : List Piece) → ((k : ℕ) → k < length strips → (strip_at strips k).rect.top ≤ y) → map (lowered y) strips ≡ strips
lowered_all y strips up_to =
    let d : Piece = record { rect = record { left = 0; bottom = 0; right = 0; top = 0 }; kind = 0 } in
    ext_get_or d (map (lowered y) strips) strips (length-map strips (lowered y)) (λ k within.
    let inside : k < length strips = omega (arith, length-map strips (lowered y)) in
    let top : min y (strip_at strips k).rect.top ≡ (strip_at strips k).rect.top = omega (arith, up_to k inside) in
    get_or-map (lowered y) strips k d d inside ∙ ap (λ t. extended t (strip_at strips k)) top)

-- no strip reaches further than the world
within_world : (picture : Picture) (strips : List Piece) (row : List ℕ) → IsKept picture world.top strips row → (k : ℕ) → k < length strips
    → (strip_at strips k).rect.top ≤ world.top
within_world picture strips row kept k within = elim (cases_lt world.top (strip_at strips k).rect.top) [
  | inr fits ↦ fits
  | inl further ↦ kept.ended k within (λ listed.
      omega (arith, further, (All-contains (λ k. (k < length strips) × ((strip_at strips k).rect.top ≡ world.top)) row k kept.reaching listed).1))
]

-- so they are the strips of the covered squares
pub AreCoveredStrips-kept : (picture : Picture) (strips : List Piece) (row : List ℕ) → IsKept picture world.top strips row → AreCoveredStrips world picture strips
AreCoveredStrips-kept picture strips row kept =
    subst (AreCoveredStrips world picture) (lowered_all world.top strips (within_world picture strips row kept)) kept.stacked.laid
