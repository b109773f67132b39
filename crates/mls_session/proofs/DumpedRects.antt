-- Planes that lie in the pool show nothing on other planes, and nothing outside the world.
use Rattle.std.proofs.Common.{◌≡◌, ℕ, ◌≤◌, false, List, All, get_or, length, inl, inr, ap, ◌∙◌}
use Rattle.std.proofs.lemmas.Bool.{cases_lt}
use Rattle.std.proofs.lemmas.List.{get_or_default}
use Rattle.std.proofs.lemmas.Option.{slice_get_past}
use Rattle.mls_session.specs.Common.{HasStrips, Picture, Pool, empty_picture, holds, layout_in, picture_at, tiles_of, world}
use Rattle.mls_stitch.proofs.ShownTiles.{KeysDiffer-tiles_of, shown-outside}
use Rattle.mls_paint.proofs.OwnerFrames.{layout_in-at}

-- every plane beyond them is space
pub layout_in-beyond : (pool : Pool) (owners : List ℕ) (plane : ℕ) → length owners ≤ plane → layout_in pool owners plane ≡ empty_picture
layout_in-beyond pool owners plane over = ap (picture_at pool) (slice_get_past owners plane over)

-- and so is every square outside the world
pub layout_in-outside : (pool : Pool) (owners : List ℕ) → All (HasStrips pool) owners → (plane x y : ℕ) → holds world x y ≡ false → layout_in pool owners plane x y ≡ 0
layout_in-outside pool owners strips plane x y outside = elim (cases_lt plane (length owners)) [
  | inr over ↦ ap (λ (picture : Picture). picture x y) (layout_in-beyond pool owners plane over)
  | inl within ↦
      let owner = get_or owners plane 0 in
      let shows = layout_in-at pool owners plane owner within (get_or_default owners plane 0 owner within) in
      ap (λ (picture : Picture). picture x y) shows
      ∙ shown-outside (tiles_of pool owner) x y (strips plane 0 within).plane.plane (KeysDiffer-tiles_of pool owner) outside
]
