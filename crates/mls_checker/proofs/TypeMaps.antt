-- Squares of a frame that have a type of some set, by tiles.
use Rattle.std.proofs.Common.{◌≡◌, ℕ, ◌+◌, ◌<◌, ◌≤◌, ◌^◌, ◌==◌, ◌||◌, ◌&&◌, Bool, true, false, inl, inr, List, refl, sym, ap, ◌∙◌, arith}
use Rattle.std.specs.Prelude.{nat_lt}
use Rattle.std.specs.Cmp.{both_ways}
use Rattle.std.proofs.Math.Bool.{and-false}
use Rattle.std.proofs.lemmas.Bool.{cases_lt, lt-ltb}
use Rattle.std.proofs.lemmas.Bool.Decides.{nat_tests}
use Rattle.mls_geom.specs.Pictures.{Picture}
use Rattle.mls_geom.specs.Rects.{holds}
use Rattle.mls_geom.proofs.Holds.{between_holds, holds_between}
use Rattle.mls_kinds.specs.KindSets.{has_bit, set_of}
use Rattle.mls_kinds.proofs.KindSetLemmas.{has_bit-set_of, has_bit_from_64, set_of-lt}
use Rattle.mls_checker.specs.Grids.{in_kinds}
use Rattle.mls_checker.specs.Maps.{Frame, IsFrame, frame_area}
use Rattle.mls_checker.specs.Tiles.{AreTiles, Tile, outer}
use Rattle.mls_checker.proofs.MarkedSquares.{in-tile, of-kinds}

-- a square of the frame has such a type exactly where a tile of such a kind has it
pub shown-types : (frame : Frame) (picture : Picture) (tiles : List Tile) (types x y : ℕ) → IsFrame frame → AreTiles outer picture tiles → holds (frame_area frame) x y ≡ true
    → in_kinds tiles types x y ≡ has_bit types (picture x y)
shown-types frame picture tiles types x y is are here =
    let lines = holds_between (frame_area frame) x y here in
    both_ways (in_kinds tiles types x y) (has_bit types (picture x y)) (of-kinds picture tiles types x y are)
    (in-tile picture tiles types x y are
    (between_holds outer x y (omega (arith, lines.0, is.left)) (omega (arith, lines.1, is.right)) (omega (arith, lines.2, is.below)) (omega (arith, lines.3, is.above))))

-- ---- kind by kind
-- the set of one kind
pub one-kind : (kind other : ℕ) → kind < 64 → has_bit (set_of (λ k. k == kind)) other ≡ (other == kind)
one-kind kind other below = elim (cases_lt other 64) [
  | inl low ↦ has_bit-set_of (λ k. k == kind) other low
  | inr high ↦ has_bit_from_64 (set_of (λ k. k == kind)) other (set_of-lt (λ k. k == kind)) high ∙ apart other kind high below
]
  where
    apart : (other kind : ℕ) → 64 ≤ other → kind < 64 → false ≡ (other == kind)
    apart other kind high below = grind (arith, nat_tests)

    other-kind : (old held : Bool) (p kind : ℕ) → (p ≡ kind → ⊥) → ((old || (nat_lt p kind && held)) || (p == kind)) ≡ (old || (nat_lt p (kind + 1) && held))
    other-kind true held p kind other = refl
    other-kind false held p kind other = grind (arith, nat_tests)

-- all kinds of a set lie below 64
pub all-kinds : (types p : ℕ) → types < 2 ^ 64 → (nat_lt p 64 && has_bit types p) ≡ has_bit types p
all-kinds types p fits = elim (cases_lt p 64) [
  | inl below ↦ ap (λ b. b && has_bit types p) (lt-ltb p 64 below)
  | inr above ↦ ap (λ b. nat_lt p 64 && b) (has_bit_from_64 types p fits above) ∙ and-false (nat_lt p 64) ∙ sym (has_bit_from_64 types p fits above)
]
