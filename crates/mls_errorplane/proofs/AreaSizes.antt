-- How many squares areas have, and that dropping a piece leaves fewer.
use Rattle.std.proofs.Common.{◌≡◌, ℕ, ◌+◌, ◌-◌, ◌*◌, ◌/◌, ◌<◌, ◌≤◌, ◌^◌, Bool, true, false, cond, List, [], ◌∷◌, All, refl, inl, inr, arith, filter}
use Rattle.std.proofs.lemmas.Bool.{cases_lt}
use Rattle.std.proofs.lemmas.Bool.Decides.{nat_tests}
use Rattle.std.proofs.lemmas.List.Sums.{sum_by-append, sum_by-cons, sum_by-le}
use Rattle.std.proofs.lemmas.Nat.{mul-le}
use Rattle.std.proofs.Math.Nat.{mul-zero, one-le-mul, zero-mul}
use Rattle.mls_errorplane.proofs.Common.{IsDirtyList, IsRectangleIn, Rect, area_of, dropped, has_squares, most_pieces, piece_of, rest_above, rest_beside, rests_of, size_of, world}

-- a rectangle without squares has the size 0
size_of-none : (e : Rect) → has_squares e ≡ false → size_of e ≡ 0
size_of-none e none = elim (cases_lt e.left e.right) [
  | inl wide ↦
      let flat : e.top - e.bottom ≡ 0 = elim (cases_lt e.bottom e.top) [ inl tall ↦ absurd (grind (arith, nat_tests)) | inr flat ↦ omega (arith, flat) ] in
      rw flat (mul-zero (e.right - e.left))
  | inr narrow ↦
      let thin : e.right - e.left ≡ 0 = omega (arith, narrow) in
      rw thin (zero-mul (e.top - e.bottom))
]

-- so leaving it out leaves the sum
area_of-shown : (e : Rect) (rest : List Rect) (shown : Bool) → has_squares e ≡ shown → area_of (cond shown (e ∷ rest) rest) ≡ size_of e + area_of rest
area_of-shown e rest true is = sum_by-cons size_of e rest
area_of-shown e rest false is = let none = size_of-none e is in omega (arith, none)

area_of-rests : (area : Rect) → area_of (rests_of area) ≡ size_of (rest_beside area) + size_of (rest_above area)
area_of-rests area =
    let one = area_of-shown (rest_beside area) (filter has_squares (rest_above area ∷ [])) (has_squares (rest_beside area)) refl in
    let other = area_of-shown (rest_above area) [] (has_squares (rest_above area)) refl in
    omega (arith, one, other)

-- a rectangle cut at a column, and on its left at a row
cut_size : (w v h g : ℕ) → w * h + (v * h + (w + v) * g) ≡ (w + v) * (h + g)
cut_size w v h g = omega arith

size_of-cut : (area : Rect) → area.left < area.right → area.bottom < area.top → size_of (piece_of area) + (size_of (rest_beside area) + size_of (rest_above area)) ≡ size_of area
size_of-cut area wide tall =
    let piece = piece_of area in
    let width : area.right - area.left ≡ (piece.right - area.left) + (area.right - piece.right) = omega (arith, wide) in
    let height : area.top - area.bottom ≡ (piece.top - area.bottom) + (area.top - piece.top) = omega (arith, tall) in
    rw (width, height) (cut_size (piece.right - area.left) (area.right - piece.right) (piece.top - area.bottom) (area.top - piece.top))

-- the list without its first piece has as many squares fewer as the piece has
pub area_of-dropped : (first : Rect) (rest : List Rect) → IsRectangleIn world first → area_of (dropped (first ∷ rest)) + size_of (piece_of first) ≡ area_of (first ∷ rest)
area_of-dropped first rest legal =
    let joined = sum_by-append size_of (rests_of first) rest in
    let before = sum_by-cons size_of first rest in
    omega (arith, joined, before, area_of-rests first, size_of-cut first legal.wide legal.tall)

-- which are some
size_of-piece : (area : Rect) → IsRectangleIn world area → 1 ≤ size_of (piece_of area)
size_of-piece area legal = one-le-mul (omega (arith, legal.wide)) (omega (arith, legal.tall))

pub area_of-dropped-less : (first : Rect) (rest : List Rect) → IsRectangleIn world first → area_of (dropped (first ∷ rest)) < area_of (first ∷ rest)
area_of-dropped-less first rest legal = omega (arith, area_of-dropped first rest legal, size_of-piece first legal)

-- no list has more squares than the world has, times its areas
pub area_of-le : (areas : List Rect) → IsDirtyList areas → area_of areas ≤ 65 * 2 ^ 42
area_of-le areas kept =
    let each : All (λ area. size_of area ≤ 2097152 * 2097152) areas = λ k d within.
    let legal = kept.legal k d within in
    mul-le _ _ 2097152 2097152 (omega (arith, legal.left_in, legal.right_in)) (omega (arith, legal.bottom_in, legal.top_in)) in
    omega (arith, sum_by-le size_of (2097152 * 2097152) areas each, kept.few)

-- a piece takes few pieces of marks
pub few_pieces : (area : Rect) → most_pieces (piece_of area) ≤ 32769
few_pieces area =
    let piece = piece_of area in
    let high : piece.top - piece.bottom ≤ 256 = omega arith in
    let wide : (piece.right - piece.left + 1) / 2 ≤ 128 = omega arith in
    omega (arith, mul-le _ _ 256 128 high wide)
