-- Marks without squares.
use Rattle.std.proofs.Common.{◌≡◌, ℕ, ◌/◌, ◌%◌, ◌&&◌, false, List, [], ◌∷◌, refl, sym, ap, ◌∙◌, arith}
use Rattle.std.specs.List.{count_by, sum_by}
use Rattle.std.proofs.Math.Bool.{and-false}
use Rattle.std.proofs.lemmas.List.Elements.{All-nil}
use Rattle.std.proofs.lemmas.List.Sums.{sum_by-cons}
use Rattle.mls_geom.specs.Pictures.{columns, rows}
use Rattle.mls_geom.specs.Rects.{Rect, IsRectangleIn, holds}
use Rattle.mls_checker.specs.Maps.{Frame, place_of}
use Rattle.mls_checker.specs.MarkMaps.{AreMarksOf}
use Rattle.mls_checker.specs.Marking.{square_count}
use Rattle.mls_checker.proofs.WordRows.{past-end}

count-none : (xs : List ℕ) → count_by (λ x. false) xs ≡ 0
count-none [] = refl
count-none (x ∷ xs) = count-none xs

sum-none : (xs ys : List ℕ) → sum_by (λ y. count_by (λ x. false) xs) ys ≡ 0
sum-none xs [] = refl
sum-none xs (y ∷ ys) =
    let first = count-none xs in
    let rest = sum-none xs ys in
    omega (arith, first, rest, sum_by-cons (λ (n : ℕ). count_by (λ x. false) xs) y ys)

no-count : (rect : Rect) → square_count rect (λ x y. false) ≡ 0
unfolding square_count
no-count rect = sum-none (columns rect) (rows rect)

-- no areas are marks of a map without words
pub none-marked : (rect : Rect) (frame : Frame) → AreMarksOf (record { rect = rect; frame = frame; words = [] }) [] 0
none-marked rect frame = record {
  inside = All-nil (λ area. IsRectangleIn rect area);
  few = omega arith;
  squares = λ x y. sym (ap (λ b. holds rect x y && b) (past-end [] (place_of frame x y / 64) (place_of frame x y % 64) (omega arith)) ∙ and-false (holds rect x y));
  count = sym (no-count rect);
}
