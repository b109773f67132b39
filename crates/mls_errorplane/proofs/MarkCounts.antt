-- How many squares of a picture are marked, at most.
use Rattle.std.proofs.Common.{◌≡◌, ℕ, ◌-◌, ◌*◌, ◌≤◌, Bool, true, false, get_or, All, refl, sym, subst, arith, count_by, sum_by}
use Rattle.std.proofs.lemmas.List.FromFn.{length-range_with_len}
use Rattle.std.proofs.lemmas.List.Sums.{count_by-le-length, sum_by-le}
use Rattle.mls_errorplane.proofs.Common.{Picture, Rect, columns, is_marked, marked_count, rows}

-- tests that pass at the same time are one
pub same_test : (a b : Bool) → (a ≡ true → b ≡ true) → (b ≡ true → a ≡ true) → a ≡ b
same_test true b there back = sym (there refl)
same_test false true there back = back refl
same_test false false there back = refl

-- an extent has no more marked squares than squares
pub marked_count-le : (extent : Rect) (picture : Picture) → marked_count extent picture ≤ (extent.top - extent.bottom) * (extent.right - extent.left)
unfolding marked_count
marked_count-le extent picture =
    let row = λ (y : ℕ). count_by (λ x. is_marked picture x y) (columns extent) in
    let width = length-range_with_len extent.left (extent.right - extent.left) in
    let height = length-range_with_len extent.bottom (extent.top - extent.bottom) in
    let each : All (λ y. row y ≤ extent.right - extent.left) (rows extent) = λ k d _.
    omega (arith, width, count_by-le-length (λ x. is_marked picture x (get_or (rows extent) k d)) (columns extent)) in
    let whole = sum_by-le row (extent.right - extent.left) (rows extent) each in
    subst (λ n. sum_by row (rows extent) ≤ n * (extent.right - extent.left)) height whole
