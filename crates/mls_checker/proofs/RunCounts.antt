-- How many runs a row has, and how many squares its runs have together.
use Rattle.std.proofs.Common.{◌≡◌, ℕ, zero, suc, ◌+◌, ◌-◌, ◌*◌, ◌<◌, ◌≤◌, inl, inr, Bool, true, false, true≢false, cond, List, get_or, refl, sym, ap, ◌∙◌, arith}
use Rattle.std.specs.List.{count_by, range_with_len, sum_by}
use Rattle.std.proofs.lemmas.Bool.{cases_lt}
use Rattle.std.proofs.lemmas.List.{map-id}
use Rattle.std.proofs.lemmas.List.FromFn.{length-range_with_len, sum_by-map-range_with_len_more}
use Rattle.std.proofs.lemmas.List.Sums.{count_by-le-length, sum_by-le}
use Rattle.mls_geom.specs.Rects.{Rect}
use Rattle.mls_geom.specs.Pictures.{columns, rows}
use Rattle.mls_checker.specs.MarkRuns.{IsNextRun}
use Rattle.mls_checker.specs.Marking.{SquareSet, square_count}

-- ---- how many runs
-- the runs of a row so far: each square that is still to come lies beyond twice their number, and the row has twice as many columns but one
pub record FewRuns (set : SquareSet) (rect : Rect) (y from runs : ℕ) : Type 0 where
  pub next : (x : ℕ) → from ≤ x → set x y ≡ true → rect.left + runs * 2 ≤ x
  pub all : runs * 2 ≤ rect.right - rect.left + 1

-- after a run its end is a gap; it may have added an area or none
pub FewRuns-more : (set : SquareSet) (rect : Rect) (y from left right runs more : ℕ) → IsNextRun set y from left right → right ≤ rect.right → more ≤ runs + 1
    → FewRuns set rect y from runs → FewRuns set rect y right more
FewRuns-more set rect y from left right runs more run within one few =
    let first = few.next left run.after (run.all left (omega arith) run.some) in
    record {
      next = λ x on is. elim (cases_lt right x) [
        | inl beyond ↦ omega (arith, first, run.some, beyond, one)
        | inr here ↦
            let same : x ≡ right = omega (arith, on, here) in
            absurd (true≢false (sym is ∙ ap (λ k. set k y) same ∙ run.ends))
      ];
      all = omega (arith, first, run.some, within, one);
    }

-- ---- how many squares
-- one number more of a range
pub sum_range_more : (f : ℕ → ℕ) (a n : ℕ) → sum_by f (range_with_len a (n + 1)) ≡ sum_by f (range_with_len a n) + f (a + n)
sum_range_more f a n =
    ap (sum_by f) (sym (map-id (range_with_len a (n + 1)))) ∙ sum_by-map-range_with_len_more f (λ k. k) a n (a + n) refl ∙ ap (λ (ks : List ℕ). sum_by f ks + f (a + n)) (map-id (range_with_len a n))

-- numbers that don't pass a test, and such as do
pub count_range_none : (test : ℕ → Bool) (a n m : ℕ) → ((k : ℕ) → a + n ≤ k → k < a + n + m → test k ≡ false) → count_by test (range_with_len a (n + m)) ≡ count_by test (range_with_len a n)
count_range_none test a n zero fail =
    let same : n + zero ≡ n = omega arith in
    ap (λ k. count_by test (range_with_len a k)) same
count_range_none test a n (suc m) fail =
    let next : n + suc m ≡ n + m + 1 = omega arith in
    ap (λ k. count_by test (range_with_len a k)) next ∙ sum_range_more (λ k. cond (test k) 1 0) a (n + m)
    ∙ ap (λ b. count_by test (range_with_len a (n + m)) + cond b 1 0) (fail (a + (n + m)) (omega arith) (omega arith)) ∙ omega arith
    ∙ count_range_none test a n m (λ k on before. fail k on (omega arith))

pub count_range_all : (test : ℕ → Bool) (a n m : ℕ) → ((k : ℕ) → a + n ≤ k → k < a + n + m → test k ≡ true) → count_by test (range_with_len a (n + m)) ≡ count_by test (range_with_len a n) + m
count_range_all test a n zero pass =
    let same : n + zero ≡ n = omega arith in
    ap (λ k. count_by test (range_with_len a k)) same ∙ omega arith
count_range_all test a n (suc m) pass =
    let next : n + suc m ≡ n + m + 1 = omega arith in
    let before = count_range_all test a n m (λ k on before. pass k on (omega arith)) in
    ap (λ k. count_by test (range_with_len a k)) next ∙ sum_range_more (λ k. cond (test k) 1 0) a (n + m)
    ∙ ap (λ b. count_by test (range_with_len a (n + m)) + cond b 1 0) (pass (a + (n + m)) (omega arith) (omega arith)) ∙ ap (λ c. c + 1) before ∙ omega arith

-- the squares of a row before a column
abbrev pub counted : SquareSet → ℕ → ℕ → ℕ → ℕ
counted set y first from = count_by (λ x. set x y) (range_with_len first (from - first))

-- a run more
pub run-counts : (set : SquareSet) (y first from left right : ℕ) → first ≤ from → IsNextRun set y from left right → counted set y first right ≡ counted set y first from + (right - left)
run-counts set y first from left right on run =
    let test = λ (x : ℕ). set x y in
    let n = from - first in
    let gap : left - first ≡ n + (left - from) = omega (arith, run.after) in
    let rest : right - first ≡ left - first + (right - left) = omega (arith, run.after, run.some) in
    ap (λ k. count_by test (range_with_len first k)) rest
    ∙ count_range_all test first (left - first) (right - left) (λ k after before. run.all k (omega (arith, run.after)) (omega (arith, run.after, run.some)))
    ∙ ap (λ c. c + (right - left)) (ap (λ k. count_by test (range_with_len first k)) gap ∙ count_range_none test first n (left - from) (λ k after before. run.none k (omega arith) (omega (arith, run.after))))

-- no square is left
pub row-counts : (set : SquareSet) (rect : Rect) (y from : ℕ) → rect.left ≤ from → from ≤ rect.right → ((x : ℕ) → from ≤ x → set x y ≡ false)
    → counted set y rect.left from ≡ count_by (λ x. set x y) (columns rect)
row-counts set rect y from on within none =
    let rest : rect.right - rect.left ≡ from - rect.left + (rect.right - from) = omega arith in
    sym (ap (λ k. count_by (λ x. set x y) (range_with_len rect.left k)) rest ∙ count_range_none (λ x. set x y) rect.left (from - rect.left) (rect.right - from) (λ k after before. none k (omega arith)))

-- few squares lie in a row, and in rows
pub counted-le : (set : SquareSet) (y first from : ℕ) → counted set y first from ≤ from - first
counted-le set y first from =
    let few = count_by-le-length (λ x. set x y) (range_with_len first (from - first)) in
    omega (arith, few, length-range_with_len first (from - first))

pub rows-counted-le : (set : SquareSet) (rect : Rect) (bottom rows : ℕ) → sum_by (λ y. count_by (λ x. set x y) (columns rect)) (range_with_len bottom rows) ≤ rows * (rect.right - rect.left)
rows-counted-le set rect bottom rows =
    let few = sum_by-le (λ y. count_by (λ x. set x y) (columns rect)) (rect.right - rect.left) (range_with_len bottom rows) (λ k d within. counted-le set _ rect.left rect.right) in
    omega (arith, few, ap (λ n. n * (rect.right - rect.left)) (length-range_with_len bottom rows))

-- a row more
pub rows-count-more : (row_count : ℕ → ℕ) (bottom row now more : ℕ) → bottom ≤ row → now ≡ sum_by row_count (range_with_len bottom (row - bottom)) → more ≡ row_count row
    → now + more ≡ sum_by row_count (range_with_len bottom (row + 1 - bottom))
rows-count-more row_count bottom row now more on was is =
    let next : row + 1 - bottom ≡ row - bottom + 1 = omega arith in
    let here : bottom + (row - bottom) ≡ row = omega arith in
    ap (λ k. k + more) was ∙ ap (λ k. sum_by row_count (range_with_len bottom (row - bottom)) + k) (is ∙ ap row_count (sym here))
    ∙ sym (ap (λ k. sum_by row_count (range_with_len bottom k)) next ∙ sum_range_more row_count bottom (row - bottom))

-- all rows
pub all-rows-count : (set : SquareSet) (rect : Rect) (row count : ℕ) → row ≡ rect.top → count ≡ sum_by (λ y. count_by (λ x. set x y) (columns rect)) (range_with_len rect.bottom (row - rect.bottom))
    → count ≡ square_count rect set
unfolding square_count
all-rows-count set rect row count all was = was ∙ ap (λ k. sum_by (λ y. count_by (λ x. set x y) (columns rect)) (range_with_len rect.bottom (k - rect.bottom))) all

-- no square
row-count-none : (set : SquareSet) (rect : Rect) (y : ℕ) → ((x y : ℕ) → set x y ≡ false) → count_by (λ x. set x y) (columns rect) ≡ 0
row-count-none set rect y none =
    let width : rect.right - rect.left ≡ 0 + (rect.right - rect.left) = omega arith in
    ap (λ k. count_by (λ x. set x y) (range_with_len rect.left k)) width ∙ count_range_none (λ x. set x y) rect.left 0 (rect.right - rect.left) (λ x on before. none x y)

pub no-squares-count : (set : SquareSet) (rect : Rect) → ((x y : ℕ) → set x y ≡ false) → 0 ≡ square_count rect set
unfolding square_count
no-squares-count set rect none =
    let few = sum_by-le (λ y. count_by (λ x. set x y) (columns rect)) 0 (rows rect) (λ k d within.
    let zero = row-count-none set rect (get_or (rows rect) k d) none in
    omega (arith, zero)) in
    omega (arith, few)
