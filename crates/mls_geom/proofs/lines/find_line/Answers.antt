-- A failed search would place a line that is listed neither left nor right of the index that it returns.
use Rattle.mls_geom.proofs.Common.{ℕ, Ok, Err, Result, List, IfNone, inl, inr, arith, Contains, IsBinarySearchResult, IsStrictlyIncreasing, nat_cmp, result_ok, cases_lt, get_or_default, searched}
use Rattle.mls_geom.proofs.CutLines.{rises}
use Rattle.mls_geom.proofs.lines.find_line.Goals as goal

none-from_search :
    (lines : List ℕ) (line : ℕ) (found : Result ℕ ℕ) → IsStrictlyIncreasing lines
    → IsBinarySearchResult (λ other. nat_cmp other line) lines found → IfNone (result_ok found) (¬ (Contains lines line))
none-from_search lines line (Ok index) ascending result = record {}
none-from_search lines line (Err index) ascending result = λ listed.
    let (k, within, is) = listed in
    let sides = searched lines line (Err index) result (rises lines ascending) in
    let there = get_or_default lines k line 0 within in
    elim (cases_lt k index) [
      | inl left ↦ absurd (omega (arith, sides.1 k left))
      | inr right ↦ absurd (omega (arith, sides.2 k right within))
    ]

pub returns-clause-none : goal.returns-clause-none
returns-clause-none c = rw c.ok.ensures.value (none-from_search _ _ _ c.requires c.binary_search.ensures.position)
