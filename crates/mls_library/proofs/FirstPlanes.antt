-- Tests of the first planes.
use Rattle.std.proofs.Common.{◌≡◌, ℕ, ◌+◌, ◌-◌, ◌<◌, ◌||◌, Bool, true, Contains, subst, arith}
use Rattle.std.specs.List.{list_any, range_with_len}
use Rattle.std.proofs.Math.Bool.{or-false}
use Rattle.std.proofs.lemmas.List.{map-id}
use Rattle.std.proofs.lemmas.List.Folds.{list_any-append, list_any-from_Any}
use Rattle.std.proofs.lemmas.List.FromFn.{map-range_with_len_more}
use Rattle.mls_geom.proofs.Squares.{Contains-range_with_len}

-- some plane of the first ones passes, or the next one does
pub any_more : (p : ℕ → Bool) (n : ℕ) → list_any p (range_with_len 0 (n + 1)) ≡ (list_any p (range_with_len 0 n) || p n)
any_more p n =
    let more = simp map-id at (map-range_with_len_more (λ k. k) 0 n n (omega arith)) in
    rw (more, list_any-append, or-false)

-- a plane that passes is found
pub any_at : (p : ℕ → Bool) (n k : ℕ) → k < n → p k ≡ true → list_any p (range_with_len 0 n) ≡ true
any_at p n k before passes =
    let count : n - 0 ≡ n = omega arith in
    let (i, within, is) = subst (λ m. Contains (range_with_len 0 m) k) count (Contains-range_with_len 0 n k (omega arith) before) in
    list_any-from_Any p (range_with_len 0 n) (i, k, within, is, passes)
