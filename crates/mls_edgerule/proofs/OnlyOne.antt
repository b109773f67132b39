-- The only number that passes a test, found one by one.
use Rattle.std.proofs.Common.{◌≡◌, ℕ, suc, ◌+◌, ◌-◌, ◌<◌, ◌≤◌, Bool, true, false, Option, Some, None, List, ◌∷◌, is_some, refl, ap, arith}
use Rattle.std.specs.List.{filter, range_with_len}
use Rattle.mls_edgerule.specs.PlaneTypes.{only_one}

-- the one found so far, and the others
abbrev pub found : Option ℕ → List ℕ → List ℕ
found None others = others
found (Some plane) others = plane ∷ others

range-next : (i n : ℕ) → i < n → range_with_len i (n - i) ≡ i ∷ range_with_len (i + 1) (n - (i + 1))
range-next i n h = let more : n - i ≡ suc (n - (i + 1)) = omega arith in rw more refl

module _ (test : ℕ → Bool) where
  -- those from i on, below n
  abbrev pub passing : ℕ → ℕ → List ℕ
  passing i n = filter test (range_with_len i (n - i))

  pub passing-hit : (i n : ℕ) → i < n → test i ≡ true → passing i n ≡ i ∷ passing (i + 1) n
  passing-hit i n h hit = rw (range-next i n h, hit) refl

  pub passing-miss : (i n : ℕ) → i < n → test i ≡ false → passing i n ≡ passing (i + 1) n
  passing-miss i n h miss = rw (range-next i n h, miss) refl

  -- the first one
  pub only_one-first : (one : Option ℕ) (i n : ℕ) → i < n → test i ≡ true → is_some one ≡ false → only_one (found one (passing i n)) ≡ only_one (found (Some i) (passing (i + 1) n))
  only_one-first None i n h hit first = rw (passing-hit i n h hit) refl
  only_one-first (Some plane) i n h hit first = cc

  -- none
  pub only_one-other : (one : Option ℕ) (i n : ℕ) → i < n → test i ≡ false → only_one (found one (passing i n)) ≡ only_one (found one (passing (i + 1) n))
  only_one-other one i n h miss = ap (λ others. only_one (found one others)) (passing-miss i n h miss)

  -- a second one
  pub only_one-twice : (plane i n : ℕ) → i < n → test i ≡ true → only_one (found (Some plane) (passing i n)) ≡ None
  only_one-twice plane i n h hit = rw (passing-hit i n h hit) refl

  pub only_one-end : (found_one : Option ℕ) (i n : ℕ) → n ≤ i → only_one (found found_one (passing i n)) ≡ found_one
  only_one-end None i n h = let none : n - i ≡ 0 = omega arith in rw none refl
  only_one-end (Some plane) i n h = let none : n - i ≡ 0 = omega arith in rw none refl
