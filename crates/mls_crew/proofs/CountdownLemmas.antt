-- Lists that count down, an item more or less at the end; and texts by their number, one more.
use Rattle.std.proofs.Common.{◌≡◌, ◌++◌, ◌+◌, ◌<◌, ℕ, below_more, List, [], ◌∷◌, get_or, length, length-append, sym, subst, arith}
use Rattle.std.proofs.lemmas.List.{get_or_append_left, get_or_at}
use Rattle.mls_crew.specs.Countdowns.{AreCountedFrom, CountsDown}

module _ {X : Type 0} (has : ℕ → X → Type 0) where
  pub Counts-push : (n m : ℕ) (xs : List X) (x : X) → m ≡ n + 1 → AreCountedFrom has m xs → has n x → AreCountedFrom has n (xs ++ x ∷ [])
  Counts-push n m [] x at counts here = (subst (λ (k : ℕ). has k x) (omega arith) here, tt)
  Counts-push n m (first ∷ xs) x at (one, rest) here =
      let shift : m + length xs ≡ n + length (xs ++ x ∷ []) = omega (arith, length-append xs (x ∷ [])) in
      (subst (λ (k : ℕ). has k first) shift one, Counts-push n m xs x at rest here)

  pub Counts-last : (n : ℕ) (xs : List X) (x : X) → AreCountedFrom has n (xs ++ x ∷ []) → has n x
  Counts-last n [] x (here, none) = subst (λ (k : ℕ). has k x) (omega arith) here
  Counts-last n (first ∷ xs) x (one, rest) = Counts-last n xs x rest

  pub Counts-rest : (n m : ℕ) (xs : List X) (x : X) → m ≡ n + 1 → AreCountedFrom has n (xs ++ x ∷ []) → AreCountedFrom has m xs
  Counts-rest n m [] x at counts = tt
  Counts-rest n m (first ∷ xs) x at (one, rest) =
      let shift : n + length (xs ++ x ∷ []) ≡ m + length xs = omega (arith, length-append xs (x ∷ [])) in
      (subst (λ (k : ℕ). has k first) shift one, Counts-rest n m xs x at rest)

-- the same of the record, whose arguments are found
pub counts_push : {X : Type 0} {has : ℕ → X → Type 0} {n m : ℕ} {xs : List X} (x : X) → m ≡ n + 1 → CountsDown has m xs → has n x → CountsDown has n (xs ++ x ∷ [])
counts_push {X} {has} {n} {m} {xs} x at down here = record { counts = Counts-push has n m xs x at down.counts here }

pub counts_last : {X : Type 0} {has : ℕ → X → Type 0} {n : ℕ} {all : List X} (xs : List X) (x : X) → all ≡ xs ++ x ∷ [] → CountsDown has n all → has n x
counts_last {X} {has} {n} {all} xs x is down = Counts-last has n xs x (subst (λ (l : List X). AreCountedFrom has n l) is down.counts)

pub counts_rest : {X : Type 0} {has : ℕ → X → Type 0} {n : ℕ} {all : List X} (m : ℕ) (xs : List X) (x : X) → m ≡ n + 1 → all ≡ xs ++ x ∷ [] → CountsDown has n all → CountsDown has m xs
counts_rest {X} {has} {n} {all} m xs x at is down = record { counts = Counts-rest has n m xs x at (subst (λ (l : List X). AreCountedFrom has n l) is down.counts) }

-- what holds of each item by its number, and of one more
pub each_push :
    {X : Type 0} (Q : ℕ → X → Type 0) (xs : List X) (d x : X) (n m : ℕ) → length xs ≡ n → m ≡ n + 1 → ((k : ℕ) → k < n → Q k (get_or xs k d)) → Q n x
    → (k : ℕ) → k < m → Q k (get_or (xs ++ x ∷ []) k d)
each_push Q xs d x n m len at all here k below =
    below_more (λ i. Q i (get_or (xs ++ x ∷ []) i d)) n (λ i low. subst (Q i) (sym (get_or_append_left xs (x ∷ []) d i (omega arith))) (all i low))
    (subst (Q n) (sym (get_or_at xs x [] d n len)) here) k (omega arith)
