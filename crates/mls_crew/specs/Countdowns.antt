-- Lists that count down. This project's own.
use Rattle.std.specs.Prelude.{ℕ, ◌+◌, List, [], ◌∷◌, length, ⊤}

-- the last item has this number, the one before it the next, and so on to the first
abbrev pub AreCountedFrom : {X : Type 0} → (ℕ → X → Type 0) → ℕ → List X → Type 0
AreCountedFrom has n [] = ⊤
AreCountedFrom has n (x ∷ xs) = has (n + length xs) x × AreCountedFrom has n xs

-- the list counts down to this number
pub record CountsDown {X : Type 0} (has : ℕ → X → Type 0) (n : ℕ) (xs : List X) : Type 0 where
  pub counts : AreCountedFrom has n xs
