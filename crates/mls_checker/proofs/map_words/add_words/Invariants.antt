use Rattle.std.proofs.Common.{◌≡◌, ℕ, ◌+◌, ◌*◌, ◌<◌, ◌||◌, ◌&&◌, Bool, nat_lt}
use Rattle.mls_kinds.specs.KindSets.{has_bit}
use Rattle.mls_checker.specs.Grids.{has_column}
use Rattle.mls_checker.proofs.map_words.add_words.Given as goal

-- the words before this one have gained their places
abbrev pub invariant-loop-row : goal.invariant-loop-row
invariant-loop-row g l = (more : ℕ → Bool)
    → ((row word column : ℕ) → row < l.count → goal.F-post g l.made row word → column < 64 → has_bit word column ≡ more (64 * row + column))
    → (row column : ℕ) → column < 64 → has_column l.map row column ≡ (has_column l.fn.map row column || (nat_lt row l.row && more (64 * row + column)))
