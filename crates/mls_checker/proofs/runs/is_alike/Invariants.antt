use Rattle.std.proofs.Common.{◌≡◌, ◌-◌, ◌<◌, ◌≤◌, ℕ, slice_index}
use Rattle.mls_checker.proofs.runs.is_alike.Given as goal

-- the words before this one are those of the row below
abbrev pub invariant-loop-index : goal.invariant-loop-index
invariant-loop-index l = (i : ℕ) → l.first ≤ i → i < l.index → slice_index l.words i ≡ slice_index l.words (i - l.width)
