use Rattle.std.proofs.Common.{◌≡◌, ℕ, ◌<◌, ◌≤◌, slice_index}
use Rattle.mls_layout.proofs.rows.end_of_alike.Given as goal

-- the kinds so far are alike
abbrev pub invariant-loop-place : goal.invariant-loop-place
invariant-loop-place l = (place : ℕ) → l.from ≤ place → place < l.place → slice_index l.squares place ≡ slice_index l.squares l.from
