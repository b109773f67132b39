use Rattle.std.proofs.Common.{◌≡◌, ℕ, ◌<◌, ◌≤◌, not}
use Rattle.mls_checker.specs.Maps.{has_place}
use Rattle.mls_checker.proofs.places.last_place.Given as goal

-- none from the place on
abbrev pub invariant-words : goal.invariant-words
invariant-words l = record {
  within : l.end ≤ l.limit;
  none : (n : ℕ) → l.end ≤ n → n < l.limit → has_place l.map n ≡ not l.has;
}

abbrev pub decreases-words : goal.decreases-words
decreases-words l = l.end
