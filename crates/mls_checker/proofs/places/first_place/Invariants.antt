use Rattle.std.proofs.Common.{◌-◌, ◌≡◌, ◌<◌, ◌≤◌, ℕ, not}
use Rattle.mls_checker.specs.Maps.{has_place}
use Rattle.mls_checker.proofs.places.first_place.Given as goal

-- no place before this one is as wanted
abbrev pub invariant-words : goal.invariant-words
invariant-words l = record {
  after : l.from ≤ l.place;
  none : (n : ℕ) → l.from ≤ n → n < l.place → has_place l.map n ≡ not l.has;
}

abbrev pub decreases-words : goal.decreases-words
decreases-words l = l.limit - l.place
