use Rattle.std.proofs.Common.{◌≡◌, ℕ, ◌+◌, ◌-◌, ◌*◌, ◌<◌, ◌≤◌, length}
use Rattle.mls_checker.specs.Maps.{has_ahead, has_place}
use Rattle.mls_checker.proofs.map_steps.widen.Given as goal

-- the map is so many steps wide
abbrev pub invariant-passes : goal.invariant-passes
invariant-passes l = record {
  some : 1 ≤ l.wide;
  few : l.wide ≤ l.count;
  wide : (n : ℕ) → n + (l.wide - 1) * l.places + 64 < 64 * length l.fn.map → has_place l.map n ≡ has_ahead (has_place l.fn.map) l.places l.wide n;
}

abbrev pub decreases-passes : goal.decreases-passes
decreases-passes l = l.count - l.wide
