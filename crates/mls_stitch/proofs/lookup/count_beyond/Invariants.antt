use Rattle.std.proofs.Common.{◌≤◌, length}
use Rattle.mls_stitch.proofs.lookup.count_beyond.Given as goal

abbrev pub invariant-loop : goal.invariant-loop
invariant-loop l = l.count ≤ length l.entries
