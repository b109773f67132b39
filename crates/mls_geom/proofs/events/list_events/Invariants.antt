-- The pieces so far are listed.
use Rattle.std.proofs.Common.{◌≡◌, length, vec_capacity}
use Rattle.mls_geom.proofs.Definitions.{line_of, world}
use Rattle.mls_geom.proofs.EventLists.{AreListed}
use Rattle.mls_geom.proofs.events.list_events.Given as goal

abbrev pub invariant-loop-i : goal.invariant-loop-i
invariant-loop-i l = record {
  listed : AreListed (line_of l.step) world.bottom l.pieces l.i l.events.items;
  count : length l.events.items ≡ l.i;
  room : vec_capacity l.events ≡ vec_capacity l.fn.events;
}
