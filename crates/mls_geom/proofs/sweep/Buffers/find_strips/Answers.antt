-- The bands' lines and the starts are new, and there is as much room for them.
use Rattle.std.proofs.Common.{arith}
use Rattle.mls_geom.proofs.sweep.Buffers.find_strips.Goals as goal

pub returns-clause-room : goal.returns-clause-room
returns-clause-room c = λ n room. c.stack_bands.ensures.room n record {
  lines = omega (arith, room.lines);
  starts = omega (arith, room.starts);
  active = room.active;
  row = room.row;
  below = room.below;
  strips = room.strips;
}
