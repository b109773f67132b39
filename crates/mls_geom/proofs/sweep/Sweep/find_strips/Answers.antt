-- The strips are new, and there is as much room for them.
use Rattle.std.proofs.Common.{arith}
use Rattle.mls_geom.proofs.sweep.Sweep.find_strips.Goals as goal

pub invariant_of-self : goal.invariant_of-self
invariant_of-self c = (c.find_strips.ensures.room _ c.self.invariant.0, c.self.invariant.1)

pub invariant_of-self-2 : goal.invariant_of-self-2
invariant_of-self-2 c =
    let (room, shown) = c.self.invariant in (
      c.find_strips-2.ensures.room _ record {
        lines = room.lines;
        starts = room.starts;
        active = room.active;
        row = room.row;
        below = room.below;
        strips = omega (arith, room.strips, c.keep_row.ensures.room);
      },
      omega (arith, shown, c.list_shown.ensures.room),
    )
