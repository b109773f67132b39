use Rattle.std.proofs.Common.{◌≡◌, ℕ, ◌+◌, ◌-◌, ◌*◌, ◌≤◌, length, slice_index, vec_len, vec_capacity}
use Rattle.mls_geom.proofs.Definitions.{ArePartedAt, laid, HasRowRoom, AreStacked, HasSweepRoom, world}
use Rattle.mls_geom.proofs.sweep.Buffers.stack_bands.Given as goal

abbrev pub invariant-loop-i : goal.invariant-loop-i
invariant-loop-i l =
    let line = slice_index l.lines.items (l.i - 1) in
    record {
      parted : ArePartedAt line l.pieces l.active.items l.waiting;
      fit : vec_len l.active + length l.waiting ≤ vec_capacity l.active;
      stacked : AreStacked world (laid l.pieces) line l.strips.items l.below.items;
      within : vec_len l.strips ≤ l.limit;
      active_room : vec_capacity l.active ≡ vec_capacity l.initial.active;
      strips_room : vec_capacity l.strips ≡ vec_capacity l.initial.strips;
      runs_room : (n : ℕ) → HasSweepRoom l.fn.self n → HasRowRoom l.row n × (2 * n + 2 ≤ vec_capacity l.below);
    }
