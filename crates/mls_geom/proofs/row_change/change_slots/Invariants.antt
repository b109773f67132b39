-- Up to the slot the row is changed, whatever the picture is.
use Rattle.std.proofs.Common.{◌≡◌, ℕ, ◌-◌, ◌≤◌, Bool, slice_index, vec_len}
use Rattle.mls_geom.proofs.Definitions.{Picture, IsChanging, IsEnd, ShowsSlots, runs_of}
use Rattle.mls_geom.proofs.row_change.change_slots.Given as goal

abbrev pub invariant-loop-first : goal.invariant-loop-first
invariant-loop-first l = record {
  from : l.change.slots.first ≤ l.first;
  to : l.first ≤ l.change.slots.end;
  under_from : l.change.runs.first ≤ l.under;
  under_to : l.under ≤ l.change.runs.end;
  changing : (picture : Picture) (present : ℕ → Bool) (top : ℕ)
      → ShowsSlots l.slots.tree.now l.slots.lines.now picture present l.band.bottom l.change.slots
      → IsChanging picture l.band.bottom top (slice_index l.slots.lines.now l.change.slots.first) l.fn.strips.items l.row l.fn.next.items l.change.runs.first l.change.runs.first
      → IsChanging picture l.band.bottom top (slice_index l.slots.lines.now l.first) l.strips.items l.row l.next.items l.under l.change.runs.end × IsEnd picture l.band.bottom (slice_index l.slots.lines.now l.first);
  same_runs : runs_of l.strips.items l.row ≡ runs_of l.fn.strips.items l.row;
  within : vec_len l.strips ≤ l.band.limit;
}

abbrev pub decreases-loop-first : goal.decreases-loop-first
decreases-loop-first l = l.change.slots.end - l.first
