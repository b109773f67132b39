-- The slots show the pieces visited, over nothing.
use Rattle.std.proofs.Common.{◌≡◌, ℕ, ◌+◌, ◌<◌, ◌≤◌, length, slice_index, take}
use Rattle.mls_geom.proofs.Definitions.{laid, AreActive, HaveBytes}
use Rattle.mls_geom.specs.Sweep.Slots.{shown}
use Rattle.mls_geom.proofs.ActivePieces.{pieces_at}
use Rattle.mls_geom.proofs.slots.paint_slots.Given as goal

abbrev pub invariant-loop-i : goal.invariant-loop-i
invariant-loop-i l = record {
  len : length l.kinds ≡ length l.fn.kinds;
  bytes : HaveBytes l.kinds;
  slot_kinds : (slot x y : ℕ) → AreActive l.pieces y l.active → slot < length l.kinds → slice_index l.lines slot ≤ x → x < slice_index l.lines (slot + 1)
      → laid (pieces_at l.pieces (take l.i-index l.active)) x y ≡ shown l.kinds slot;
}
