use Rattle.std.proofs.Common.{◌≡◌, ◌≤◌, length, map, vec_capacity}
use Rattle.mls_library.specs.Inner.{AreLayoutStrips}
use Rattle.mls_library.proofs.plane_strips.list_plane_strips.Given as goal

-- the planes so far have their strips
abbrev pub invariant-loop-number : goal.invariant-loop-number
invariant-loop-number l = record {
  strips : AreLayoutStrips l.limit l.rects (map (λ list. list.items) l.found.items);
  count : length l.found.items ≡ l.number;
  reserved : l.planes ≤ vec_capacity l.found;
  pieces_fit : length l.rects ≤ l.sweep.room;
  strips_fit : l.limit ≤ l.sweep.room;
}
