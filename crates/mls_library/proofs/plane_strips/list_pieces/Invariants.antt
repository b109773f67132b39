use Rattle.std.proofs.Common.{◌≡◌, ◌≤◌, length, take}
use Rattle.mls_library.specs.CellFiles.{pieces_on}
use Rattle.mls_library.proofs.plane_strips.list_pieces.Given as goal

abbrev pub invariant-loop-rect : goal.invariant-loop-rect
invariant-loop-rect l = record {
  items : l.pieces.items ≡ pieces_on l.plane (take l.rect-index l.rects);
  few : length l.pieces.items ≤ l.rect-index;
}
