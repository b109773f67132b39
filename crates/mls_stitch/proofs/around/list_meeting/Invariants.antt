use Rattle.std.proofs.Common.{◌≡◌, ◌≤◌, filter, take, vec_len, vec_capacity}
use Rattle.mls_stitch.proofs.Common.{meets, LaidTile}
use Rattle.mls_stitch.proofs.around.list_meeting.Given as goal

abbrev pub invariant-loop-tile : goal.invariant-loop-tile
invariant-loop-tile l = record {
  found : l.found.items ≡ filter (λ (tile : LaidTile). meets tile.piece.rect l.area) (take l.tile-index l.tiles);
  len : vec_len l.found ≤ l.tile-index;
  room : vec_capacity l.found ≡ vec_capacity l.initial.found;
}
