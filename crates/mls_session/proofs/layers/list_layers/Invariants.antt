use Rattle.std.proofs.Common.{◌≡◌, false, length, map, vec_capacity}
use Rattle.std.specs.List.{range_with_len}
use Rattle.mls_session.proofs.Common.{exceeds_tiles, flat_layout, strips_on}
use Rattle.mls_session.proofs.layers.list_layers.Given as goal

-- the first planes are listed, and none of them has too many tiles
abbrev pub invariant-loop-number : goal.invariant-loop-number
invariant-loop-number l = record {
  pool : l.workspace.pool ≡ l.fn.workspace.pool;
  listed : l.layers.items ≡ map (strips_on (flat_layout l.fn.workspace.pool l.uses l.fn.planes)) (range_with_len 0 l.number);
  count : length l.layers.items ≡ l.number;
  few : exceeds_tiles l.limit l.number (flat_layout l.fn.workspace.pool l.uses l.fn.planes) ≡ false;
  reserved : vec_capacity l.layers ≡ length l.fn.planes;
}
