use Rattle.std.proofs.Common.{◌≡◌, ◌≤◌, ◌++◌, take, vec_capacity}
use Rattle.std.specs.List.{flat_map}
use Rattle.mls_wire.specs.Replies.{tiles_text}
use Rattle.mls_wire.proofs.reply.push_tiles.Given as goal

-- the texts of the planes so far
abbrev pub invariant-loop-count : goal.invariant-loop-count
invariant-loop-count l = record {
  text : l.out.items ≡ l.fn.out.items ++ flat_map tiles_text (take l.count-index l.counts);
  capacity : vec_capacity l.fn.out ≤ vec_capacity l.out;
}
