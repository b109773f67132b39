use Rattle.std.proofs.Common.{◌≡◌, map, take, vec_capacity}
use Rattle.mls_library.specs.Inner.{AreBuilt}
use Rattle.mls_library.proofs.library.build_planes.Given as goal

-- the planes so far are as the contract has all
abbrev pub invariant-loop-strips : goal.invariant-loop-strips
invariant-loop-strips l = record {
  built : AreBuilt l.fn.pool l.pool l.planes.items (map (λ list. list.items) (take l.strips-index l.strips));
  reserved : vec_capacity l.planes ≡ vec_capacity l.fn.planes;
  room : l.scratch.room ≡ l.fn.scratch.room;
}
