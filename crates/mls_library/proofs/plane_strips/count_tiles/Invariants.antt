use Rattle.std.proofs.Common.{◌≡◌, ◌≤◌, ◌*◌, length, map, take}
use Rattle.mls_library.specs.Libraries.{most_tiles, total}
use Rattle.mls_library.proofs.plane_strips.count_tiles.Given as goal

abbrev pub invariant-loop-strips : goal.invariant-loop-strips
invariant-loop-strips l = record {
  count : l.count ≡ total (map (λ strips. length strips.items) (take l.strips-index l.planes));
  few : l.count ≤ most_tiles * l.strips-index;
}
