use Rattle.std.proofs.Common.{◌≡◌, ◌++◌, map, take}
use Rattle.mls_layout.proofs.CoveredBlocks.{clip}
use Rattle.mls_layout.proofs.own_pieces.push_own.Given as goal

-- the parts of the tiles so far are there
abbrev pub invariant-loop-tile : goal.invariant-loop-tile
invariant-loop-tile l = l.out.items ≡ l.fn.out.items ++ map (clip l.fn.rect) (take l.tile-index l.tile-items)
