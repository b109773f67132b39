use Rattle.std.proofs.Common.{◌≡◌, take}
use Rattle.mls_paint.proofs.AreaKinds.{kinds_of}
use Rattle.mls_paint.proofs.planes.kinds.Given as goal

-- the kinds of the tiles so far
abbrev pub invariant-loop-tile : goal.invariant-loop-tile
invariant-loop-tile l = l.kinds ≡ kinds_of (take l.tile-index l.tile-items)
