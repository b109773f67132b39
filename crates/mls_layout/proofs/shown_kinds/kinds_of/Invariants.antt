use Rattle.std.proofs.Common.{◌≡◌, take}
use Rattle.mls_layout.proofs.CoveredKinds.{kinds_of}
use Rattle.mls_layout.proofs.shown_kinds.kinds_of.Given as goal

-- the kinds of the pieces so far
abbrev pub invariant-loop-piece : goal.invariant-loop-piece
invariant-loop-piece l = l.kinds ≡ kinds_of (take l.piece-index l.pieces)
