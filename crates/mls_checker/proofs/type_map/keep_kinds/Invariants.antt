use Rattle.mls_checker.specs.Copies.{copied_layout}
use Rattle.mls_checker.specs.Maps.{AreTypeMaps}
use Rattle.mls_checker.proofs.type_map.keep_kinds.Given as goal

-- the maps so far show types of the snapshot
abbrev pub invariant-loop-number : goal.invariant-loop-number
invariant-loop-number l = AreTypeMaps l.fn.frame (copied_layout l.fn.snapshot) l.kept.items
