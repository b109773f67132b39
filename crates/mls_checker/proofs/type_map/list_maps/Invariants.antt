use Rattle.mls_checker.specs.Copies.{copied_layout}
use Rattle.mls_checker.specs.Maps.{AreTypeMaps}
use Rattle.mls_checker.proofs.type_map.list_maps.Given as goal

-- the maps so far show types of the snapshot
abbrev pub invariant-loop-rule : goal.invariant-loop-rule
invariant-loop-rule l = AreTypeMaps l.fn.frame (copied_layout l.fn.snapshot) l.kept.items
