-- The sink has gained what the edges along the sides so far reach.
use Rattle.std.proofs.Common.{take}
use Rattle.std.specs.List.{list_any}
use Rattle.mls_checker.specs.Copies.{copied_layout, plane_of}
use Rattle.mls_checker.specs.Marking.{GainsDisallowed}
use Rattle.mls_checker.specs.Sides.{faced, reaches_from}
use Rattle.mls_checker.proofs.side_scan.Scan.scan_listed.Given as goal

abbrev pub invariant-loop-side : goal.invariant-loop-side
invariant-loop-side g l =
    GainsDisallowed g.S.ViolationSink.represents l.fn.self.rule.now (copied_layout l.fn.self.snapshot.now)
    (λ u v. list_any (λ side. reaches_from l.fn.self.rule.now (plane_of l.fn.self.snapshot.now l.fn.self.rule.now.trigger_plane).tiles l.fn.self.area l.fn.self.direction u v (faced l.fn.self.direction side)) (take l.side-index l.sides)) l.fn.sink l.sink
