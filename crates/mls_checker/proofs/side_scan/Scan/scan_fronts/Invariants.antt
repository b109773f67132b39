-- The sink has gained what the sides of the tiles so far reach.
use Rattle.std.proofs.Common.{take}
use Rattle.mls_checker.specs.Copies.{copied_layout, plane_of}
use Rattle.mls_checker.proofs.FrontScans.{FrontsSoFar}
use Rattle.mls_checker.proofs.side_scan.Scan.scan_fronts.Given as goal

abbrev pub invariant-loop-index : goal.invariant-loop-index
invariant-loop-index g l =
    let tiles = (plane_of l.fn.self.snapshot.now l.fn.self.rule.now.trigger_plane).tiles in
    FrontsSoFar g.S.ViolationSink.represents l.fn.self.rule.now (copied_layout l.fn.self.snapshot.now) tiles l.fn.self.area l.fn.self.direction (take l.index tiles) l.fn.sink l.sink
