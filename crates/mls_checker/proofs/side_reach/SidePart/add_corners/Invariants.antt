-- The sink has gained the corner blocks on the flanks so far.
use Rattle.std.proofs.Common.{take}
use Rattle.std.specs.List.{list_any}
use Rattle.mls_checker.specs.Copies.{copied_layout, plane_of}
use Rattle.mls_checker.specs.Marking.{GainsDisallowed}
use Rattle.mls_checker.specs.Sides.{flank_blocks}
use Rattle.mls_checker.proofs.side_reach.SidePart.add_corners.Given as goal

abbrev pub invariant-loop-flank : goal.invariant-loop-flank
invariant-loop-flank g l =
    GainsDisallowed g.S.ViolationSink.represents l.fn.self.rule.now (copied_layout l.fn.self.snapshot.now)
    (λ u v. list_any (flank_blocks l.fn.self.rule.now (plane_of l.fn.self.snapshot.now l.fn.self.rule.now.trigger_plane).tiles l.fn.self.direction l.fn.self.area u v) (take l.flank-index l.flank-items)) l.fn.sink l.sink
