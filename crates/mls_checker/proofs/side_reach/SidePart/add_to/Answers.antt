use Rattle.std.proofs.Common.{ap, ◌∙◌}
use Rattle.std.specs.List.{list_any}
use Rattle.mls_geom.specs.Directions.{across}
use Rattle.mls_geom.specs.Rects.{Rect, holds}
use Rattle.mls_checker.specs.Copies.{copied_layout, plane_of}
use Rattle.mls_checker.specs.Sides.{flank_blocks, rows_hold, side_reaches}
use Rattle.mls_checker.proofs.Gathering.{gains_both, gains_nothing}
use Rattle.mls_checker.proofs.NoReach.{gains_allowed_there, no_side-reaches}
use Rattle.mls_checker.proofs.ReachRectangles.{reached_in}
use Rattle.mls_checker.proofs.side_reach.SidePart.add_to.Goals as goal

pub returns-then-not-has_squares : goal.returns-then-not-has_squares
returns-then-not-has_squares g c =
    gains_nothing g.S.ViolationSink.represents c.args.self.now.rule.now (copied_layout c.args.self.now.snapshot.now) _ c.args.sink.now
    (λ u v. no_side-reaches c.args.self.now.rule.now (plane_of c.args.self.now.snapshot.now c.args.self.now.rule.now.trigger_plane).tiles c.args.self.now.direction c.args.self.now.area u v (cc))

pub returns-then-is_allowed_by : goal.returns-then-is_allowed_by
returns-then-is_allowed_by g c =
    let rule = c.args.self.now.rule.now in
    let tiles = (plane_of c.args.self.now.snapshot.now rule.trigger_plane).tiles in
    gains_allowed_there g.S.ViolationSink.represents rule (copied_layout c.args.self.now.snapshot.now) (side_reaches rule tiles c.args.self.now.direction c.args.self.now.area) c.args.sink.now
    (λ x y reaching. c.is_allowed_by.ensures c.if-is_allowed_by.true x y
    (ap (λ (e : Rect). holds e x y) c.reach_of-reach.ensures ∙ reached_in rule tiles c.args.self.now.direction c.args.self.now.area x y reaching))

pub returns : goal.returns
returns g c =
    gains_both g.S.ViolationSink.represents c.args.self.now.rule.now (copied_layout c.args.self.now.snapshot.now) (rows_hold c.args.self.now.direction c.args.self.now.rule.now.distance c.args.self.now.area)
    (λ u v. list_any (flank_blocks c.args.self.now.rule.now (plane_of c.args.self.now.snapshot.now c.args.self.now.rule.now.trigger_plane).tiles c.args.self.now.direction c.args.self.now.area u v) (across c.args.self.now.direction))
    c.args.sink.now c.add_rows.new.sink c.add_corners.new.sink c.add_rows.ensures c.add_corners.ensures
