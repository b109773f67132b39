use Rattle.std.proofs.Common.{nat_lt, get_or, sym, ap, ◌∙◌}
use Rattle.mls_geom.specs.declared.direction.Direction.TheVariants.{Right}
use Rattle.mls_checker.specs.Copies.{copied_layout, plane_of}
use Rattle.mls_checker.specs.Sides.{flank_blocks}
use Rattle.mls_checker.specs.Tiles.{outer}
use Rattle.mls_checker.proofs.FlankParts.{flank_gain, listed_crosses}
use Rattle.mls_checker.proofs.Gathering.{gains_more, gains_nothing}
use Rattle.mls_checker.proofs.KnownKinds.{zero-from_test}
use Rattle.mls_checker.proofs.NoReach.{no_distance-blocks, no_types-blocks}
use Rattle.mls_checker.proofs.side_reach.SidePart.add_corners.Goals as goal
use Rattle.mls_checker.proofs.side_reach.SidePart.add_corners.Goals.{then-rule-eq0-via-then-rule-eq0, then-rule-eq0-via-else-rule-eq0+then-is_empty}

pub returns-then-rule-eq0 : goal.returns-then-rule-eq0
returns-then-rule-eq0 g c =
    let rule = c.args.self.now.rule.now in
    let tiles = (plane_of c.args.self.now.snapshot.now rule.trigger_plane).tiles in
    gains_nothing g.S.ViolationSink.represents rule (copied_layout c.args.self.now.snapshot.now) _ c.args.sink.now
    (λ u v. elim c.then-rule-eq0.branch [
      | then-rule-eq0-via-then-rule-eq0 w ↦ no_distance-blocks rule tiles c.args.self.now.direction c.args.self.now.area u v (ap (nat_lt 0) w.if-rule-eq0.true)
      | then-rule-eq0-via-else-rule-eq0+then-is_empty w ↦ no_types-blocks rule tiles c.args.self.now.direction c.args.self.now.area u v
          (zero-from_test rule.corner_types (sym w.is_empty.ensures.value ∙ w.if-is_empty.true))
    ])

pub loop-flank-preserved : goal.loop-flank-preserved
loop-flank-preserved g c =
    let rule = c.args.self.now.rule.now in
    let layout = copied_layout c.args.self.now.snapshot.now in
    let tiles = (plane_of c.args.self.now.snapshot.now rule.trigger_plane).tiles in
    let flank = get_or c.across-flank-items.result.now c.loop-flank.flank-index Right in
    gains_more g.S.ViolationSink.represents rule layout (flank_blocks rule tiles c.args.self.now.direction c.args.self.now.area)
    c.across-flank-items.result.now c.loop-flank.flank-index Right c.args.sink.now c.loop-flank.sink c.add_flank.new.sink c.loop-flank-test.true c.loop-flank.invariant
    (flank_gain g.S.ViolationSink.represents rule layout tiles outer c.args.self.now.area c.args.self.now.direction flank c.loop-flank.sink c.add_flank.new.sink
    c.add_flank.ensures.tiles c.requires.margin
    (listed_crosses c.args.self.now.direction c.across-flank-items.result.now c.loop-flank.flank-index Right c.across-flank-items.ensures c.loop-flank-test.true)
    c.add_flank.ensures.gains)
