-- The rest is thin and goes on to the ends of the squares before the tile, and a sink that gains what the rest gives from here on gains what all of
-- them give.
use Rattle.std.proofs.Common.{◌+◌, ◌-◌, get_or}
use Rattle.mls_geom.specs.Directions.{axis, front_of}
use Rattle.mls_geom.specs.Rects.{common}
use Rattle.mls_checker.specs.Copies.{copied_layout, plane_of}
use Rattle.mls_checker.specs.Sides.{GainsParts, IsThin, front_reaches}
use Rattle.mls_checker.specs.Tiles.{outer, space_in}
use Rattle.mls_checker.proofs.FrontScans.{IsRestOf}
use Rattle.mls_checker.proofs.side_scan.Scan.scan_front.Given as goal

abbrev pub invariant-parts : goal.invariant-parts
invariant-parts g l =
    let tiles = (plane_of l.fn.self.snapshot.now l.fn.self.rule.now.trigger_plane).tiles in
    let tile = get_or tiles l.fn.index (space_in outer) in
    let front = common (front_of (axis l.fn.self.direction) tile.area) outer in
    let gives = front_reaches l.fn.self.rule.now tiles l.fn.self.area l.fn.self.direction tile.kind in
    record {
      thin : IsThin l.rest;
      within : IsRestOf front l.rest;
      gains : (last : g.row.S.Denot) → GainsParts g.S.ViolationSink.represents l.fn.self.rule.now (copied_layout l.fn.self.snapshot.now) gives l.rest l.sink last
          → GainsParts g.S.ViolationSink.represents l.fn.self.rule.now (copied_layout l.fn.self.snapshot.now) gives front l.fn.sink last;
    }

abbrev pub decreases-parts : goal.decreases-parts
decreases-parts g l = (l.rest.right - l.rest.left) + (l.rest.top - l.rest.bottom)
