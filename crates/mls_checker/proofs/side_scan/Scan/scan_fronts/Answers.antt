use Rattle.std.proofs.Common.{◌≡◌, ◌<◌, List, get_or, length, ap, subst, ◌∙◌, arith}
use Rattle.std.proofs.lemmas.List.{get_or_default, take_all}
use Rattle.mls_checker.specs.Copies.{copied_layout, plane_of}
use Rattle.mls_checker.specs.Tiles.{Tile, outer, space_in}
use Rattle.mls_checker.proofs.FrontScans.{FrontsSoFar, fronts_all, fronts_more, fronts_none}
use Rattle.mls_checker.proofs.side_scan.Scan.scan_fronts.Goals as goal

pub loop-index-init : goal.loop-index-init
loop-index-init g c =
    let rule = c.args.self.now.rule.now in
    fronts_none g.S.ViolationSink.represents rule (copied_layout c.args.self.now.snapshot.now) (plane_of c.args.self.now.snapshot.now rule.trigger_plane).tiles c.args.self.now.area c.args.self.now.direction c.args.sink.now

pub scan_front-requires-clause-listed : goal.scan_front-requires-clause-listed
scan_front-requires-clause-listed g c =
    let items : c.as_slice-tiles.result.now ≡ (plane_of c.args.self.now.snapshot.now c.args.self.now.rule.now.trigger_plane).tiles = c.as_slice-tiles.ensures ∙ c.tiles.ensures.value in
    omega (arith, ap length items)

pub loop-index-preserved : goal.loop-index-preserved
loop-index-preserved g c =
    let rule = c.args.self.now.rule.now in
    let tiles = (plane_of c.args.self.now.snapshot.now rule.trigger_plane).tiles in
    let items : c.as_slice-tiles.result.now ≡ tiles = c.as_slice-tiles.ensures ∙ c.tiles.ensures.value in
    let index = c.loop-index.index in
    let within : index < length tiles = omega (arith, ap length items) in
    let tile = get_or tiles index (space_in outer) in
    fronts_more g.S.ViolationSink.represents rule (copied_layout c.args.self.now.snapshot.now) tiles c.args.self.now.area c.args.self.now.direction index tile c.args.sink.now c.loop-index.sink c.scan_front.new.sink
    c.scan_front.ensures.tiles within (get_or_default tiles index (space_in outer) tile within) c.loop-index.invariant c.scan_front.ensures.gains

pub returns : goal.returns
returns g c =
    let rule = c.args.self.now.rule.now in
    let layout = copied_layout c.args.self.now.snapshot.now in
    let tiles = (plane_of c.args.self.now.snapshot.now rule.trigger_plane).tiles in
    let items : c.as_slice-tiles.result.now ≡ tiles = c.as_slice-tiles.ensures ∙ c.tiles.ensures.value in
    fronts_all g.S.ViolationSink.represents rule layout tiles c.args.self.now.area c.args.self.now.direction c.args.sink.now c.loop-index.sink c.tiles.ensures.tiles
    (subst (λ (some : List Tile). FrontsSoFar g.S.ViolationSink.represents rule layout tiles c.args.self.now.area c.args.self.now.direction some c.args.sink.now c.loop-index.sink)
    (take_all c.loop-index.index tiles (omega (arith, ap length items))) c.loop-index.invariant)
