use Rattle.std.proofs.Common.{ℕ, Bool, List, map, take, subst, ap, ◌∙◌, arith}
use Rattle.std.specs.List.{list_any}
use Rattle.std.proofs.lemmas.List.{take_all}
use Rattle.mls_checker.specs.Copies.{copied_layout, plane_of}
use Rattle.mls_checker.specs.Marking.{GainsDisallowed}
use Rattle.mls_checker.specs.Tiles.{outer}
use Rattle.mls_checker.specs.Sides.{Side, faced, reaches_from, sides_reach}
use Rattle.mls_geom.specs.Directions.{axis}
use Rattle.mls_checker.proofs.FacedSides.{list_any-mapped, listed-IsSide}
use Rattle.mls_checker.proofs.Gathering.{gains_more, gains_same}
use Rattle.mls_checker.proofs.side_scan.Scan.scan_listed.Goals as goal

pub loop-side-preserved : goal.loop-side-preserved
loop-side-preserved g c =
    let rule = c.args.self.now.rule.now in
    let layout = copied_layout c.args.self.now.snapshot.now in
    let tiles = (plane_of c.args.self.now.snapshot.now rule.trigger_plane).tiles in
    let direction = c.args.self.now.direction in
    let area = c.args.self.now.area in
    let test : ℕ → ℕ → Side → Bool = λ u v side. reaches_from rule tiles area direction u v (faced direction side) in
    let side = c.side-item.result in
    gains_more g.S.ViolationSink.represents rule layout test c.args.sides.now c.loop-side.side-index side c.args.sink.now c.loop-side.sink c.scan_side.new.sink c.loop-side-test.true
    c.loop-side.invariant (subst (λ (s : Side). GainsDisallowed g.S.ViolationSink.represents rule layout (λ u v. test u v s) c.loop-side.sink c.scan_side.new.sink) c.side-item.is c.scan_side.ensures)

pub returns : goal.returns
returns g c =
    let rule = c.args.self.now.rule.now in
    let tiles = (plane_of c.args.self.now.snapshot.now rule.trigger_plane).tiles in
    let direction = c.args.self.now.direction in
    let area = c.args.self.now.area in
    let test : ℕ → ℕ → Side → Bool = λ u v side. reaches_from rule tiles area direction u v (faced direction side) in
    let sides = c.args.sides.now in
    gains_same g.S.ViolationSink.represents rule (copied_layout c.args.self.now.snapshot.now) (λ u v. list_any (test u v) (take c.loop-side.side-index sides))
    (λ u v. sides_reach rule tiles area (map (faced direction) sides) u v direction) c.args.sink.now c.loop-side.sink
    (λ u v. ap (λ (xs : List Side). list_any (test u v) xs) (take_all c.loop-side.side-index sides (omega (arith, c.loop-side-test.false)))
    ∙ list_any-mapped (reaches_from rule tiles area direction u v) (faced direction) sides)
    c.loop-side.invariant

pub scan_side-requires-clause-side : goal.scan_side-requires-clause-side
scan_side-requires-clause-side g c =
    let direction = c.args.self.now.direction in
    let plane = plane_of c.args.self.now.snapshot.now c.args.self.now.rule.now.trigger_plane in
    let picture = copied_layout c.args.self.now.snapshot.now c.args.self.now.rule.now.trigger_plane in
    listed-IsSide (axis direction) outer picture plane.tiles c.args.sides.now c.loop-side.side-index _ c.side-item.result c.requires.sides
    (omega (arith, c.loop-side-test.true)) c.side-item.is
