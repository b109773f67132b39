use Rattle.std.proofs.Common.{◌≡◌, ◌&&◌, true, sym, ap, subst, ◌∙◌}
use Rattle.mls_geom.specs.Rects.{Rect, common}
use Rattle.mls_checker.specs.Copies.{copied_layout, plane_of}
use Rattle.mls_checker.specs.Sides.{IsBefore, Side, faced, has_edges_along, reaches_from, side_reaches}
use Rattle.mls_checker.proofs.FacedSides.{part-IsBefore}
use Rattle.mls_checker.proofs.Gathering.{gains_nothing, gains_same}
use Rattle.mls_checker.proofs.side_scan.Scan.scan_side.Goals as goal

pub returns-then-not-has_edges_along : goal.returns-then-not-has_edges_along
returns-then-not-has_edges_along g c =
    let self = c.args.self.now in
    let rule = self.rule.now in
    let tiles = (plane_of self.snapshot.now rule.trigger_plane).tiles in
    let side = faced self.direction c.args.side.now in
    gains_nothing g.S.ViolationSink.represents rule (copied_layout self.snapshot.now) (λ u v. reaches_from rule tiles self.area self.direction u v side) c.args.sink.now
    (λ u v. ap (λ b. b && side_reaches rule tiles self.direction (common side.area self.area) u v) (sym c.has_edges_along.ensures ∙ c.if-not-has_edges_along.true))

pub add_to-requires-clause-before : goal.add_to-requires-clause-before
add_to-requires-clause-before g c =
    let self = c.args.self.now in
    let side = faced self.direction c.args.side.now in
    let picture = copied_layout self.snapshot.now self.rule.now.trigger_plane in
    let is : c.common.result ≡ common side.area self.area = c.common.ensures ∙ ap (λ (s : Side). common s.area self.area) (c.side.view_is ∙ c.faced-side.ensures) in
    subst (λ (s : Side). IsBefore self.direction picture c.common.result s.before) (sym c.faced-side.ensures)
    (subst (λ (e : Rect). IsBefore self.direction picture e side.before) (sym is) (part-IsBefore self.direction picture c.args.side.now self.area c.requires.side))

pub returns : goal.returns
returns g c =
    let self = c.args.self.now in
    let rule = self.rule.now in
    let tiles = (plane_of self.snapshot.now rule.trigger_plane).tiles in
    let side = faced self.direction c.args.side.now in
    let is : c.common.result ≡ common side.area self.area = c.common.ensures ∙ ap (λ (s : Side). common s.area self.area) (c.side.view_is ∙ c.faced-side.ensures) in
    let edges : has_edges_along rule side ≡ true = sym c.has_edges_along.ensures ∙ c.if-not-has_edges_along.false in
    gains_same g.S.ViolationSink.represents rule (copied_layout self.snapshot.now) (side_reaches rule tiles self.direction c.common.result) (λ u v. reaches_from rule tiles self.area self.direction u v side)
    c.args.sink.now c.add_to.new.sink
    (λ u v. ap (λ (e : Rect). side_reaches rule tiles self.direction e u v) is ∙ sym (ap (λ b. b && side_reaches rule tiles self.direction (common side.area self.area) u v) edges)) c.add_to.ensures
