use Rattle.std.proofs.Common.{◌≡◌, true, List, Contains, get_or, sym, ap, subst, ◌∙◌}
use Rattle.std.specs.List.{Any}
use Rattle.mls_geom.specs.Directions.{axis, front_of}
use Rattle.mls_geom.specs.Rects.{Rect, after_part, common, has_squares, holds}
use Rattle.mls_checker.specs.Copies.{copied_layout, plane_of}
use Rattle.mls_checker.specs.Marking.{GainsDisallowed}
use Rattle.mls_checker.specs.Sides.{IsThin, Side, faced, front_reaches, reaches_from}
use Rattle.mls_checker.specs.Tiles.{Tile, outer, space_in}
use Rattle.mls_checker.proofs.FlankParts.{after-thin, parts_none, thin_gain}
use Rattle.mls_checker.proofs.FrontScans.{IsRestOf, after-IsRestOf, made-IsFrontIn, rest-in}
use Rattle.mls_checker.proofs.side_scan.Scan.scan_front.Goals as goal

pub tile_at-found-requires : goal.tile_at-found-requires
tile_at-found-requires g c =
    let rule = c.args.self.now.rule.now in
    let tiles = (plane_of c.args.self.now.snapshot.now rule.trigger_plane).tiles in
    let tile = get_or tiles c.args.index (space_in outer) in
    let rest = c.parts.rest in
    subst (λ ts. Any (λ (t : Tile). holds t.area c.rest.inside.left c.rest.inside.bottom ≡ true) ts) (sym c.tiles-tiles.ensures.value)
    (subst (λ (e : Rect). Any (λ (t : Tile). holds t.area e.left e.bottom ≡ true) tiles) (sym c.rest.view_is)
    (c.tiles-tiles.ensures.tiles.whole rest.left rest.bottom (rest-in (front_of (axis c.args.self.now.direction) tile.area) outer rest c.parts.invariant.within (cc))))

pub scan_side-requires : goal.scan_side-requires
scan_side-requires g c =
    let front = made-IsFrontIn c.tile_at-found.result.1 c.part_in-part.result c.parts.rest c.front_side-side.result c.tiles-tiles.ensures.tiles (c.as_slice.ensures ∙ c.tiles-tiles.ensures.value)
    c.requires.listed c.index-as_slice-index.is (ap (λ (t : Tile). t.kind) c.tile.view_is) c.axis-in-parts.ensures c.parts.invariant.within (cc)
    (subst (λ (ts : List Tile). Contains ts c.tile_at-found.result.1) c.tiles-tiles.ensures.value c.tile_at-found.ensures.listed) (sym (ap (λ (r : Rect). holds c.tile_at-found.result.1.area r.left r.bottom) c.rest.view_is) ∙ c.tile_at-found.ensures.holds) (cc) c.front_side-side.ensures in
    record { near = c.requires.near; side = front.side; bounded = front.bounded }

pub parts-preserved : goal.parts-preserved
parts-preserved g c =
    let rule = c.args.self.now.rule.now in
    let tiles = (plane_of c.args.self.now.snapshot.now rule.trigger_plane).tiles in
    let tile = get_or tiles c.args.index (space_in outer) in
    let rest = c.parts.rest in
    let so_far = c.parts.invariant in
    let some : has_squares rest ≡ true = cc in
    let other = c.tile_at-found.result.1 in
    let part = c.part_in-part.result in
    let is_part : part ≡ record { area = common other.area rest; kind = other.kind } = cc in
    let corner : holds other.area rest.left rest.bottom ≡ true = sym (ap (λ (r : Rect). holds other.area r.left r.bottom) c.rest.view_is) ∙ c.tile_at-found.ensures.holds in
    let front = made-IsFrontIn other part rest c.front_side-side.result c.tiles-tiles.ensures.tiles (c.as_slice.ensures ∙ c.tiles-tiles.ensures.value) c.requires.listed
    c.index-as_slice-index.is (ap (λ (t : Tile). t.kind) c.tile.view_is) c.axis-in-parts.ensures so_far.within some
    (subst (λ (ts : List Tile). Contains ts other) c.tiles-tiles.ensures.value c.tile_at-found.ensures.listed) corner is_part c.front_side-side.ensures in
    let represents = g.S.ViolationSink.represents in
    let layout = copied_layout c.args.self.now.snapshot.now in
    let area = c.args.self.now.area in
    let gives = front_reaches rule tiles area c.args.self.now.direction tile.kind in
    let next = c.after_part-rest.result in
    let is_next : next ≡ after_part rest (common other.area rest) =
    c.after_part-rest.ensures ∙ ap (λ (t : Tile). after_part rest t.area) (c.part.view_is ∙ is_part) in
    let add : GainsDisallowed represents rule layout (λ x y. gives x y part) c.parts.sink c.scan_side.new.sink =
    subst (λ (s : Side). GainsDisallowed represents rule layout (λ x y. reaches_from rule tiles area c.args.self.now.direction x y (faced c.args.self.now.direction s)) c.parts.sink c.scan_side.new.sink) front.is c.scan_side.ensures in
    record {
      thin = subst IsThin (sym is_next) (after-thin rest other.area so_far.thin corner some);
      within = subst (IsRestOf (common (front_of (axis c.args.self.now.direction) tile.area) outer)) (sym is_next) (after-IsRestOf _ rest other.area so_far.within corner some);
      gains = λ last later. so_far.gains last
          (thin_gain represents rule layout gives c.parts.sink c.scan_side.new.sink last rest other part next some so_far.thin corner front.shown is_part is_next add later);
    }

pub returns-clause-gains : goal.returns-clause-gains
returns-clause-gains g c =
    let rule = c.args.self.now.rule.now in
    let tiles = (plane_of c.args.self.now.snapshot.now rule.trigger_plane).tiles in
    let tile = get_or tiles c.args.index (space_in outer) in
    c.parts.invariant.gains c.parts.sink
    (parts_none g.S.ViolationSink.represents rule (copied_layout c.args.self.now.snapshot.now) (front_reaches rule tiles c.args.self.now.area c.args.self.now.direction tile.kind) c.parts.rest c.parts.sink (cc))
