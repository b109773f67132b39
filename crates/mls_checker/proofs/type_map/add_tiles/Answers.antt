use Rattle.std.proofs.Common.{◌||◌, List, ap, ◌∙◌, arith, rules}
use Rattle.std.proofs.lemmas.List.{take_all}
use Rattle.mls_checker.specs.Copies.{copied_layout}
use Rattle.mls_checker.specs.Grids.{in_kinds}
use Rattle.mls_checker.specs.Maps.{has_place, place_of}
use Rattle.mls_checker.specs.Tiles.{Tile}
use Rattle.mls_checker.proofs.TypeMaps.{shown-types}
use Rattle.mls_checker.proofs.type_map.add_tiles.Goals as goal

pub returns : goal.returns
returns c x y here =
    let items = c.as_slice-tile-items.result.now in
    let old = has_place c.args.map.now (place_of c.args.frame x y) in
    c.loop-tile.invariant x y here ∙ ap (λ (ts : List Tile). old || in_kinds ts c.args.types x y) (take_all c.loop-tile.tile-index items (omega arith))
    ∙ ap (λ (ts : List Tile). old || in_kinds ts c.args.types x y) (c.as_slice-tile-items.ensures ∙ c.tiles-tiles.ensures.value)
    ∙ ap (λ b. old || b) (shown-types c.args.frame (copied_layout c.args.snapshot.now c.args.plane) _ c.args.types x y (search rules) c.tiles-tiles.ensures.tiles here)
