-- The rectangle round what the edges along a side reach.
use Rattle.std.proofs.Common.{◌≡◌, ℕ, ◌-◌, ◌<◌, ◌≤◌, true, ◌&&◌, nat_lt, max, inl, inr, List, arith}
use Rattle.std.specs.List.{list_any}
use Rattle.std.proofs.lemmas.Bool.{and_parts, or_cases}
use Rattle.std.proofs.lemmas.List.Folds.{Any-from_list_any}
use Rattle.mls_edgerule.specs.declared.edge_rule.EdgeRule.{EdgeRule}
use Rattle.std.proofs.lemmas.Bool.Decides.{nat_tests}
use Rattle.mls_geom.specs.Directions.{across, deepened}
use Rattle.mls_geom.specs.Rects.{Rect, common, has_squares, holds}
use Rattle.mls_geom.specs.declared.direction.Direction.{Direction}
use Rattle.mls_geom.specs.declared.direction.Direction.TheVariants.{Right, Up, Left, Down}
use Rattle.mls_geom.proofs.Across.{crosses, found_across}
use Rattle.mls_geom.proofs.Holds.{between_holds, has_squares_lines, holds_between}
use Rattle.mls_geom.proofs.ShiftedSquares.{positive_lt}
use Rattle.mls_kinds.specs.KindSets.{has_bit as has_type}
use Rattle.mls_checker.proofs.BlockSquares.{HasSquares, LinesHold}
use Rattle.mls_checker.specs.Sides.{blocks_hold, corner_blocks, flank_blocks, flank_of, reach_of, rows_hold, side_reaches, tile_blocks, widened}
use Rattle.mls_checker.specs.Tiles.{Tile}

-- the rectangle round the rows and corner blocks of edges along a side
abbrev Round : Direction → ℕ → ℕ → Rect → Rect
Round direction far c side = deepened direction far (widened direction c side)

-- rows lie in it
rows_round :
    (direction : Direction) (d c far : ℕ) (side : Rect) (x y : ℕ) → d - 1 ≤ far → holds (deepened direction (d - 1) side) x y ≡ true
    → holds (Round direction far c side) x y ≡ true
rows_round direction d c far side x y few here = grind (arith, nat_tests)

-- and corner blocks
blocks_lines :
    (direction flank : Direction) (c far : ℕ) (side area : Rect) (x y : ℕ) → crosses direction flank ≡ true → c - 1 ≤ far → 0 < c
    → HasSquares (common (flank_of direction flank side) area) → LinesHold (corner_blocks direction flank c (common (flank_of direction flank side) area)) x y
    → LinesHold (Round direction far c side) x y
blocks_lines Right flank c far side area x y cross few some squares here = grind arith
blocks_lines Up flank c far side area x y cross few some squares here = grind arith
blocks_lines Left flank c far side area x y cross few some squares here = grind arith
blocks_lines Down flank c far side area x y cross few some squares here = grind arith

-- what the edges along a side reach lies in the rectangle
pub reached_in :
    (rule : EdgeRule) (tiles : List Tile) (direction : Direction) (side : Rect) (x y : ℕ)
    → side_reaches rule tiles direction side x y ≡ true → holds (reach_of rule direction side) x y ≡ true
reached_in rule tiles direction side x y reaching =
    let d = rule.distance in
    let c = rule.corner_distance in
    let rows = rows_hold direction d side x y in
    let flanks = list_any (flank_blocks rule tiles direction side x y) (across direction) in
    elim (or_cases rows flanks reaching) [
      | inl in_rows ↦ (let some = and_parts (has_squares side) (nat_lt 0 d && holds (deepened direction (d - 1) side) x y) in_rows in
          let deep = and_parts (nat_lt 0 d) (holds (deepened direction (d - 1) side) x y) some.1 in
          rows_round direction d c (max d c - 1) side x y (omega arith) deep.1)
      | inr in_flanks ↦ (let flank = found_across direction (flank_blocks rule tiles direction side x y) in_flanks in
          let (k, tile, within, is, held) = Any-from_list_any (tile_blocks rule direction side x y flank.0) tiles flank.2 in
          let part = common (flank_of direction flank.0 side) tile.area in
          let parts = and_parts (has_type rule.corner_types tile.kind) (blocks_hold direction flank.0 c part x y) held in
          let squares = and_parts (has_squares part) (nat_lt 0 c && holds (corner_blocks direction flank.0 c part) x y) parts.1 in
          let blocks = and_parts (nat_lt 0 c) (holds (corner_blocks direction flank.0 c part) x y) squares.1 in
          let round = blocks_lines direction flank.0 c (max d c - 1) side tile.area x y flank.1 (omega arith) (positive_lt c blocks.0)
          (has_squares_lines part squares.0) (holds_between (corner_blocks direction flank.0 c part) x y blocks.1) in
          between_holds (reach_of rule direction side) x y round.0 round.1 round.2 round.3)
    ]
