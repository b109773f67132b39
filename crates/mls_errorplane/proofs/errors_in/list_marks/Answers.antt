use Rattle.std.proofs.Common.{List, length, ap, ◌∙◌, ◌∷◌, arith, filter_map}
use Rattle.mls_errorplane.specs.Common.{LaidTile, room_of, world}
use Rattle.mls_geom.proofs.WholePlanes.{space}
use Rattle.mls_errorplane.specs.ErrorsIn.{marked_part}
use Rattle.mls_errorplane.proofs.CarriedMarks.{length-found}
use Rattle.mls_errorplane.proofs.ErrorsIn.{filter_map-few, strips-parts, under_room}
use Rattle.mls_errorplane.proofs.errors_in.list_marks.Goals as goal

pub list_parts-requires : goal.list_parts-requires
list_parts-requires c =
    let pool = c.args.pool.now in
    let owner = c.args.plane.now in
    let few = length-found pool owner c.args.rect c.find_area.new.scratch.tiles c.find_area.ensures.found in
    let counted = rw c.owner.ensures at c.count.ensures in
    let fits = under_room (room_of pool owner) c.count.result _ c.requires.plane.live counted.within c.requires.list_fits in
    record { room = omega (arith, few, counted.value, fits, ap length c.tiles.ensures) }

pub returns-clause-marks : goal.returns-clause-marks
returns-clause-marks c strips covered =
    let listed = c.list_parts.ensures.pieces ∙ ap (λ (tiles : List LaidTile). space world ∷ filter_map (marked_part c.args.rect) tiles) c.tiles.ensures in
    strips-parts c.args.pool.now c.args.plane.now c.args.rect c.find_area.new.scratch.tiles c.requires.plane c.find_area.ensures.found c.list_parts.new.pieces.items strips listed covered

pub returns-clause-few : goal.returns-clause-few
returns-clause-few c =
    let pool = c.args.pool.now in
    let owner = c.args.plane.now in
    let few = length-found pool owner c.args.rect c.find_area.new.scratch.tiles c.find_area.ensures.found in
    let counted = rw c.owner.ensures at c.count.ensures in
    let fits = under_room (room_of pool owner) c.count.result _ c.requires.plane.live counted.within c.requires.sweep_fits in
    omega (
      arith,
      few,
      counted.value,
      fits,
      ap length c.tiles.ensures,
      ap length c.list_parts.ensures.pieces,
      filter_map-few (marked_part c.args.rect) c.tiles.result.now,
      c.find_area.ensures.rooms.pieces,
    )
