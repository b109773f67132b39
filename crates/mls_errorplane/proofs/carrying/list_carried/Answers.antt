use Rattle.std.proofs.Common.{List, length, map, vec_capacity, ap, subst, ◌∙◌, arith}
use Rattle.std.proofs.lemmas.List.{length-map}
use Rattle.mls_errorplane.proofs.Common.{AreInArea, LaidTile, Rect, block_at, piece_like, room_of, tiles_of}
use Rattle.mls_errorplane.proofs.CarriedMarks.{Paints-like, fewer_than_room, length-found, within_room}
use Rattle.mls_errorplane.proofs.carrying.list_carried.Goals as goal

pub list_parts-requires-clause-fits : goal.list_parts-requires-clause-fits
list_parts-requires-clause-fits c =
    let pool = c.args.pool.now in
    let owner = c.args.plane.now in
    let few = length-found pool owner c.edge_of.result c.find_area.new.scratch.tiles c.find_area.ensures.found in
    let counted = rw c.owner.ensures at c.count.ensures in
    let fits = within_room (room_of pool owner) c.count.result (vec_capacity c.args.pieces.now) c.requires.plane.live counted.within c.requires.list_fits in
    omega (arith, few, counted.value, fits, ap length c.tiles.ensures)

pub returns-clause-painted : goal.returns-clause-painted
returns-clause-painted c =
    let pool = c.args.pool.now in
    let owner = c.args.plane.now in
    let found = subst (λ (e : Rect). AreInArea (block_at (tiles_of pool owner)) e c.find_area.new.scratch.tiles) c.edge_of.ensures c.find_area.ensures.found in
    Paints-like pool owner c.args.source.likeness c.args.source.rect c.args.rect c.find_area.new.scratch.tiles c.requires.plane c.requires.kinds found
    c.list_parts.new.pieces.items
    (c.list_parts.ensures.pieces ∙ ap (λ (list : List LaidTile). map (piece_like c.args.source.likeness c.args.rect) list) c.tiles.ensures)

pub returns-clause-few : goal.returns-clause-few
returns-clause-few c =
    let pool = c.args.pool.now in
    let owner = c.args.plane.now in
    let few = length-found pool owner c.edge_of.result c.find_area.new.scratch.tiles c.find_area.ensures.found in
    let counted = rw c.owner.ensures at c.count.ensures in
    let made = ap length c.list_parts.ensures.pieces ∙ length-map c.tiles.result.now (piece_like c.args.source.likeness c.args.rect) in
    fewer_than_room (room_of pool owner) (length c.list_parts.new.pieces.items) c.count.result (omega (arith, few, counted.value, made, ap length c.tiles.ensures)) counted.within
