use Rattle.std.proofs.Common.{List, All, length, ap, subst, arith}
use Rattle.mls_errorplane.proofs.Common.{LaidTile, MeetArea, Rect, RunsThrough, block_at, tiles_of}
use Rattle.mls_errorplane.proofs.CarriedCounts.{IfSome-leads, LeavesRoom-all, LeavesRoom-found}
use Rattle.mls_errorplane.proofs.carrying.most_after.Goals as goal

pub returns-then-ge-clause-room : goal.returns-then-ge-clause-room
returns-then-ge-clause-room c =
    IfSome-leads c.most_beside-coarse.result
    (λ most is.
    LeavesRoom-all c.args.pool.now c.args.plane.now c.args.limit c.args.likeness c.args.rect most c.requires.strips c.area-lines.ensures.legal (omega (arith, is, c.tile_count-all.ensures)))
    c.most_beside-coarse.ensures

pub returns-clause-room : goal.returns-clause-room
returns-clause-room c =
    let pool = c.args.pool.now in
    let owner = c.args.plane.now in
    let rect = c.args.rect in
    let found = c.find_meeting.new.scratch.tiles in
    let are = subst (λ (e : Rect). MeetArea (block_at (tiles_of pool owner)) e found) c.rows_from.ensures c.find_meeting.ensures.found in
    let counted = ap length c.tiles-tiles.ensures in
    IfSome-leads c.most_beside.result
    (λ most is.
    LeavesRoom-found pool owner c.args.limit c.args.likeness rect most c.uneven_rows.result found c.requires.strips c.area-lines.ensures.legal are c.uneven_rows.ensures.some
    (λ less.
    let even = c.uneven_rows.ensures.even less in
    (subst (λ (list : List LaidTile). All (λ tile. RunsThrough rect tile.piece.rect) list) c.tiles-tiles.ensures even.0, even.1))
    (omega (arith, is, counted)))
    c.most_beside.ensures
