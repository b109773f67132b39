-- Round the parts that each touched tile loses.
use Rattle.std.proofs.Common.{◌≡◌, ◌≤◌, ◌+◌, ◌++◌, ◌∷◌, [], take, get_or, length, inl, inr, refl, ap, sym, ◌∙◌, subst, Vec, Global, vec_capacity, arith}
use Rattle.mls_stitch.proofs.Common.{take_all, take_more, slice_get_read, Rect, world, tiles_of, IsListedTo, AreMet, block_at, LaidTile}
use Rattle.mls_stitch.proofs.AroundTiles.{IsLostBefore, IsOneOrPart, Surround-keeps, lost_all, lost_more, meeting_few, parts_more, parts_none, parts_skip, searched_few, searched_inside}
use Rattle.mls_stitch.proofs.Gathered.{AreMet-listed}
use Rattle.mls_stitch.proofs.ListedTiles.{length-le-AreLaid}
use Rattle.mls_stitch.proofs.ReplacedPlanes.{laid_as}
use Rattle.mls_stitch.proofs.around.list_round_lost.Goals as goal
use Rattle.mls_stitch.proofs.around.list_round_lost.Goals.{in-Some+else-are_spent, in_default, then-has_searched, else-has_searched}

pub list_meeting-requires : goal.list_meeting-requires
list_meeting-requires c =
    let replacement = c.args.replacement.now in
    let tiles = tiles_of c.args.pool.now c.args.owner.now in
    let all = searched_few tiles replacement.searched c.grow-round.result replacement.around.now c.requires.searched (c.has_searched.ensures c.if-has_searched.true) in
    record { room = omega (arith, all, c.loop-part.invariant.found_room, c.loop-id.invariant.found_room, c.requires.found_fit) }

pub list_kept-requires-clause-room : goal.list_kept-requires-clause-room
list_kept-requires-clause-room c =
    let tiles = tiles_of c.args.pool.now c.args.owner.now in
    let blocks = block_at tiles in
    let lost = IsLostBefore blocks c.args.replacement.now.touched.now c.args.replacement.now.fresh.now c.loop-id.id-index in
    let replacement = c.args.replacement.now in
    let found : length c.if-has_searched.found.items ≤ length tiles = elim c.if-has_searched.branch [
      | then-has_searched w ↦
          let all = searched_few tiles replacement.searched c.grow-round.result replacement.around.now c.requires.searched (c.has_searched.ensures w.if-has_searched.true) in
          rw (w.found-is, w.list_meeting.ensures.found) (omega (arith, all, meeting_few replacement.around.now c.grow-round.result))
      | else-has_searched w ↦
          let listed = w.list_tiles.ensures.listed in
          rw w.found-is (length-le-AreLaid tiles w.list_tiles.new.list.items (λ k d within. (listed.each k d within).laid) listed.once)
    ] in
    let kept = Surround-keeps blocks c.args.keys.now (IsOneOrPart lost (take c.loop-part.part-index c.parts_lost-parts.result)) c.loop-part.entries.items c.free_room.new.entries.items c.loop-part.invariant.around c.free_room.ensures.keeps in
    elim c.free_room.ensures.free [
      | inl free ↦ omega (arith, free, c.len.ensures, c.deref.ensures.len)
      | inr once ↦
          let few = length-le-AreLaid tiles c.free_room.new.entries.items kept.each once in
          omega (arith, few, found, c.deref.ensures.len, ap length c.deref.ensures.value, c.free_room.new.entries.ok.0, c.free_room.ensures.room, c.loop-part.invariant.entries_room, c.loop-id.invariant.entries_room, c.clear.ensures.capacity, c.requires.entries_fit)
    ]

pub loop-part-init : goal.loop-part-init
loop-part-init c = record { around = parts_none _ _ _ _ c.loop-id.invariant.around; found_room = refl; entries_room = refl }

pub loop-part-preserved : goal.loop-part-preserved
loop-part-preserved c =
    let tiles = tiles_of c.args.pool.now c.args.owner.now in
    let blocks = block_at tiles in
    let keys = c.args.keys.now in
    let lost = IsLostBefore blocks c.args.replacement.now.touched.now c.args.replacement.now.fresh.now c.loop-id.id-index in
    let parts = c.parts_lost-parts.result in
    let i = c.loop-part.part-index in
    let before = take i parts in
    let so_far = c.loop-part.invariant in
    let more : take (i + 1) parts ≡ before ++ get_or parts i c.part-item.result ∷ [] = take_more parts i c.part-item.result (omega (arith, c.loop-part-test.true, c.type_inv.part-items)) in
    elim c.match-part.branch [
      | in-Some+else-are_spent w ↦
          let round = w.grow-round.result in
          let part : Rect = w.in-Some.part in
          let replacement = c.args.replacement.now in
          let met : AreMet blocks round w.if-has_searched.found.items = elim w.if-has_searched.branch [
            | then-has_searched v ↦
                rw (v.found-is, v.list_meeting.ensures.found)
                (searched_inside blocks replacement.searched round replacement.around.now c.requires.plane.plane.tiling c.requires.searched (w.has_searched.ensures v.if-has_searched.true))
            | else-has_searched v ↦
                let list = v.list_tiles.new.list in
                rw v.found-is
                (AreMet-listed blocks round list.items c.requires.plane.plane.tiling v.list_tiles.ensures.legal
                (subst (λ n. IsListedTo blocks round list.items n world.top) list.ok.0 v.list_tiles.ensures.listed))
          ] in
          let room : vec_capacity w.if-has_searched.found ≡ vec_capacity c.loop-part.found = elim w.if-has_searched.branch [
            | then-has_searched v ↦ ap (λ (l : Vec LaidTile Global). vec_capacity l) v.found-is ∙ v.list_meeting.ensures.room
            | else-has_searched v ↦ ap (λ (l : Vec LaidTile Global). vec_capacity l) v.found-is ∙ v.list_tiles.ensures.room
          ] in
          let added = rw w.deref.ensures.value at w.list_kept.ensures.kept in
          let kept = Surround-keeps blocks keys (IsOneOrPart lost before) c.loop-part.entries.items w.free_room.new.entries.items so_far.around w.free_room.ensures.keeps in
          record {
            around =
                rw (more, w.in-Some.is, w.entries-is, added)
                (parts_more blocks keys lost before part round w.if-has_searched.found.items w.free_room.new.entries.items c.requires.plane.plane.tiling w.grow-round.ensures.squares met kept);
            found_room = ap (λ (v : Vec LaidTile Global). vec_capacity v) w.found-is ∙ room ∙ so_far.found_room;
            entries_room = ap (λ (v : Vec LaidTile Global). vec_capacity v) w.entries-is ∙ w.list_kept.ensures.room ∙ w.free_room.ensures.room ∙ so_far.entries_room;
          }
      | in_default w ↦ record {
        around = rw (more, w.in_default.is, w.entries-is) (parts_skip blocks keys lost before c.loop-part.entries.items so_far.around);
        found_room = ap (λ (v : Vec LaidTile Global). vec_capacity v) w.found-is ∙ so_far.found_room;
        entries_room = ap (λ (v : Vec LaidTile Global). vec_capacity v) w.entries-is ∙ so_far.entries_room;
      }
    ]

pub loop-id-preserved : goal.loop-id-preserved
loop-id-preserved c =
    let tiles = tiles_of c.args.pool.now c.args.owner.now in
    let blocks = block_at tiles in
    let touched = c.args.replacement.now.touched.now in
    let fresh = c.args.replacement.now.fresh.now in
    let parts = c.parts_lost-parts.result in
    let i = c.loop-id.id-index in
    let id = c.id-item.result in
    let there = slice_get_read touched (length touched) i id refl c.loop-id-test.true c.id-item.is in
    let here = (laid_as tiles id c.unwrap-whole.result (sym c.laid.ensures ∙ c.unwrap-whole.ensures)).1 in
    let all : take c.loop-part.part-index parts ≡ parts = take_all c.loop-part.part-index parts (omega arith) in
    let round = rw all at c.loop-part.invariant.around in
    record {
      around = lost_more blocks c.args.keys.now touched fresh i id c.unwrap-whole.result.piece c.rect_at.result parts c.loop-part.entries.items there here (rw c.loop-id.invariant.index at c.rect_at.ensures) c.parts_lost-parts.ensures round;
      index = omega (arith, c.loop-id.invariant.index);
      found_room = c.loop-part.invariant.found_room ∙ c.loop-id.invariant.found_room;
      entries_room = c.loop-part.invariant.entries_room ∙ c.loop-id.invariant.entries_room;
    }

pub returns-clause-around : goal.returns-clause-around
returns-clause-around c reports =
    let touched = c.args.replacement.now.touched.now in
    lost_all _ c.args.keys.now touched c.args.replacement.now.fresh.now c.loop-id.id-index c.loop-id.entries.items (omega arith) c.loop-id.invariant.around
