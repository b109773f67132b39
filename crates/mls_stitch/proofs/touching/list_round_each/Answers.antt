-- Round each piece in turn.
use Rattle.std.proofs.Common.{◌≡◌, ◌+◌, ◌++◌, ◌∷◌, [], length, take, inl, inr, ap, sym, ◌∙◌, subst, IfSome, Vec, Global, vec_capacity, arith}
use Rattle.mls_stitch.proofs.Common.{take_all, take_more, IsWithin, world, tiles_of, IsListedTo, block_at, LaidTile}
use Rattle.mls_stitch.proofs.Gathered.{AreMet-listed}
use Rattle.mls_stitch.proofs.ListedTiles.{length-le-AreLaid}
use Rattle.mls_stitch.proofs.Sides.{there-IsSomeAnd}
use Rattle.mls_stitch.proofs.TouchedTiles.{IsPassed, IsPassed-first, IsPassed-more, touched_inside, touched_keeps, touched_more}
use Rattle.mls_stitch.proofs.touching.list_round_each.Goals as goal
use Rattle.mls_stitch.proofs.touching.list_round_each.Goals.{then-not-is_searched+else-are_spent, else-not-is_searched}

pub list_all-requires : goal.list_all-requires
list_all-requires c =
    let tiles = tiles_of c.args.pool.now c.args.owner.now in
    let passed = take c.loop-piece.piece-index c.args.over.now in
    let listed = c.list_tiles.ensures.listed in
    let found = length-le-AreLaid tiles c.list_tiles.new.list.items (λ k d within. (listed.each k d within).laid) listed.once in
    let kept = touched_keeps (block_at tiles) passed c.loop-piece.entries.items c.free_room.new.entries.items c.loop-piece.invariant.touched c.free_room.ensures.keeps in
    record {
      room = elim c.free_room.ensures.free [
        | inl free ↦ omega (arith, free, c.len.ensures, ap length c.deref-then-not-is_searched.ensures.value, c.list_tiles.new.list.ok.0)
        | inr once ↦
            let few = length-le-AreLaid tiles c.free_room.new.entries.items kept.each once in
            omega (arith, few, found, ap length c.deref-then-not-is_searched.ensures.value, c.free_room.new.entries.ok.0, c.free_room.ensures.room, c.loop-piece.invariant.entries_room, c.requires.room, c.scratch.invariant.0, ap (λ s. s.room) c.scratch.view_is, c.clear.ensures.capacity)
      ];
    }

pub loop-piece-preserved : goal.loop-piece-preserved
loop-piece-preserved c =
    let tiles = tiles_of c.args.pool.now c.args.owner.now in
    let over = c.args.over.now in
    let i = c.loop-piece.piece-index in
    let piece = c.piece-item.result in
    let so_far = c.loop-piece.invariant in
    let more : take (i + 1) over ≡ take i over ++ piece ∷ [] = take_more over i piece c.loop-piece-test.true ∙ ap (λ p. take i over ++ p ∷ []) (sym c.piece-item.is) in
    elim c.if-not-is_searched.branch [
      | then-not-is_searched+else-are_spent w ↦
          let list = w.list_tiles.new.list in
          let kept = touched_keeps (block_at tiles) (take i over) c.loop-piece.entries.items w.free_room.new.entries.items so_far.touched w.free_room.ensures.keeps in
          let met =
          AreMet-listed (block_at tiles) w.grow.result list.items c.requires.plane.plane.tiling w.list_tiles.ensures.legal
          (subst (λ n. IsListedTo (block_at tiles) w.grow.result list.items n world.top) list.ok.0 w.list_tiles.ensures.listed) in
          let listed = rw w.deref-then-not-is_searched.ensures.value at w.list_all.ensures.listed in
          record {
            touched = rw (more, w.entries-is, listed) (touched_more tiles (take i over) piece w.grow.result list.items w.free_room.new.entries.items c.requires.plane.plane w.grow.ensures.squares met kept);
            last = rw (more, w.last-is) (IsPassed-first (take i over) piece);
            found_room = ap (λ (v : Vec LaidTile Global). vec_capacity v) w.found-is ∙ w.list_tiles.ensures.room ∙ so_far.found_room;
            entries_room = ap (λ (v : Vec LaidTile Global). vec_capacity v) w.entries-is ∙ w.list_all.ensures.room ∙ w.free_room.ensures.room ∙ so_far.entries_room;
          }
      | else-not-is_searched w ↦
          let (outer, is, within) = there-IsSomeAnd c.loop-piece.last (λ o. IsWithin o piece.rect) (c.is_searched.ensures w.if-not-is_searched.false) in
          let passed : IsPassed (take i over) outer = subst (λ o. IfSome o (IsPassed (take i over))) is so_far.last in
          record {
            touched = rw (more, w.entries-is) (touched_inside (block_at tiles) (take i over) piece outer c.loop-piece.entries.items passed within so_far.touched);
            last = rw (more, w.last-is, is) (IsPassed-more (take i over) piece outer passed);
            found_room = ap (λ (v : Vec LaidTile Global). vec_capacity v) w.found-is ∙ so_far.found_room;
            entries_room = ap (λ (v : Vec LaidTile Global). vec_capacity v) w.entries-is ∙ so_far.entries_room;
          }
    ]

pub returns-clause-touched : goal.returns-clause-touched
returns-clause-touched c reports =
    let over = c.args.over.now in
    let all : take c.loop-piece.piece-index over ≡ over = take_all c.loop-piece.piece-index over (omega arith) in
    rw all at c.loop-piece.invariant.touched
