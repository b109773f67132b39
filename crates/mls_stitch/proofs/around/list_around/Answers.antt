-- Round the squares that are lost, or round all touched tiles.
use Rattle.std.proofs.Common.{[], length, ap, arith}
use Rattle.mls_stitch.proofs.Common.{tiles_of, IsLost, Surround, IsHeld, block_at}
use Rattle.mls_stitch.proofs.AroundTiles.{Surround-fewer, Surround-keeps, Surround-keys, Surround-met, held_within, lost_all, lost_held, lost_none}
use Rattle.mls_stitch.proofs.ListedTiles.{length-le-AreLaid}
use Rattle.mls_stitch.proofs.around.list_around.Goals as goal
use Rattle.mls_stitch.proofs.around.list_around.Goals.{else-not-list_round_lost, then-not-list_round_lost+in-Some, then-not-list_round_lost+in_default}

-- however they were gathered, all round the lost squares are listed
gathered :
    (c : goal.After-sort_dedup)
    → Surround (block_at (tiles_of c.args.pool.now c.args.owner.now)) c.list_keys.new.keys.items
    (IsLost (block_at (tiles_of c.args.pool.now c.args.owner.now)) c.args.replacement.now.touched.now c.args.replacement.now.fresh.now) c.sort_dedup.new.entries.items
gathered c =
    let blocks = block_at (tiles_of c.args.pool.now c.args.owner.now) in
    let touched = c.args.replacement.now.touched.now in
    let lost = IsLost blocks touched c.args.replacement.now.fresh.now in
    let keys = c.list_keys.new.keys.items in
    let before : Surround blocks keys lost c.if-not-list_round_lost.entries.items = elim c.if-not-list_round_lost.branch [
      | then-not-list_round_lost+in-Some w ↦
          let bounds = w.in-Some.bounds in
          let held = IsHeld blocks touched in
          let added = rw (w.clear.ensures.items, w.deref-in-Some.ensures.value, w.deref-in-Some-2.ensures.value) at w.list_kept.ensures.kept in
          let met = Surround-met blocks keys held bounds w.grow.result w.scan_area.new.list.items c.requires.plane.plane.tiling
          (λ p one. held_within blocks bounds touched p w.in-Some.ensures.round one) w.grow.ensures.squares w.scan_area.ensures.found in
          rw (w.entries-is, added) (Surround-fewer blocks keys held lost _ met (λ p one. lost_held blocks touched c.args.replacement.now.fresh.now p one))
      | then-not-list_round_lost+in_default w ↦ rw (w.entries-is, w.clear.ensures.items)
          (lost_all blocks keys touched c.args.replacement.now.fresh.now 0 [] (omega (arith, ap length w.in_default.ensures.none)) (lost_none blocks keys touched c.args.replacement.now.fresh.now))
      | else-not-list_round_lost w ↦
          rw w.entries-is (rw c.deref.ensures.value at (c.list_round_lost.ensures.around w.if-not-list_round_lost.false))
    ] in
    Surround-keeps blocks keys lost c.if-not-list_round_lost.entries.items c.sort_dedup.new.entries.items before c.sort_dedup.ensures.keeps

pub returns-clause-around : goal.returns-clause-around
returns-clause-around c =
    let blocks = block_at (tiles_of c.args.pool.now c.args.owner.now) in
    let touched = c.args.replacement.now.touched.now in
    Surround-keys blocks c.list_keys.new.keys.items touched (IsLost blocks touched c.args.replacement.now.fresh.now) c.sort_dedup.new.entries.items c.list_keys.ensures.members (gathered c)

pub returns-clause-few : goal.returns-clause-few
returns-clause-few c =
    omega (arith, length-le-AreLaid (tiles_of c.args.pool.now c.args.owner.now) c.sort_dedup.new.entries.items (gathered c).each c.sort_dedup.ensures.once, c.sort_dedup.new.entries.ok.0)
