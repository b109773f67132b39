-- One search was enough, or several were gathered.
use Rattle.std.proofs.Common.{ap, arith}
use Rattle.mls_stitch.proofs.Common.{tiles_of, HasTouched, block_at}
use Rattle.mls_stitch.proofs.Gathered.{AreMet-MeetArea}
use Rattle.mls_stitch.proofs.ListedTiles.{length-le-AreLaid}
use Rattle.mls_stitch.proofs.TouchedTiles.{HasTouched-met, ListTouched-AreInArea, ListTouched-passed, touched_keeps}
use Rattle.mls_stitch.proofs.plane.Plane.touching.Goals as goal
use Rattle.mls_stitch.proofs.plane.Plane.touching.Goals.{else-not-list_round_each, then-not-list_round_each}

-- with no turns all tiles are such a list
pub returns-then-turns-eq0-clause-touched : goal.returns-then-turns-eq0-clause-touched
returns-then-turns-eq0-clause-touched c =
    ListTouched-AreInArea (tiles_of c.args.pool.now c.args.self.now) c.args.over.now c.strips_of.new.scratch.tiles c.requires.plane.plane c.strips_of.ensures.found

-- one search has found the tiles of the area, each once, and with them those that the pieces in it touch
pub returns-in-Some-clause-touched : goal.returns-in-Some-clause-touched
returns-in-Some-clause-touched c =
    let tiles = tiles_of c.args.pool.now c.args.self.now in
    let found = c.search.new.list.items in
    let met = AreMet-MeetArea (block_at tiles) c.grow-area.result found c.requires.plane.plane.tiling c.search.ensures.found.0 in
    ListTouched-passed (block_at tiles) c.args.over.now found
    (HasTouched-met tiles c.args.over.now c.in-Some.bounds c.grow-area.result found c.requires.plane.plane c.in-Some.ensures c.grow-area.ensures.squares met) c.search.ensures.found.1

pub returns-in-Some-clause-few : goal.returns-in-Some-clause-few
returns-in-Some-clause-few c =
    omega
    (arith, length-le-AreLaid (tiles_of c.args.pool.now c.args.self.now) c.search.new.list.items (λ k d within. (c.search.ensures.found.0.each k d within).laid) c.search.ensures.found.1)

-- however they were gathered, all touched tiles are listed
gathered : (c : goal.After-keep) → HasTouched (block_at (tiles_of c.args.pool.now c.args.self.now)) c.args.over.now c.sort_dedup.new.entries.items
gathered c =
    let blocks = block_at (tiles_of c.args.pool.now c.args.self.now) in
    let over = c.args.over.now in
    let before : HasTouched blocks over c.if-not-list_round_each.scratch-inside.tiles.items = elim c.if-not-list_round_each.branch [
      | then-not-list_round_each w ↦ rw w.scratch-inside-is (rw c.self.view_is at w.list_round_all.ensures.touched)
      | else-not-list_round_each w ↦ rw (w.scratch-inside-is, ap (λ s. s.tiles) c.scratch-2.view_is) (rw c.self.view_is at c.list_round_each.ensures.touched w.if-not-list_round_each.false)
    ] in
    touched_keeps blocks over c.if-not-list_round_each.scratch-inside.tiles.items c.sort_dedup.new.entries.items before c.sort_dedup.ensures.keeps

pub returns-clause-touched : goal.returns-clause-touched
returns-clause-touched c =
    ListTouched-passed (block_at (tiles_of c.args.pool.now c.args.self.now)) c.args.over.now c.sort_dedup.new.entries.items (gathered c) c.sort_dedup.ensures.once

pub returns-clause-few : goal.returns-clause-few
returns-clause-few c =
    omega (arith, length-le-AreLaid (tiles_of c.args.pool.now c.args.self.now) c.sort_dedup.new.entries.items (gathered c).each c.sort_dedup.ensures.once, c.sort_dedup.new.entries.ok.0)
