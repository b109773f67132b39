-- The right neighbours of the parent are passed from the top down.
use Rattle.std.proofs.Common.{◌≡◌, ◌<◌, ◌≤◌, ◌-◌, ◌∷◌, ◌++◌, [], Bool, true, false, ◌&&◌, is_le, is_lt, nat_cmp, max, length, List, Option, Some, ℕ, refl, sym, ap, ◌∙◌, subst, arith}
use Rattle.mls_stitch.proofs.Common.{nat_tests, get_or_append_left, get_or_read, length_push, Rect, IsRectangleIn, world, tile_in, tiles_of, Tile, IsFound, IsListedTo, IsParent, first_row, IsPlane, block_at, block_of, bottom_beyond, LaidTile, holds_between}
use Rattle.mls_stitch.proofs.Listings.{ArePassed, IsBeside, beside_next, child_fits, child_found, child_rows, led_there, listed_at_end, listed_past, listed_push, listed_skip, next_there, passed_more, passed_none}
use Rattle.mls_stitch.proofs.Sides.{legal-AreBlocks}
use Rattle.mls_stitch.proofs.enumeration.push_children.Goals as goal
use Rattle.mls_stitch.proofs.enumeration.push_children.Goals.{then-line-sides, else-line-sides}

pub returns-then-bounds-sides-clause-listed : goal.returns-then-bounds-sides-clause-listed
returns-then-bounds-sides-clause-listed c =
    let list = c.args.list.now.items in
    let parent = c.index.result.now in
    let within : c.args.index < length list = omega (arith, c.requires.within, c.args.list.now.ok.0) in
    let right : c.bounds.inside.right ≡ c.args.area.right = ap (λ (e : Rect). e.right) (c.bounds.view_is ∙ c.area-bounds.ensures.value) in
    let right' : c.sides.inside.right ≡ parent.piece.rect.right = ap (λ (e : Rect). e.right) (c.sides.view_is ∙ c.sides-sides.ensures.value) in
    listed_at_end (block_at (tiles_of c.args.pool.now c.args.owner.now)) c.args.area c.requires.plane.plane.tiling c.requires.legal list c.args.index world.top parent c.requires.listed
    (λ d. sym (get_or_read list c.args.index parent within c.index.ensures d)) within (omega (arith, right, right', c.if-bounds-sides.true))

pub neighbours-init : goal.neighbours-init
neighbours-init c =
    let tiles = tiles_of c.args.pool.now c.args.owner.now in
    let list = c.args.list.now.items in
    let parent = c.index.result.now in
    let bounds = c.bounds.view_is ∙ c.area-bounds.ensures.value in
    let sides = c.sides.view_is ∙ c.sides-sides.ensures.value in
    let within : c.args.index < length list = omega (arith, c.requires.within, c.args.list.now.ok.0) in
    let top : c.sides.inside.top ≡ parent.piece.rect.top = ap (λ (e : Rect). e.top) sides in
    let low = ap (λ (e : Rect). e.bottom) bounds in
    let low' = ap (λ (e : Rect). e.bottom) sides in
    let before_end : parent.piece.rect.right < c.args.area.right = omega (arith, ap (λ (e : Rect). e.right) bounds, ap (λ (e : Rect). e.right) sides, c.if-bounds-sides.false) in
    let none =
    passed_none tiles c.args.area c.requires.plane.plane c.requires.legal list c.args.index parent c.unwrap.result c.requires.listed within
    (λ d. sym (get_or_read list c.args.index parent within c.index.ensures d)) before_end (sym c.get.ensures ∙ c.unwrap.ensures) in
    record {
      passed = (parent, subst (λ n. ArePassed (block_at tiles) c.args.area list c.args.index n parent c.unwrap.result.tr) (sym top) none, omega (arith, low, low', c.max-last_row.ensures), top);
      longer = omega arith;
      room = refl;
    }

-- the tile that was read is the next right neighbour, and the test tells whether it is a child
record IsRead (tiles : List (ℕ × Tile)) (area : Rect) (list : List LaidTile) (index line : ℕ) (parent : LaidTile) (id : ℕ) (tile : Tile) (test : Bool) : Type 0 where
  beside : IsBeside (block_at tiles) area list index line parent (record { id = id; piece = block_of tiles tile })
  lower : tile.corner.y < line
  child : test ≡ true → IsFound (block_at tiles) area (record { id = id; piece = block_of tiles tile }) × IsParent area parent (record { id = id; piece = block_of tiles tile })
  other : test ≡ false → IsListedTo (block_at tiles) area list index tile.corner.y

in_rows : (low row high : ℕ) (test : Bool) → test ≡ (is_le (nat_cmp low row) && is_lt (nat_cmp row high)) → test ≡ true → (low ≤ row) × (row < high)
in_rows low row high test is passes = (grind (arith, nat_tests), grind (arith, nat_tests))

not_in_rows : (low row high : ℕ) (test : Bool) → test ≡ (is_le (nat_cmp low row) && is_lt (nat_cmp row high)) → test ≡ false → low ≤ row → row < high → ⊥
not_in_rows low row high test is fails above below = grind (arith, nat_tests)

step_read :
    {tiles : List (ℕ × Tile)} {area bounds : Rect} {list : List LaidTile} {index line last row id : ℕ} {parent : LaidTile} {next : Option ℕ} {slot : Option Tile} {tile : Tile} {test : Bool} → IsPlane tiles
    → IsRectangleIn world area → bounds ≡ area → ArePassed (block_at tiles) area list index line parent next → last ≡ first_row area parent → last < line → next ≡ Some id
    → slot ≡ tile_in tiles id → slot ≡ Some tile → row ≡ max tile.corner.y bounds.bottom → test ≡ (is_le (nat_cmp last row) && is_lt (nat_cmp row bounds.top))
    → (tile_in tiles id ≡ Some tile) × IsRead tiles area list index line parent id tile test
step_read {tiles} {area} {bounds} {list} {index} {line} {last} {row} {id} {parent} {next} {tile = tile} {test = test} plane inside is was is_last lower named got got_tile is_row is_test =
    let blocks = block_at tiles in
    let this : LaidTile = record { id = id; piece = block_of tiles tile } in
    let there : tile_in tiles id ≡ Some tile = sym got ∙ got_tile in
    let bottom = ap (λ (e : Rect). e.bottom) is in
    let top = ap (λ (e : Rect). e.top) is in
    let not_last : first_row area parent < line = omega (arith, is_last, lower) in
    let beside = beside_next tiles area plane inside list index line id parent next tile was not_last named there in (
      there,
      record {
        beside = beside;
        lower = omega (arith, (holds_between this.piece.rect parent.piece.rect.right (line - 1) beside.beside.held).2, not_last);
        child = λ passes.
            let (above, below) = in_rows last row bounds.top test is_test passes in
            child_found blocks area plane.tiling inside list index line parent this beside (omega (arith, bottom, is_last, is_row, above)) (omega (arith, bottom, top, is_row, below));
        other = λ fails. listed_skip blocks area plane.tiling inside list index line parent this beside (λ found is_parent.
            let (above, below) = child_rows blocks area plane.tiling inside parent this found is_parent in
            not_in_rows last row bounds.top test is_test fails (omega (arith, bottom, is_last, is_row, above)) (omega (arith, bottom, top, is_row, below)));
      },
    )

pub unwrap-id-requires : goal.unwrap-id-requires
unwrap-id-requires c =
    let (parent, was, last, _) = c.neighbours.invariant.passed in
    next_there (block_at (tiles_of c.args.pool.now c.args.owner.now)) c.args.area c.requires.plane.plane.tiling c.requires.legal c.neighbours.list.items c.args.index c.neighbours.line parent
    c.neighbours.next was (omega (arith, last, c.neighbours-test.true))

pub unwrap-tile-requires : goal.unwrap-tile-requires
unwrap-tile-requires c =
    let (parent, was, _, _) = c.neighbours.invariant.passed in
    rw c.get-in-neighbours.ensures
    (led_there (tiles_of c.args.pool.now c.args.owner.now) c.args.area c.requires.plane.plane c.requires.legal c.neighbours.next _ c.unwrap-id.result was.leads c.unwrap-id.ensures)

pub laid_to-requires : goal.laid_to-requires
laid_to-requires c =
    let tiles = tiles_of c.args.pool.now c.args.owner.now in
    let (parent, was, last, top) = c.neighbours.invariant.passed in
    let (there, step) = step_read c.requires.plane.plane c.requires.legal (c.bounds.view_is ∙ c.area-bounds.ensures.value) was last c.neighbours-test.true c.unwrap-id.ensures c.get-in-neighbours.ensures c.unwrap-tile.ensures (c.max.ensures ∙ ap (λ y. max y c.bounds.inside.bottom) c.row-bottom.ensures) c.contains.ensures.value in
    let high : c.if-line-sides.top ≡ bottom_beyond tiles c.unwrap-tile.result.rt = elim c.if-line-sides.branch [
      | then-line-sides w ↦ w.top-is ∙ sym (step.beside.told (omega (arith, top, w.if-line-sides.true)))
      | else-line-sides w ↦ w.top-is ∙ w.bottom_beyond-top.ensures
    ] in
    rw (c.left_beyond-right.ensures, high) (legal-AreBlocks (block_at tiles) c.unwrap-id.result (block_of tiles c.unwrap-tile.result) c.requires.plane.plane.tiling step.beside.beside.laid)

pub push_reserved-requires : goal.push_reserved-requires
push_reserved-requires c =
    let tiles = tiles_of c.args.pool.now c.args.owner.now in
    let (parent, was, last, top) = c.neighbours.invariant.passed in
    let (there, step) = step_read c.requires.plane.plane c.requires.legal (c.bounds.view_is ∙ c.area-bounds.ensures.value) was last c.neighbours-test.true c.unwrap-id.ensures c.get-in-neighbours.ensures c.unwrap-tile.ensures (c.max.ensures ∙ ap (λ y. max y c.bounds.inside.bottom) c.row-bottom.ensures) c.contains.ensures.value in
    let (found, is_parent) = step.child c.if-contains.true in
    let fits =
    child_fits tiles c.args.area c.requires.plane.plane c.requires.legal c.neighbours.list.items c.args.index c.neighbours.line c.unwrap-id.result parent c.unwrap-tile.result there step.beside
    found is_parent in
    omega (arith, fits, c.requires.room, c.neighbours.invariant.room, c.neighbours.list.ok.0)

pub neighbours-smaller-after-line-sides : goal.neighbours-smaller-after-line-sides
neighbours-smaller-after-line-sides c =
    let (_, was, last, _) = c.neighbours.invariant.passed in
    let (_, step) = step_read c.requires.plane.plane c.requires.legal (c.bounds.view_is ∙ c.area-bounds.ensures.value) was last c.neighbours-test.true c.unwrap-id.ensures c.get-in-neighbours.ensures c.unwrap-tile.ensures (c.max.ensures ∙ ap (λ y. max y c.bounds.inside.bottom) c.row-bottom.ensures) c.contains.ensures.value in
    omega (arith, step.lower, c.row-bottom.ensures)

pub neighbours-smaller : goal.neighbours-smaller
neighbours-smaller c =
    let (_, was, last, _) = c.neighbours.invariant.passed in
    let (_, step) = step_read c.requires.plane.plane c.requires.legal (c.bounds.view_is ∙ c.area-bounds.ensures.value) was last c.neighbours-test.true c.unwrap-id.ensures c.get-in-neighbours.ensures c.unwrap-tile.ensures (c.max.ensures ∙ ap (λ y. max y c.bounds.inside.bottom) c.row-bottom.ensures) c.contains.ensures.value in
    omega (arith, step.lower, c.row-bottom.ensures)

pub neighbours-preserved-after-line-sides : goal.neighbours-preserved-after-line-sides
neighbours-preserved-after-line-sides c =
    let tiles = tiles_of c.args.pool.now c.args.owner.now in
    let (parent, was, last, top) = c.neighbours.invariant.passed in
    let (there, step) = step_read c.requires.plane.plane c.requires.legal (c.bounds.view_is ∙ c.area-bounds.ensures.value) was last c.neighbours-test.true c.unwrap-id.ensures c.get-in-neighbours.ensures c.unwrap-tile.ensures (c.max.ensures ∙ ap (λ y. max y c.bounds.inside.bottom) c.row-bottom.ensures) c.contains.ensures.value in
    let high : c.if-line-sides.top ≡ bottom_beyond tiles c.unwrap-tile.result.rt = elim c.if-line-sides.branch [
      | then-line-sides w ↦ w.top-is ∙ sym (step.beside.told (omega (arith, top, w.if-line-sides.true)))
      | else-line-sides w ↦ w.top-is ∙ w.bottom_beyond-top.ensures
    ] in
    let list = c.neighbours.list.items in
    let this : LaidTile = record { id = c.unwrap-id.result; piece = block_of tiles c.unwrap-tile.result } in
    let is : c.laid_to.result ≡ this = c.laid_to.ensures ∙ rw (c.left_beyond-right.ensures, high) refl in
    let (found, is_parent) = step.child c.if-contains.true in
    let passed =
    passed_more tiles c.args.area c.requires.plane.plane c.requires.legal c.neighbours.list.items c.args.index c.neighbours.line c.unwrap-id.result parent c.unwrap-tile.result there step.beside
    (list ++ this ∷ []) (omega (arith, length_push list this, was.within)) (λ d. get_or_append_left list (this ∷ []) d c.args.index was.within ∙ was.here d)
    (listed_push (block_at tiles) c.args.area c.requires.plane.plane.tiling c.requires.legal list c.args.index c.neighbours.line parent this step.beside found is_parent) in
    record {
      passed = (parent, rw (c.push_reserved.ensures.items, is, c.row-bottom.ensures) passed, last, top);
      longer = omega (arith, c.neighbours.invariant.longer, c.push_reserved.ensures.len);
      room = c.push_reserved.ensures.capacity ∙ c.neighbours.invariant.room;
    }

pub neighbours-preserved : goal.neighbours-preserved
neighbours-preserved c =
    let tiles = tiles_of c.args.pool.now c.args.owner.now in
    let (parent, was, last, top) = c.neighbours.invariant.passed in
    let (there, step) = step_read c.requires.plane.plane c.requires.legal (c.bounds.view_is ∙ c.area-bounds.ensures.value) was last c.neighbours-test.true c.unwrap-id.ensures c.get-in-neighbours.ensures c.unwrap-tile.ensures (c.max.ensures ∙ ap (λ y. max y c.bounds.inside.bottom) c.row-bottom.ensures) c.contains.ensures.value in
    let passed =
    passed_more tiles c.args.area c.requires.plane.plane c.requires.legal c.neighbours.list.items c.args.index c.neighbours.line c.unwrap-id.result parent c.unwrap-tile.result there step.beside
    c.neighbours.list.items was.within was.here (step.other c.if-contains.false) in
    record {
      passed = (parent, rw c.row-bottom.ensures passed, last, top);
      longer = c.neighbours.invariant.longer;
      room = c.neighbours.invariant.room;
    }

pub returns-clause-listed : goal.returns-clause-listed
returns-clause-listed c =
    let (parent, was, last, _) = c.neighbours.invariant.passed in
    listed_past (block_at (tiles_of c.args.pool.now c.args.owner.now)) c.args.area c.requires.plane.plane.tiling c.requires.legal c.neighbours.list.items c.args.index c.neighbours.line parent was.listed
    was.here (omega (arith, last, c.neighbours-test.false))
