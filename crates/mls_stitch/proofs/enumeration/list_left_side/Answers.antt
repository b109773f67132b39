-- The tile with the side's square at the line is listed next.
use Rattle.std.proofs.Common.{◌≡◌, ◌∙◌, ap, subst, arith}
use Rattle.mls_stitch.proofs.Common.{Rect, tiles_of, block_at, IsLaidAt, holds_between}
use Rattle.mls_stitch.proofs.SideListings.{side_fits, side_push}
use Rattle.mls_stitch.proofs.enumeration.list_left_side.Goals as goal

pub push_reserved-requires : goal.push_reserved-requires
push_reserved-requires c =
    let tiles = tiles_of c.args.pool.now c.args.owner.now in
    let was = c.side.invariant in
    let sides : c.bounds.inside.top ≡ c.args.area.top = ap (λ (e : Rect). e.top) (c.bounds.view_is ∙ c.area-bounds.ensures.value) in
    let left : c.bounds.inside.left ≡ c.args.area.left = ap (λ (e : Rect). e.left) (c.bounds.view_is ∙ c.area-bounds.ensures.value) in
    let is =
    subst (λ x. IsLaidAt (block_at tiles) (record { x = x; y = c.side.line }) c.find_near-tile.result) left (subst (λ at. IsLaidAt (block_at tiles) at c.find_near-tile.result) c.at.ensures c.find_near-tile.ensures) in
    let fits =
    side_fits tiles c.args.area c.side.list.items c.side.line c.find_near-tile.result c.requires.plane.plane c.area-bounds.ensures.legal was.listed was.low (omega (arith, sides, c.side-test.true)) is in
    omega (arith, fits, was.room, c.clear.ensures.capacity, c.requires.room, c.side.list.ok.0)

pub side-preserved : goal.side-preserved
side-preserved c =
    let tiles = tiles_of c.args.pool.now c.args.owner.now in
    let was = c.side.invariant in
    let tile = c.find_near-tile.result in
    let high : c.bounds.inside.top ≡ c.args.area.top = ap (λ (e : Rect). e.top) (c.bounds.view_is ∙ c.area-bounds.ensures.value) in
    let left : c.bounds.inside.left ≡ c.args.area.left = ap (λ (e : Rect). e.left) (c.bounds.view_is ∙ c.area-bounds.ensures.value) in
    let top : c.sides.inside.top ≡ tile.piece.rect.top = ap (λ (e : Rect). e.top) (c.sides.view_is ∙ c.sides-sides.ensures.value) in
    let is =
    subst (λ x. IsLaidAt (block_at tiles) (record { x = x; y = c.side.line }) tile) left (subst (λ at. IsLaidAt (block_at tiles) at tile) c.at.ensures c.find_near-tile.ensures) in
    let lines = holds_between tile.piece.rect c.args.area.left c.side.line is.held in
    record {
      listed =
          rw (top, c.push_reserved.ensures.items)
          (side_push (block_at tiles) c.args.area c.side.list.items c.side.line c.requires.plane.plane.tiling c.area-bounds.ensures.legal was.listed tile was.low
          (omega (arith, high, c.side-test.true)) is);
      low = omega (arith, top, lines.3, was.low);
      room = c.push_reserved.ensures.capacity ∙ was.room;
    }
