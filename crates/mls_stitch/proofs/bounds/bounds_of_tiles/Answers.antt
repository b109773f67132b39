-- Each tile that was passed stays within the bounds as they grow.
use Rattle.std.proofs.Common.{ℕ, sym, ◌∙◌, subst}
use Rattle.mls_stitch.proofs.Common.{IfSome, take_all, IsWithin, joined, tiles_of, block_at}
use Rattle.mls_geom.proofs.JoinedRects.{IsWithin-joined_itself}
use Rattle.mls_stitch.proofs.Gathered.{grows_blocks, within_next}
use Rattle.mls_stitch.proofs.ReplacedPlanes.{laid_as}
use Rattle.mls_stitch.proofs.bounds.bounds_of_tiles.Goals as goal

pub loop-id-preserved : goal.loop-id-preserved
loop-id-preserved c =
    let blocks = block_at (tiles_of c.args.pool.now c.args.owner.now) in
    let bounds = c.loop-id.bounds in
    let id = c.id-item.result in
    let rect = c.unwrap.result.piece.rect in
    let here = (laid_as (tiles_of c.args.pool.now c.args.owner.now) id c.unwrap.result (sym c.laid-in-loop-id.ensures ∙ c.unwrap.ensures)).1 in
    within_next (λ b (key : ℕ). IfSome (blocks key) (λ block. IsWithin b block.rect)) bounds rect c.joined-bounds.result c.args.ids.now c.loop-id.id-index id c.joined-bounds.ensures
    c.loop-id-test.true c.id-item.is (grows_blocks blocks bounds rect)
    (subst (λ o. IfSome o (λ block. IsWithin (joined bounds rect) block.rect)) (sym here) (IsWithin-joined_itself bounds rect)) c.loop-id.invariant

pub returns-clause-round : goal.returns-clause-round
returns-clause-round c = rw (take_all c.loop-id.id-index c.args.ids.now c.loop-id-test.false) at c.loop-id.invariant
