-- Each turn counts the tiles of one plane more.
use Rattle.std.proofs.Common.{◌∷◌, ◌++◌, [], ℕ, List, sym, ap, ◌∙◌, arith}
use Rattle.mls_session.proofs.Common.{layout_in, tile_count, tile_counts, world}
use Rattle.mls_paint.proofs.OwnerFrames.{layout_in-at}
use Rattle.mls_session.proofs.FirstPlanes.{tile_counts-more}
use Rattle.mls_session.proofs.look.tile_counts.Goals as goal

pub loop-plane-preserved : goal.loop-plane-preserved
loop-plane-preserved c =
    let pool = c.args.pool.now in
    let planes = c.args.planes.now in
    let layout = layout_in pool planes in
    let turn = c.loop-plane in
    let shows = layout_in-at pool planes turn.plane-index c.plane-item.result c.loop-plane-test.true c.plane-item.is in
    let count = c.tile_count.ensures ∙ ap (tile_count world) (sym shows) in
    let so_far = ap (λ (counts : List ℕ). counts ++ c.tile_count.result ∷ []) turn.invariant.counts in
    let more = ap (λ (n : ℕ). tile_counts turn.plane-index layout ++ n ∷ []) count in
    record {
      counts = c.push_reserved.ensures.items ∙ so_far ∙ more ∙ sym (tile_counts-more turn.plane-index layout);
      count = omega (arith, c.push_reserved.ensures.len, turn.invariant.count);
      reserved = c.push_reserved.ensures.capacity ∙ turn.invariant.reserved;
    }
