-- The keys ascend, so the search fails where a tile's key isn't listed, and the tile is added there.
use Rattle.std.proofs.Common.{◌≡◌, ◌==◌, ℕ, not, take, ap, sym, ◌∙◌, Vec, Global, vec_len, vec_capacity, arith}
use Rattle.mls_stitch.proofs.Common.{list_any, take_all, LaidTile}
use Rattle.mls_stitch.proofs.AroundTiles.{is_unlisted, unlisted_more, unlisted_skip}
use Rattle.mls_stitch.proofs.SortedTiles.{not_found}
use Rattle.mls_stitch.proofs.around.list_kept.Goals as goal
use Rattle.mls_stitch.proofs.around.list_kept.Goals.{then-is_err, else-is_err}

pub loop-tile-preserved : goal.loop-tile-preserved
loop-tile-preserved c =
    let i = c.loop-tile.tile-index in
    let tile = c.tile-item.result in
    let so_far = c.loop-tile.invariant in
    let unlisted : c.is_err.result ≡ is_unlisted c.args.keys.now tile =
    c.is_err.ensures.value
    ∙ not_found c.args.keys.now c.key.result c.binary_search.result c.requires.ascending c.binary_search.ensures.position
    ∙ ap (λ (k : ℕ). not (list_any (λ key. key == k) c.args.keys.now)) c.key.ensures in
    elim c.if-is_err.branch [
      | then-is_err w ↦ record {
        kept =
            unlisted_more c.args.keys.now c.args.found.now i tile c.args.entries.now.items c.loop-tile.entries.items _ c.loop-tile-test.true c.tile-item.is (sym unlisted ∙ w.if-is_err.true) so_far.kept
            (ap (λ (v : Vec LaidTile Global). v.items) w.entries-is ∙ w.push_reserved.ensures.items);
        len = omega (arith, ap (λ (v : Vec LaidTile Global). vec_len v) w.entries-is, w.push_reserved.ensures.len, so_far.len);
        room = ap (λ (v : Vec LaidTile Global). vec_capacity v) w.entries-is ∙ w.push_reserved.ensures.capacity ∙ so_far.room;
      }
      | else-is_err w ↦ record {
        kept =
            ap (λ (v : Vec LaidTile Global). v.items) w.entries-is
            ∙ unlisted_skip c.args.keys.now c.args.found.now i tile c.args.entries.now.items c.loop-tile.entries.items c.loop-tile-test.true c.tile-item.is (sym unlisted ∙ w.if-is_err.false) so_far.kept;
        len = omega (arith, ap (λ (v : Vec LaidTile Global). vec_len v) w.entries-is, so_far.len);
        room = ap (λ (v : Vec LaidTile Global). vec_capacity v) w.entries-is ∙ so_far.room;
      }
    ]

pub returns-clause-kept : goal.returns-clause-kept
returns-clause-kept c =
    let all : take c.loop-tile.tile-index c.args.found.now ≡ c.args.found.now = take_all c.loop-tile.tile-index c.args.found.now (omega arith) in
    rw all at c.loop-tile.invariant.kept
