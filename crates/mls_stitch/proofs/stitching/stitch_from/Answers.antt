-- The list is parted where the fresh tiles begin, and two rounds set the four stitches.
use Rattle.std.proofs.Common.{◌∙◌, length, length-append, sym, ap, arith}
use Rattle.mls_stitch.proofs.SewnTiles.{AreTiledAs-sewn, AwaitStitches-split, ready, round}
use Rattle.mls_stitch.proofs.stitching.stitch_from.Goals as goal

pub split_at_mut-around-requires : goal.split_at_mut-around-requires
split_at_mut-around-requires c =
    let (blocks, around, fresh, is, long, waits) = c.requires.waits in
    omega (arith, ap length is, length-append around fresh, long, c.args.entries.now.ok.0, ap length c.deref_mut.ensures.value)

pub list_all-requires : goal.list_all-requires
list_all-requires c =
    omega (
      arith,
      ap length c.split_at_mut-around.ensures.value,
      length-append c.split_at_mut-around.result.0.now c.split_at_mut-around.result.1.now,
      c.split_at_mut-around.ensures.front_len,
      ap length c.deref_mut.ensures.value,
      c.requires.room,
      c.args.entries.now.ok.0,
    )

pub stitch_across-requires-clause-place : goal.stitch_across-requires-clause-place
stitch_across-requires-clause-place c =
    let (blocks, around, fresh, is, long, waits) = c.requires.waits in
    let parted = AwaitStitches-split is (sym c.deref_mut.ensures.value ∙ c.split_at_mut-around.ensures.value) (c.split_at_mut-around.ensures.front_len ∙ sym long) waits in
    (blocks, parted.place, parted.laid_around, parted.laid_fresh)

pub stitch_across-requires-2-clause-place : goal.stitch_across-requires-2-clause-place
stitch_across-requires-2-clause-place c =
    let (blocks, around, fresh, is, long, waits) = c.requires.waits in
    let parted = AwaitStitches-split is (sym c.deref_mut.ensures.value ∙ c.split_at_mut-around.ensures.value) (c.split_at_mut-around.ensures.front_len ∙ sym long) waits in
    let next = (round (ready parted) c.stitch_across.ensures.moved (c.stitch_across.ensures.sewn blocks) (λ sewn. sewn.onward.keeps)).1 in
    (blocks, next.place, next.laid_around, next.laid_fresh)

pub returns-clause-stitched : goal.returns-clause-stitched
returns-clause-stitched c = λ blocks around fresh is long waits.
    let parted = AwaitStitches-split is (sym c.deref_mut.ensures.value ∙ c.split_at_mut-around.ensures.value) (c.split_at_mut-around.ensures.front_len ∙ sym long) waits in
    let (first, one) = round (ready parted) c.stitch_across.ensures.moved (c.stitch_across.ensures.sewn blocks) (λ sewn. sewn.onward.keeps) in
    let second = c.stitch_across-2.ensures.sewn blocks one.place one.laid_around one.laid_fresh in
    AreTiledAs-sewn parted c.stitch_across.ensures.moved c.stitch_across-2.ensures.moved first second
