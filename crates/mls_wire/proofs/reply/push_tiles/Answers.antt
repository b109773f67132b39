use Rattle.std.proofs.Common.{get_or, refl}
use Rattle.mls_wire.specs.Replies.{tiles_text}
use Rattle.mls_wire.proofs.PushedTexts.{stops_at_piece}
use Rattle.mls_wire.proofs.reply.push_tiles.Goals as goal

pub returns-in_err-push_tile_count : goal.returns-in_err-push_tile_count
returns-in_err-push_tile_count c =
    let counts = c.args.counts.now in
    let i = c.loop-count.count-index in
    let so_far = c.loop-count.invariant in
    stops_at_piece c.from_residual.result c.args.out.now c.push_tile_count.new.out c.from_residual.ensures.0 tiles_text counts (get_or counts i 0) c.loop-count.out so_far.capacity
    c.in_err-push_tile_count.ensures.room c.in_err-push_tile_count.ensures.capacity i 0 c.loop-count-test.true refl so_far.text
