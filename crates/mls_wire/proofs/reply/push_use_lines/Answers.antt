use Rattle.mls_wire.specs.Replies.{use_text}
use Rattle.mls_wire.proofs.PushedTexts.{stops_at_piece}
use Rattle.mls_wire.proofs.reply.push_use_lines.Goals as goal

pub returns-in_err-push_use : goal.returns-in_err-push_use
returns-in_err-push_use g c =
    let line = use_text (g.N.Names.book c.args.names.now) in
    let cell_use = c.cell_use-item.result in
    stops_at_piece c.from_residual.result c.args.out.now c.push_use.new.out c.from_residual.ensures.0 line c.args.uses.now cell_use c.loop-cell_use.out c.loop-cell_use.invariant.capacity c.in_err-push_use.ensures.room c.in_err-push_use.ensures.capacity
    c.loop-cell_use.cell_use-index cell_use c.loop-cell_use-test.true c.cell_use-item.is c.loop-cell_use.invariant.text
