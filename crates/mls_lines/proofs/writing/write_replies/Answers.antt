use Rattle.mls_seat_lines.specs.SymbolTables.{book_in}
use Rattle.mls_lines.proofs.ReplyLemmas.{replies_front, replies_more, replies_none}
use Rattle.mls_lines.proofs.writing.write_replies.Goals as goal

pub loop-init : goal.loop-init
loop-init g c =
    replies_none g.N.Naming.terms (book_in g.N.Scripted.symbols) g.N.Scripted.script (g.W.Write.contents c.args.output.now.device)

pub loop-preserved : goal.loop-preserved
loop-preserved g c =
    let before = g.W.Write.contents c.loop.output.device in
    let after = g.W.Write.contents c.write_reply.new.output.device in
    rw c.in-Ok-write_reply.ensures.known
    (replies_more g.N.Naming.terms (book_in g.N.Scripted.symbols) g.N.Scripted.script (g.W.Write.contents c.args.output.now.device) before after
    c.loop.audited (record { text = c.in-Ok.reply.text.items; audited = c.in-Ok.reply.audited }) c.loop.invariant c.in-Ok.reply.is_reply c.in-Ok-write_reply.ensures.once)

pub returns-in-Err-clause-err : goal.returns-in-Err-clause-err
returns-in-Err-clause-err g c =
    let before = g.W.Write.contents c.loop.output.device in
    let after = g.W.Write.contents c.write_reply.new.output.device in
    replies_front g.N.Naming.terms (book_in g.N.Scripted.symbols) g.N.Scripted.script (g.W.Write.contents c.args.output.now.device) before after
    c.loop.audited (record { text = c.in-Ok.reply.text.items; audited = c.in-Ok.reply.audited }) c.loop.invariant c.in-Ok.reply.is_reply
    c.in-Err.ensures.front
