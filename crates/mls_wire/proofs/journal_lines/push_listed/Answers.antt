use Rattle.std.proofs.Common.{Some}
use Rattle.mls_wire.specs.JournalLines.{type_word}
use Rattle.mls_wire.proofs.WrittenWords.{joined-pieces}
use Rattle.mls_wire.proofs.journal_lines.push_listed.Goals as goal

pub returns-in-Some : goal.returns-in-Some
returns-in-Some g c =
    let book = g.N.Names.book c.args.names.now in
    let pieces = joined-pieces (λ k. type_word book (Some k)) c.in-Some.kind c.next.new.self in
    rw (c.in-Some.ensures.steps, pieces) c.push_from.ensures
