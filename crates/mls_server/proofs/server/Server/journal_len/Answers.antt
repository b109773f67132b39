use Rattle.mls_server.proofs.AskedSessions.{journal_len-of}
use Rattle.mls_server.proofs.server.Server.journal_len.Goals as goal

pub returns : goal.returns
returns c = record { value = journal_len-of c.args.self.now c.args.id c.in_ok-journal.journal.now c.in_ok-journal.ensures.value }
