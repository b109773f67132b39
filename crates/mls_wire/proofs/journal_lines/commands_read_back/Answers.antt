use Rattle.mls_wire.proofs.JournalLaws.{commands-are-lines, commands-read-back, steps-read-back}
use Rattle.mls_wire.proofs.journal_lines.commands_read_back.Goals as goal

pub returns-clause-commands : goal.returns-clause-commands
returns-clause-commands g c names = commands-read-back (g.N.Names.book c.args.names.now) names

pub returns-clause-lines : goal.returns-clause-lines
returns-clause-lines g c names = commands-are-lines (g.N.Names.book c.args.names.now) names

pub returns-clause-steps : goal.returns-clause-steps
returns-clause-steps g c = steps-read-back (g.N.Names.book c.args.names.now)
