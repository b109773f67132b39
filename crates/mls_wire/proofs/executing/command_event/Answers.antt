use Rattle.mls_wire.proofs.OpenLines.{command_event-other}
use Rattle.mls_wire.proofs.executing.command_event.Goals as goal

pub returns-in_default : goal.returns-in_default
returns-in_default c = command_event-other c.args.id c.args.command c.in_default.not-Save
