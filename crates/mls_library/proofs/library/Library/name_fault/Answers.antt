use Rattle.std.proofs.Common.{rules}
use Rattle.mls_library.proofs.CellNames.{name_fault-cells}
use Rattle.mls_library.proofs.library.Library.name_fault.Goals as goal

pub returns-then-is_some : goal.returns-then-is_some
returns-then-is_some c = rw (name_fault-cells c.args.self.now c.args.name.now) (search rules)

pub returns-then-len-ge-MOST_CELLS : goal.returns-then-len-ge-MOST_CELLS
returns-then-len-ge-MOST_CELLS c = rw (name_fault-cells c.args.self.now c.args.name.now) (search rules)

pub returns : goal.returns
returns c = rw (name_fault-cells c.args.self.now c.args.name.now) (search rules)
