use Rattle.std.proofs.Common.{Ok, take}
use Rattle.std.specs.declared.alloc.AllocError.{AllocError}
use Rattle.mls_library.specs.SavedCells.{Appends}
use Rattle.mls_library.proofs.SavedTexts.{strips_text}
use Rattle.mls_library.proofs.saved.push_strips.Given as goal

-- the lines of the strips so far are there
abbrev pub invariant-loop-strip : goal.invariant-loop-strip
invariant-loop-strip l = Appends {T = Unit {0}} {E = AllocError} (Ok tt) l.fn.out l.out (strips_text l.kind (take l.strip-index l.strips))
