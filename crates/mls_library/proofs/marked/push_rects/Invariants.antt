use Rattle.std.proofs.Common.{Ok, take}
use Rattle.std.specs.declared.alloc.AllocError.{AllocError}
use Rattle.mls_library.specs.SavedCells.{Appends}
use Rattle.mls_library.proofs.MarkedTexts.{rects_text}
use Rattle.mls_library.proofs.marked.push_rects.Given as goal

-- the lines of the rectangles so far are there
abbrev pub invariant-loop-rect : goal.invariant-loop-rect
invariant-loop-rect l = Appends {T = Unit {0}} {E = AllocError} (Ok tt) l.fn.out l.out (rects_text (take l.rect-index l.rects))
