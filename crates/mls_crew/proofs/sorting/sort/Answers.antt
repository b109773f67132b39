use Rattle.std.proofs.Common.{Result, subst, arith}
use Rattle.mls_seat_lines.specs.mls_wire.declared.line.Line.{Line}
use Rattle.mls_seat_lines.specs.mls_wire.declared.line.LineFault.{LineFault}
use Rattle.mls_seat_lines.specs.SymbolTables.{book_in}
use Rattle.mls_crew.specs.Sorting.{SortsLine}
use Rattle.mls_crew.proofs.SortedLines.{Sorts-next}
use Rattle.mls_crew.proofs.sorting.sort.Goals as goal

pub loop-read-preserved : goal.loop-read-preserved
loop-read-preserved g c =
    let was = c.loop-read.invariant in
    let (next, line, is) = c.in_ok-sort_line.ensures.sorts in
    let book = book_in c.args.opener.now.symbols.now in
    let here = subst (λ (read : Result Line LineFault). SortsLine book c.loop-read.n c.loop-read.sorting.opened read next) c.read-item.is line in
    record {
      sorts = rw is (Sorts-next book c.args.script.now c.loop-read.read-index c.loop-read.n c.loop-read.sorting c.read-item.result next c.loop-read-test.true was.numbered was.sorts here);
      paired = c.in_ok-sort_line.ensures.paired;
      numbered = omega (arith, was.numbered);
    }
