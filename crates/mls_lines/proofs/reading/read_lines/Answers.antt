use Rattle.std.proofs.Common.{arith, subst}
use Rattle.mls_seat_lines.specs.mls_wire.LineReaders.{script_ahead}
use Rattle.mls_seat_lines.specs.mls_wire.NextLines.{TakesKnownLine}
use Rattle.mls_seat_lines.specs.mls_wire.declared.reader.NextLine.{NextLine}
use Rattle.mls_lines.proofs.ReadingLemmas.{line_last, line_next, read_next}
use Rattle.mls_lines.proofs.reading.read_lines.Goals as goal

pub hand-requires-clause-numbered : goal.hand-requires-clause-numbered
hand-requires-clause-numbered g c = omega (arith, c.new.ensures.0, c.lines.invariant.some)

pub hand-requires-clause-line : goal.hand-requires-clause-line
hand-requires-clause-line g c =
    let old = script_ahead c.lines.reader (g.I.Read.remaining c.lines.input.device) in
    let new = script_ahead c.next_line.new.self (g.I.Read.remaining c.next_line.new.input.device) in
    let kept = c.next_line.new.self.line in
    let takes = subst (λ (next : NextLine). TakesKnownLine old new next kept) c.in-LastLine.is c.in_ok-next_line.ensures.taken in
    rw (c.new.ensures.0, c.new.ensures.1, c.line.ensures) (line_last g.N.Scripted.script old new c.lines.n kept c.lines.invariant.to takes)

pub hand-requires-in-Line-clause-numbered : goal.hand-requires-in-Line-clause-numbered
hand-requires-in-Line-clause-numbered g c = omega (arith, c.new-in-Line.ensures.0, c.lines.invariant.some)

pub hand-requires-in-Line-clause-line : goal.hand-requires-in-Line-clause-line
hand-requires-in-Line-clause-line g c =
    let old = script_ahead c.lines.reader (g.I.Read.remaining c.lines.input.device) in
    let new = script_ahead c.next_line.new.self (g.I.Read.remaining c.next_line.new.input.device) in
    let kept = c.next_line.new.self.line in
    let takes = subst (λ (next : NextLine). TakesKnownLine old new next kept) c.in-Line.is c.in_ok-next_line.ensures.taken in
    rw (c.new-in-Line.ensures.0, c.new-in-Line.ensures.1, c.line-in-Line.ensures) (line_next g.N.Scripted.script old new c.lines.n kept c.lines.invariant.to takes)

pub lines-preserved : goal.lines-preserved
lines-preserved g c =
    let old = script_ahead c.lines.reader (g.I.Read.remaining c.lines.input.device) in
    let new = script_ahead c.next_line.new.self (g.I.Read.remaining c.next_line.new.input.device) in
    let kept = c.next_line.new.self.line in
    let takes = subst (λ (next : NextLine). TakesKnownLine old new next kept) c.in-Line.is c.in_ok-next_line.ensures.taken in
    record {
      to = read_next g.N.Scripted.script old new c.lines.n kept c.lines.invariant.to takes;
      some = omega arith;
      numbered = omega (arith, c.lines.invariant.numbered, c.in_ok-next_line.ensures.fewer);
    }
