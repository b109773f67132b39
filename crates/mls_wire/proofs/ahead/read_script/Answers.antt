use Rattle.std.proofs.Common.{◌++◌, ◌∷◌, [], Option, Result, List, ℕ, sym, ap, subst, ◌∙◌}
use Rattle.mls_wire.specs.Ahead.{SaysScript, ahead_says}
use Rattle.mls_wire.specs.LineReaders.{script_ahead}
use Rattle.mls_wire.specs.declared.line.Line.{Line}
use Rattle.mls_wire.specs.declared.line.LineFault.{LineFault}
use Rattle.mls_wire.proofs.AheadLemmas.{SaidSoFar, said_last, said_next}
use Rattle.mls_wire.proofs.ahead.read_script.Goals as goal

pub returns-in-LastLine-clause-said : goal.returns-in-LastLine-clause-said
returns-in-LastLine-clause-said g c =
    let book = g.N.Names.book c.args.names.now in
    let script = g.R.Read.remaining c.args.input.now.device in
    let items = c.in_ok-push_said-in-LastLine.ensures ∙ ap (λ (t : Option (List ℕ)). c.lines.said.items ++ ahead_says book t ∷ []) c.line.ensures in
    subst (λ (said : List (Result Line LineFault)). SaysScript book script said) (sym items)
    (said_last book script _ _ c.lines.said.items _ c.lines.invariant (rw c.in-LastLine.is at c.in_ok-next_line.ensures.taken))

pub lines-preserved : goal.lines-preserved
lines-preserved g c =
    let book = g.N.Names.book c.args.names.now in
    let script = g.R.Read.remaining c.args.input.now.device in
    let ahead = script_ahead c.next_line.new.self (g.R.Read.remaining c.next_line.new.input.device) in
    let items = c.in_ok-push_said-in-Line.ensures ∙ ap (λ (t : Option (List ℕ)). c.lines.said.items ++ ahead_says book t ∷ []) c.line-in-Line.ensures in
    subst (λ (said : List (Result Line LineFault)). SaidSoFar book script ahead said) (sym items)
    (said_next book script _ _ c.lines.said.items _ c.lines.invariant (rw c.in-Line.is at c.in_ok-next_line.ensures.taken))
