use Rattle.std.proofs.Common.{ap, sym, ◌∙◌}
use Rattle.mls_tech.specs.Readings.{read_lines}
use Rattle.mls_tech.proofs.ReadingLemmas.{read_lines-kept, read_lines-fault, read_lines-none, unless_memory}
use Rattle.mls_tech.proofs.tech.Tech.add_lines.Goals as goal

pub returns-in-Err-clause-err : goal.returns-in-Err-clause-err
returns-in-Err-clause-err c =
    let ahead = rw c.in-Some.is at c.in_ok-line.ensures.ok in
    unless_memory _ _ c.in-Err.ensures (λ fails.
    sym c.loop-line.invariant ∙ ap (read_lines c.loop-line.inside c.loop-line.self) ahead ∙ read_lines-fault _ _ _ _ _ fails)

pub loop-line-preserved : goal.loop-line-preserved
loop-line-preserved c =
    let ahead = rw c.in-Some.is at c.in_ok-line.ensures.ok in
    read_lines-kept _ _ _ _ _ c.in-Ok.ensures ∙ ap (read_lines c.loop-line.inside c.loop-line.self) (sym ahead) ∙ c.loop-line.invariant

pub returns-clause-ok : goal.returns-clause-ok
returns-clause-ok c =
    let ahead = rw c.in_default.is at c.in_ok-line.ensures.ok in
    sym c.loop-line.invariant ∙ ap (read_lines c.loop-line.inside c.loop-line.self) ahead.0 ∙ read_lines-none c.loop-line.inside c.loop-line.self
