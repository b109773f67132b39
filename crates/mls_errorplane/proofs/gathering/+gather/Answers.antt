use Rattle.std.proofs.Common.{ap, subst, ◌∙◌}
use Rattle.std.proofs.lemmas.Result.{on_ok_weaker}
use Rattle.mls_errorplane.specs.Common.{GainViolations, Layout, Pool, flat_layout}
use Rattle.mls_errorplane.proofs.GatheredViolations.{GainViolations-halves}
use Rattle.mls_errorplane.proofs.gathering.+gather.Goals as goal

pub returns-in_default-clause-gathered : goal.returns-in_default-clause-gathered
returns-in_default-clause-gathered t c = c.in_ok-cut.ensures.gathered c.in_default.is

pub returns-clause-gathered : goal.returns-clause-gathered
returns-clause-gathered t c =
    let rules = c.args.context.now.rules.now in
    let shown = λ (pool : Pool). flat_layout pool c.args.context.now.uses c.args.planes.now in
    let layout = shown c.args.workspace.now.pool in
    let halves = rw c.in-Some.is at c.in_ok-cut.ensures.halves in
    let some = rw c.in-Some.is at c.in_ok-cut.ensures.some in
    let first = ap shown c.in_ok-cut.ensures.pool in
    let second = ap shown (c.in_ok-gather.ensures.pool ∙ c.in_ok-cut.ensures.pool) in
    on_ok_weaker c.gather-2.result
    (λ gains.
    GainViolations-halves rules c.args.of c.args.rect c.in-Some.parts.0 c.in-Some.parts.1 layout c.args.found.now c.gather_or_cut.new.found c.gather.new.found c.gather-2.new.found
    halves.squares some
    (subst (λ (l : Layout). GainViolations rules c.args.of c.in-Some.parts.0 l c.gather_or_cut.new.found c.gather.new.found) first c.in_ok-gather.ensures.gathered)
    (subst (λ (l : Layout). GainViolations rules c.args.of c.in-Some.parts.1 l c.gather.new.found c.gather-2.new.found) second gains))
    c.gather-2.ensures.gathered
