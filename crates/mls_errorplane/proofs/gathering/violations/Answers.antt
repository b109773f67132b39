use Rattle.std.proofs.Common.{ap, subst, sym, ◌∙◌, arith}
use Rattle.mls_errorplane.proofs.Common.{GainViolations, Layout, Pool, flat_layout, strip_count}
use Rattle.mls_errorplane.proofs.GatheredViolations.{listed-violations, violations-none}
use Rattle.mls_errorplane.proofs.gathering.violations.Goals as goal

-- nothing is forbidden in the rectangle
pub returns-then-is_empty-clause-value : goal.returns-then-is_empty-clause-value
returns-then-is_empty-clause-value c =
    let layout = flat_layout c.args.workspace.now.pool c.args.context.now.uses c.args.planes.now in
    c.new.ensures.items ∙ sym (violations-none c.args.context.now.rules.now c.args.rect layout c.in_ok-violated.violated c.in_ok-violated.ensures.value (c.is_empty.ensures.rules.0 c.if-is_empty.true))

pub returns-then-is_empty-clause-within : goal.returns-then-is_empty-clause-within
returns-then-is_empty-clause-within c =
    let layout = flat_layout c.args.workspace.now.pool c.args.context.now.uses c.args.planes.now in
    let none = violations-none c.args.context.now.rules.now c.args.rect layout c.in_ok-violated.violated c.in_ok-violated.ensures.value (c.is_empty.ensures.rules.0 c.if-is_empty.true) in
    omega (arith, ap strip_count none)

pub returns : goal.returns
returns c =
    let rules = c.args.context.now.rules.now in
    let shown = λ (pool : Pool). flat_layout pool c.args.context.now.uses c.args.planes.now in
    let layout = shown c.args.workspace.now.pool in
    let violated = c.in_ok-violated.violated in
    let lent = ap shown c.in_ok-violated.ensures.pool in
    let gained = subst (λ (l : Layout). GainViolations rules violated c.args.rect l c.in_ok-found.found c.gather.new.found) lent c.in_ok-gather.ensures.gathered in
    let same = listed-violations rules violated c.args.rect layout c.in_ok-found.found c.gather.new.found c.in_ok-violated.ensures.value c.in_ok-found.ensures.none gained in
    let listed = c.list_violations.ensures in
    record {
      value = rw same at listed.value;
      within = rw same at listed.within;
      too_many = rw same at listed.too_many;
      pool = c.in_ok-gather.ensures.pool ∙ c.in_ok-violated.ensures.pool;
    }
