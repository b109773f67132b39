-- Each turn adds the lines of one type's section.
use Rattle.std.proofs.Common.{ℕ, refl, ◌∙◌, arith, subst}
use Rattle.mls_session.proofs.Common.{IsSection, Pool, layout_in}
use Rattle.mls_session.proofs.SavedSections.{count-all, count-first, count-next}
use Rattle.mls_session.proofs.design.Design.count_lines.Goals as goal

pub loop-number-init : goal.loop-number-init
loop-number-init c = record {
  pool = refl;
  from = omega arith;
  count = count-first c.args.tech.now (layout_in c.args.workspace.now.pool c.args.self.now.planes);
  few = omega arith;
  lists = record { home = c.requires.home; lists = tt };
}

pub loop-number-preserved : goal.loop-number-preserved
loop-number-preserved c =
    let turn = c.loop-number in
    let added = c.list_section-lines in
    let strips = added.new.workspace.pieces.items in
    let section =
    subst (λ (kind : ℕ). IsSection c.args.tech.now (layout_in c.args.workspace.now.pool c.args.self.now.planes) kind strips added.result) c.new-kind.ensures
    (subst (λ (pool : Pool). IsSection c.args.tech.now (layout_in pool c.args.self.now.planes) c.new-kind.result strips added.result) turn.invariant.pool added.ensures.section)
    in
    record {
      pool = added.ensures.pool ∙ turn.invariant.pool;
      from = omega arith;
      count =
          count-next c.args.tech.now (layout_in c.args.workspace.now.pool c.args.self.now.planes) turn.number strips added.result turn.invariant.from section turn.lines turn.invariant.count;
      few = omega (arith, turn.invariant.few, added.ensures.few);
      lists = added.ensures.lists;
    }

pub returns-clause-count : goal.returns-clause-count
returns-clause-count c =
    count-all c.args.tech.now (layout_in c.args.workspace.now.pool c.args.self.now.planes) c.loop-number.number c.loop-number.lines c.loop-number.invariant.count
    (omega (arith, c.loop-number-test.false, c.loop-number.auto.number-end, c.loop-number.invariant.from, c.types-types.ensures.value))
