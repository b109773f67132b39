use Rattle.std.proofs.Common.{arith}
use Rattle.std.proofs.lemmas.List.{take_all}
use Rattle.mls_checker.proofs.Stacks.{lay-more, lay-none}
use Rattle.mls_checker.proofs.words.lay_out.Goals as goal

pub loop-row-init : goal.loop-row-init
loop-row-init c = record {
  same = omega arith;
  squares = λ r k. lay-none c.args.words.now c.args.stacks.now r k;
}

pub loop-row-preserved : goal.loop-row-preserved
loop-row-preserved c = record {
  same = omega (arith, c.lay_out_stack.auto.words, c.loop-row.invariant.same);
  squares = λ r k.
      lay-more c.args.words.now c.loop-row.words _ c.args.stacks.now c.loop-row.row r k c.loop-row.invariant.same c.loop-row-test.true (c.loop-row.invariant.squares r k)
      (c.lay_out_stack.ensures r k);
}

pub returns : goal.returns
returns c = λ r k. rw (take_all c.loop-row.row c.args.stacks.now c.loop-row-test.false) at (c.loop-row.invariant.squares r k)
