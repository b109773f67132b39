use Rattle.std.proofs.Common.{◌+◌, ◌-◌, refl, arith}
use Rattle.mls_kinds.specs.KindSets.{has_bit}
use Rattle.mls_checker.specs.Grids.{stacked}
use Rattle.mls_checker.proofs.Stacks.{no-stack, stack-more}
use Rattle.mls_checker.proofs.words.stack.Goals as goal

pub stacks-init : goal.stacks-init
stacks-init c = record {
  on = omega arith;
  within = omega arith;
  squares = λ r k. no-stack (stacked 16 c.args.stacks.now r k) (has_bit c.args.columns k) c.args.from r;
}

pub stacks-preserved : goal.stacks-preserved
stacks-preserved c = record {
  on = omega arith;
  within = omega arith;
  squares = λ r k. stack-more c.args.stacks.now c.stacks.stacks c.args.from c.stacks.row c.stacks.row (c.stacks.row + 16) c.args.columns _ r k (omega arith) refl
      (omega arith) (omega arith) (omega arith) refl (c.stacks.invariant.squares r k);
}

pub returns : goal.returns
returns c r k =
    stack-more c.args.stacks.now c.stacks.stacks c.args.from c.stacks.row (c.args.to - 16) c.args.to c.args.columns _ r k (omega arith) refl
    (omega arith) (omega arith) (omega arith) (omega arith) (c.stacks.invariant.squares r k)
