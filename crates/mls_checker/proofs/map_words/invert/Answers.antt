use Rattle.std.proofs.Common.{◌/◌, ◌%◌, arith, refl}
use Rattle.mls_checker.proofs.MapWords.{inverted-here, kept-there}
use Rattle.mls_checker.proofs.map_words.invert.Goals as goal

pub loop-row-preserved : goal.loop-row-preserved
loop-row-preserved c = record {
  done = λ r k less below. inverted-here c.args.map.now c.loop-row.map c.loop-row.row _ r k (omega arith) (omega arith) below refl (omega arith)
      (λ on. c.loop-row.invariant.rest r k on) (λ before. c.loop-row.invariant.done r k before below);
  rest = λ r k on. kept-there c.args.map.now c.loop-row.map c.loop-row.row _ r k (omega arith) (c.loop-row.invariant.rest r k (omega arith));
}

pub returns : goal.returns
returns c n below = c.loop-row.invariant.done (n / 64) (n % 64) (omega arith) (omega arith)
