use Rattle.std.proofs.Common.{◌*◌, ◌/◌, ◌%◌, ◌∙◌, length, sym, arith}
use Rattle.mls_checker.specs.Maps.{has_place}
use Rattle.mls_checker.proofs.MapSteps.{gained-copy, none-ahead, one-wide, wider}
use Rattle.mls_checker.proofs.map_steps.widen.Goals as goal

pub passes-init : goal.passes-init
passes-init c = record {
  some = omega arith;
  few = omega arith;
  wide = λ n within. one-wide (has_place c.args.map.now) c.args.places n;
}

pub passes-preserved : goal.passes-preserved
passes-preserved c = record {
  some = omega arith;
  few = omega arith;
  wide = wider (has_place c.args.map.now) (has_place c.add_ahead.new.map) (has_place c.passes.map) c.args.places c.passes.wide c.min-more.result (64 * length c.args.map.now)
      (omega arith) (omega arith) c.passes.invariant.wide
      (gained-copy c.passes.map c.copy_from_slice.new.self c.add_ahead.new.map (c.args.places * c.min-more.result) (64 * length c.passes.map) (64 * length c.args.map.now) c.copy_from_slice.ensures.after (omega arith) c.add_ahead.ensures);
}

pub returns-then-is_empty : goal.returns-then-is_empty
returns-then-is_empty c n within =
    c.is_empty.ensures c.if-is_empty.true (n / 64) (n % 64) ∙ sym (none-ahead (has_place c.args.map.now) c.args.places c.args.count n (λ m. c.is_empty.ensures c.if-is_empty.true (m / 64) (m % 64)))
