use Rattle.std.proofs.Common.{◌≡◌, ◌+◌, ◌-◌, ◌*◌, ◌/◌, ◌%◌, ◌||◌, ◌∙◌, length, sym, ap, arith}
use Rattle.std.proofs.Math.Bool.{or-false}
use Rattle.mls_checker.specs.Maps.{has_ahead, has_place}
use Rattle.mls_checker.proofs.MapSteps.{none-ahead, widened-into}
use Rattle.mls_checker.proofs.map_steps.add_wide.Goals as goal
use Rattle.mls_checker.proofs.map_steps.add_wide.Goals.{then-count-eq0-via-then-count-eq0, then-count-eq0-via-else-count-eq0+then-is_empty}

pub returns : goal.returns
returns c n within =
    let half = (c.args.count + 1) / 2 in
    let all : half + (c.args.count - half) ≡ c.args.count = omega arith in
    widened-into (has_place c.args.map.now) (has_place c.add_both.new.map) (has_place c.args.narrow.now) (has_place c.widen.new.map) c.args.places half (c.args.count - half)
    (64 * length c.args.map.now) (omega arith) (omega arith) (λ m few. c.widen.ensures m (omega (arith, few))) c.add_both.ensures n (rw all within)
    ∙ ap (λ k. has_place c.args.map.now n || has_ahead (has_place c.args.narrow.now) c.args.places k n) all

pub returns-then-count-eq0 : goal.returns-then-count-eq0
returns-then-count-eq0 c n within =
    let old = has_place c.args.map.now n in
    sym (or-false old) ∙ elim c.then-count-eq0.branch [
      | then-count-eq0-via-then-count-eq0 w ↦ ap (λ k. old || has_ahead (has_place c.args.narrow.now) c.args.places k n) (sym w.if-count-eq0.true)
      | then-count-eq0-via-else-count-eq0+then-is_empty w ↦ ap (λ b. old || b)
          (sym (none-ahead (has_place c.args.narrow.now) c.args.places c.args.count n (λ m. w.is_empty.ensures w.if-is_empty.true (m / 64) (m % 64))))
    ]
