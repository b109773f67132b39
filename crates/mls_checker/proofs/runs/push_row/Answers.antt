use Rattle.std.proofs.Common.{◌+◌, ◌-◌, true≢false, length, sym, ap, ◌∙◌, arith}
use Rattle.mls_checker.specs.MarkMaps.{mapped}
use Rattle.mls_checker.proofs.RowRuns.{mapped-lines, next-is-run, row-done}
use Rattle.mls_checker.proofs.RunCounts.{FewRuns-more, counted-le, row-counts, run-counts}
use Rattle.mls_checker.proofs.runs.push_row.Goals as goal

pub push_run-requires-clause-run : goal.push_run-requires-clause-run
push_run-requires-clause-run c =
    let map = c.args.map.now in
    next-is-run (mapped map) map.rect c.args.row c.runs.from c.in-Some.left c.in-Some.right (λ x is. (mapped-lines map x c.args.row is).0) c.runs.invariant.starts c.in-Some.ensures.some

pub overflow_add-count : goal.overflow_add-count
overflow_add-count c =
    let map = c.args.map.now in
    let run = c.in-Some.ensures.some in
    let few = counted-le (mapped map) c.args.row map.rect.left c.runs.from in
    omega (arith, c.runs.invariant.count, few, c.runs.invariant.first, run.after, run.some, c.in-Some.ensures.within, c.runs.invariant.is_map.legal.right_in)

pub runs-preserved : goal.runs-preserved
runs-preserved c =
    let map = c.args.map.now in
    let run = c.in-Some.ensures.some in
    record {
      is_map = c.runs.invariant.is_map;
      first = omega (arith, c.runs.invariant.first, run.after, run.some);
      last = c.in-Some.ensures.within;
      starts = λ is. absurd (true≢false (sym is ∙ run.ends));
      have = c.in_ok-push_run.ensures.have;
      more = omega (arith, c.runs.invariant.more, c.in_ok-push_run.ensures.kept);
      few = FewRuns-more (mapped map) map.rect c.args.row c.runs.from c.in-Some.left c.in-Some.right (length c.runs.areas.items - length c.args.areas.now.items) _ run c.in-Some.ensures.within
          (omega (arith, c.runs.invariant.more, c.in_ok-push_run.ensures.few)) c.runs.invariant.few;
      count = ap (λ k. k + (c.in-Some.right - c.in-Some.left)) c.runs.invariant.count
          ∙ sym (run-counts (mapped map) c.args.row map.rect.left c.runs.from c.in-Some.left c.in-Some.right c.runs.invariant.first run);
    }

pub returns-clause-have : goal.returns-clause-have
returns-clause-have c =
    let map = c.args.map.now in
    row-done map.rect (mapped map) c.args.row c.runs.from c.runs.areas.items (λ x y is. (mapped-lines map x y is).0) c.in_default.ensures.none c.runs.invariant.have

pub returns-clause-count : goal.returns-clause-count
returns-clause-count c =
    let map = c.args.map.now in
    c.runs.invariant.count ∙ row-counts (mapped map) map.rect c.args.row c.runs.from c.runs.invariant.first c.runs.invariant.last c.in_default.ensures.none
