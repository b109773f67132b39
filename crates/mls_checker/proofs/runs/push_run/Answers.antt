use Rattle.std.proofs.Common.{◌-◌, List, sym, subst, arith}
use Rattle.mls_geom.specs.Rects.{Rect}
use Rattle.mls_checker.specs.MarkMaps.{mapped}
use Rattle.mls_checker.specs.MarkRuns.{HaveBefore}
use Rattle.mls_checker.proofs.RowRuns.{mapped-lines, run-begins, run-goes-on}
use Rattle.mls_checker.proofs.runs.push_run.Goals as goal

pub has_run-requires-clause-first : goal.has_run-requires-clause-first
has_run-requires-clause-first c = (mapped-lines c.args.map.now c.args.left c.args.row (c.requires.run.all c.args.left (omega arith) c.requires.run.some)).0

pub has_run-requires-clause-last : goal.has_run-requires-clause-last
has_run-requires-clause-last c = (mapped-lines c.args.map.now c.args.left c.args.row (c.requires.run.all c.args.left (omega arith) c.requires.run.some)).1

pub returns-then-has_run-clause-have : goal.returns-then-has_run-clause-have
returns-then-has_run-clause-have c =
    run-goes-on c.args.map.now.rect (mapped c.args.map.now) (c.args.row - 1) c.args.row c.args.left c.args.right c.args.areas.now.items (omega arith) (c.has_run.ensures.has c.if-has_run.true)
    c.requires.run c.requires.have

pub returns-clause-have : goal.returns-clause-have
returns-clause-have c =
    let map = c.args.map.now in
    let row = c.args.row in
    let run = c.requires.run in
    let first = mapped-lines map c.args.left row (run.all c.args.left (omega arith) run.some) in
    let last = mapped-lines map (c.args.right - 1) row (run.all (c.args.right - 1) (omega (arith, run.some)) (omega (arith, run.some))) in
    subst (λ (areas : List Rect). HaveBefore map.rect (mapped map) row c.args.right areas) (sym {A = List Rect} c.in_ok-push.ensures.items)
    (run-begins map.rect (mapped map) row c.end_of_rise.result c.args.left c.args.right c.args.areas.now.items first.0 (omega (arith, last.1)) c.requires.on c.end_of_rise.ensures.within run.some
    c.end_of_rise.ensures.rise c.requires.have)
