use Rattle.std.proofs.Common.{arith}
use Rattle.mls_session.proofs.MarkedTexts.{dirty_lines-few, mark_lines-few, marked_line_count-sum}
use Rattle.mls_session.proofs.layers.add_marked.Goals as goal

pub returns-clause-count : goal.returns-clause-count
returns-clause-count c layout picture all are =
    let tech = c.args.tech.now in
    omega (
      arith,
      c.dirty_line_count.ensures,
      c.mark_line_count.ensures,
      c.count_layers.ensures.count layout all,
      marked_line_count-sum tech layout c.args.areas.now picture c.args.marks.now are,
    )

pub overflow_add-others-2 : goal.overflow_add-others-2
overflow_add-others-2 c =
    let (picture, are) = c.requires.marks in
    omega (arith, c.dirty_line_count.ensures, c.mark_line_count.ensures, c.requires.areas, dirty_lines-few c.args.areas.now, mark_lines-few picture c.args.marks.now are)

pub overflow_add-result : goal.overflow_add-result
overflow_add-result c =
    let (picture, are) = c.requires.marks in
    omega (
      arith,
      c.dirty_line_count.ensures,
      c.mark_line_count.ensures,
      c.count_layers.ensures.few,
      c.requires.areas,
      dirty_lines-few c.args.areas.now,
      mark_lines-few picture c.args.marks.now are,
    )
