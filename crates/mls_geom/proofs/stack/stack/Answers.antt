-- Each iteration stacks one run more, whatever the picture is that the strips and the runs are of; that there is one keeps the indices and the lines legal.
use Rattle.mls_geom.proofs.Common.{◌≡◌, ◌-◌, ◌<◌, ◌∙◌, ap, length, set, vec_capacity, vec_len, arith, refl, false≢true}
use Rattle.mls_geom.specs.Sweep.Stacks.{extended}
use Rattle.mls_geom.proofs.RowStacking.{BeginsAt-found, IsRowStacked-new_strip, IsRowStacked-end, IsRowStacked-extended, IsRowStacked-start, IsStripUnder-named, length-lt-covered_count_of_row}
use Rattle.mls_geom.proofs.stack.stack.Goals as goal
use Rattle.mls_geom.proofs.stack.stack.Goals.{in-Some, in-None+else-len-limit}

pub loop-run-init : goal.loop-run-init
loop-run-init c = record {
  within = c.requires.within;
  room = refl;
  index_within = omega arith;
  stacked = λ picture. IsRowStacked-start (omega arith) c.requires.from c.requires.tall;
}

pub index_mut-requires : goal.index_mut-requires
index_mut-requires c =
    let (picture, stacked, runs, alike) = c.requires.drawn in
    let state = c.loop-run.invariant.stacked picture stacked runs alike in
    let (within, _) = IsStripUnder-named _ _ _ state (omega arith) (c.in-Some.ensures.found.0 refl) c.in-Some.ensures.strip in
    omega (arith, c.loop-run.strips.ok.0)

pub extend_to-requires-clause-above : goal.extend_to-requires-clause-above
extend_to-requires-clause-above c =
    let (picture, stacked, runs, alike) = c.requires.drawn in
    let state = c.loop-run.invariant.stacked picture stacked runs alike in
    let (_, under) = IsStripUnder-named _ _ _ state (omega arith) (c.in-Some.ensures.found.0 refl) c.in-Some.ensures.strip in
    let strip = c.index_mut.result.now in
    omega (arith, c.requires.tall, rw (← c.index_mut.ensures.value) at (under strip).low)

pub returns-then-len-limit-clause-too_many : goal.returns-then-len-limit-clause-too_many
returns-then-len-limit-clause-too_many c = λ picture stacked runs alike.
    let state = c.loop-run.invariant.stacked picture stacked runs alike in
    let within : c.loop-run.run-index < length c.loop-run.row = omega arith in
    let passed = c.strip_below.ensures in
    let begins = BeginsAt-found _ _ state within passed.passed passed.stopped (λ stands. false≢true (c.in-None.ensures.found.1 stands)) in
    omega (arith, length-lt-covered_count_of_row _ state within begins, c.loop-run.strips.ok.0)

pub loop-run-preserved : goal.loop-run-preserved
loop-run-preserved c =
    let within : c.loop-run.run-index < length c.loop-run.row = omega arith in
    let passed = c.strip_below.ensures in
    elim c.match-strip_below.branch [
      | in-Some w ↦
          let strip = w.index_mut.result.now in
          let written = w.extend_to.ensures ∙ ap (extended c.args.top) w.index_mut.ensures.value in
          let items = ap (λ strips. strips.items) w.strips-is ∙ ap (set c.loop-run.strips.items w.in-Some.strip) written in
          record {
            within = omega (arith, c.loop-run.invariant.within, ap vec_len w.strips-is);
            room = ap vec_capacity w.strips-is ∙ c.loop-run.invariant.room;
            index_within = passed.within;
            stacked = λ picture stacked runs alike.
                let state = c.loop-run.invariant.stacked picture stacked runs alike in
                let (strip_within, under) = IsStripUnder-named _ _ _ state within (w.in-Some.ensures.found.0 refl) w.in-Some.ensures.strip in
                rw (w.run-is, items) (IsRowStacked-extended _ strip _ _ state within passed.passed strip_within (under strip));
          }
      | in-None+else-len-limit w ↦
          let pushed = w.push_reserved.ensures in
          record {
            within = omega (arith, pushed.len, ap vec_len w.strips-is);
            room = ap vec_capacity w.strips-is ∙ pushed.capacity ∙ c.loop-run.invariant.room;
            index_within = passed.within;
            stacked = λ picture stacked runs alike.
                let state = c.loop-run.invariant.stacked picture stacked runs alike in
                let begins = BeginsAt-found _ _ state within passed.passed passed.stopped (λ stands. false≢true (w.in-None.ensures.found.1 stands)) in
                let last : w.len-in-None.result - 1 ≡ length c.loop-run.strips.items = omega (arith, w.len-in-None.ensures, pushed.len, c.loop-run.strips.ok.0) in
                rw (w.run-is, w.strips-is, pushed.items, w.between.ensures, last) (IsRowStacked-new_strip _ _ state within passed.passed begins);
          }
    ]

pub returns-clause-stacked : goal.returns-clause-stacked
returns-clause-stacked c = λ picture stacked runs alike. IsRowStacked-end (c.loop-run.invariant.stacked picture stacked runs alike) (omega arith)
