use Rattle.std.proofs.Common.{ap, sym, ◌∙◌, arith}
use Rattle.mls_tech.specs.Readings.{lies_on_plane}
use Rattle.mls_tech.proofs.TypeTests.{set_of-below_none, set_of-below_more, set_of-below_same, set_of-below_all, lies_nowhere}
use Rattle.mls_tech.proofs.tech.Tech.plane_types.Goals.{then-lies_on, else-lies_on}
use Rattle.mls_tech.proofs.tech.Tech.plane_types.Goals as goal

pub loop-number-init : goal.loop-number-init
loop-number-init c = c.empty-set.ensures ∙ set_of-below_none (lies_on_plane c.args.self.now.type_planes c.args.plane)

pub loop-number-preserved : goal.loop-number-preserved
loop-number-preserved c =
    let lies = lies_on_plane c.args.self.now.type_planes c.args.plane in
    elim c.if-lies_on.branch [
      | then-lies_on w ↦
          let more = set_of-below_more lies c.loop-number.number (ap lies (sym c.new-kind.ensures) ∙ sym c.lies_on.ensures ∙ w.if-lies_on.true) in
          rw (w.set-is, w.union-set.ensures, c.loop-number.invariant, w.single.ensures, c.new-kind.ensures) more
      | else-lies_on w ↦
          let same = set_of-below_same lies c.loop-number.number (ap lies (sym c.new-kind.ensures) ∙ sym c.lies_on.ensures ∙ w.if-lies_on.false) in
          rw (w.set-is, c.loop-number.invariant) same
    ]

pub returns : goal.returns
returns c =
    c.loop-number.invariant
    ∙ set_of-below_all (lies_on_plane c.args.self.now.type_planes c.args.plane) c.loop-number.number (λ kind past. lies_nowhere _ _ kind (omega (arith, c.kinds-number-end.ensures.value)))
