use Rattle.std.proofs.Common.{ap, sym, ◌∙◌}
use Rattle.mls_edgerule.specs.PlaneTypes.{has_edges}
use Rattle.mls_edgerule.proofs.OnlyOne.{only_one-first, only_one-other}
use Rattle.mls_edgerule.proofs.plane_types.trigger_plane.Goals.{then-has_edges+else-is_some, else-has_edges}
use Rattle.mls_edgerule.proofs.plane_types.trigger_plane.Goals as goal

pub loop-number-preserved : goal.loop-number-preserved
loop-number-preserved c =
    let test = has_edges c.args.tech.now c.args.set c.args.other in
    elim c.if-has_edges.branch [
      | then-has_edges+else-is_some w ↦
          rw (w.found-is, c.new-plane.ensures) (sym (only_one-first test c.loop-number.found c.loop-number.number c.plane_count-number-end.result c.loop-number-test.true (ap test (sym c.new-plane.ensures) ∙ sym c.has_edges.ensures ∙ w.if-has_edges.true) (sym w.is_some.ensures ∙ w.if-is_some.false)) ∙ c.loop-number.invariant)
      | else-has_edges w ↦
          rw w.found-is (sym (only_one-other test c.loop-number.found c.loop-number.number c.plane_count-number-end.result c.loop-number-test.true (ap test (sym c.new-plane.ensures) ∙ sym c.has_edges.ensures ∙ w.if-has_edges.false)) ∙ c.loop-number.invariant)
    ]
