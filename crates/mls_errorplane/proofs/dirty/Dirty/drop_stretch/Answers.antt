use Rattle.std.proofs.Common.{ap, subst, sym, ◌∙◌, arith}
use Rattle.mls_errorplane.proofs.Common.{IsDirtyList, with_rest}
use Rattle.mls_errorplane.proofs.DroppedRows.{DropsAll-DropsIn}
use Rattle.mls_errorplane.proofs.StretchSteps.{DropsIn-kept}
use Rattle.mls_errorplane.proofs.dirty.Dirty.drop_stretch.Goals as goal

pub invariant_of-self : goal.invariant_of-self
invariant_of-self c =
    let old = c.args.self.now in
    let stretch = c.args.stretch.now in
    let drops = DropsAll-DropsIn stretch.rect stretch.pieces old (with_rest stretch.rest old) c.requires.1 in
    let items = c.replace_first.ensures.items ∙ ap (with_rest stretch.rest) c.self.view_is in (
      subst IsDirtyList (sym items) (DropsIn-kept stretch.rect stretch.pieces old (with_rest stretch.rest old) drops (subst IsDirtyList c.self.view_is c.self.invariant.0)),
      omega (arith, c.replace_first.ensures.room, c.self.invariant.1),
    )
