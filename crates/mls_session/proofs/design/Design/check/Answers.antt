use Rattle.std.proofs.Common.{◌≡◌, Some, sym, ap, ◌∙◌}
use Rattle.mls_session.proofs.Common.{Design, check_in, checking_of, config_of, design_step, designed_of, dirty_after, drawn_of}
use Rattle.mls_session.specs.declared.reply.Reply.TheVariants.{Done}
use Rattle.mls_session.proofs.CommandSteps.{check_in-Some, edit_step-Done}
use Rattle.mls_session.proofs.design.Design.check.Goals as goal

pub returns-clause-step : goal.returns-clause-step
unfolding design_step
returns-clause-step c = λ pool.
    let design = c.args.self.now in
    let config = config_of c.args.setup.now pool in
    let is_set : design.box ≡ Some c.in-Some.rect = sym (ap (λ (d : Design). d.box) c.self.view_is) ∙ c.in-Some.is in
    let drawn = ap (λ (d : Design). drawn_of pool d) (sym c.mark_dirty.ensures.same) in
    edit_step-Done config (designed_of pool design) (designed_of pool c.mark_dirty.new.self) design.box (check_in (drawn_of pool design) design.box)
    (check_in-Some (drawn_of pool design) design.box c.in-Some.rect is_set ∙ ap (λ d. (d, Done)) drawn)
    (c.mark_dirty.ensures.checking pool ∙ ap (λ rect. dirty_after config.rules rect Done (checking_of pool design.errors)) (sym is_set))
