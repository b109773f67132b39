use Rattle.std.proofs.Common.{inl, refl, rules, ◌∙◌}
use Rattle.mls_session.proofs.Common.{config_of, design_step}
use Rattle.mls_session.proofs.MovedRects.{rect_of-fits}
use Rattle.mls_session.proofs.design.Design.command.Goals as goal

pub returns-in-Box-clause-step : goal.returns-in-Box-clause-step
unfolding design_step
returns-in-Box-clause-step c =
    let made = c.new.ensures ∙ rect_of-fits c.in-Box.left c.in-Box.bottom c.in-Box.right c.in-Box.top (search rules) (search rules) (search rules) (search rules) in
    let set = rw made at (c.set_box.ensures.step c.args.workspace.now.pool (config_of c.args.setup.now c.args.workspace.now.pool)) in
    rw (c.in-Box.is, c.with.ensures.reply) (inl set)

pub returns-in-Save-clause-step : goal.returns-in-Save-clause-step
unfolding design_step
returns-in-Save-clause-step c = rw (c.in-Save.is, c.with-in-Save.ensures.reply, c.count_lines.ensures.pool, c.count_lines.ensures.count) (inl refl)

pub returns-in-Count-clause-step : goal.returns-in-Count-clause-step
unfolding design_step
returns-in-Count-clause-step c = rw (c.in-Count.is, c.with-in-Count.ensures.reply) (inl (c.count.ensures c.args.workspace.now.pool c.requires.ready.home))
