use Rattle.std.proofs.Common.{ap, ◌∙◌}
use Rattle.mls_session.proofs.Common.{Design, checking_of, dirtied}
use Rattle.mls_session.proofs.design.Design.mark_dirty.Goals as goal

pub returns-in-Some-clause-checking : goal.returns-in-Some-clause-checking
returns-in-Some-clause-checking c = λ pool.
    rw c.in-Some.is
    (c.add.ensures.added pool ∙ ap (λ (s : Design). dirtied c.args.rules.now c.in-Some.rect (checking_of pool s.errors)) c.self.view_is)
