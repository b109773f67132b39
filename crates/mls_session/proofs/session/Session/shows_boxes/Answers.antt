use Rattle.std.proofs.Common.{subst}
use Rattle.mls_errorplane.proofs.GatheredMarks.{violations_are_marks}
use Rattle.mls_session.proofs.Common.{ErrorsReadBack, Session, config_of, kept_of, layout_of, terms_of}
use Rattle.mls_session.proofs.session.Session.shows_boxes.Goals as goal

pub returns-clause-errors_read_back : goal.returns-clause-errors_read_back
unfolding ErrorsReadBack
returns-clause-errors_read_back c pool =
    subst (λ (s : Session). ErrorsReadBack (terms_of c.args.setup.now pool) (kept_of pool s)) c.self.view_is (λ rect. c.reads_back.ensures.errors rect _)

pub returns-clause-violations_are_marks : goal.returns-clause-violations_are_marks
returns-clause-violations_are_marks c pool rect legal right none x y =
    let own = (kept_of pool c.args.self.now).own.design in
    violations_are_marks c.args.setup.now.rules rect (layout_of (config_of c.args.setup.now pool) own.drawn) own.checking c.as_slice.ensures.limit legal right none x y
