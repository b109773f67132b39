use Rattle.std.proofs.Common.{[], sym, ◌∙◌, rules, append-nil}
use Rattle.mls_session.proofs.Common.{kept_of, terms_of}
use Rattle.mls_session.proofs.MovedRects.{rect_of-fits}
use Rattle.mls_session.proofs.SessionLooks.{Looks-errors, Looks-violations, Looks-why}
use Rattle.mls_session.proofs.session.Session.look.Goals as goal

pub returns-in-Why-clause-looks : goal.returns-in-Why-clause-looks
returns-in-Why-clause-looks c =
    let pool = c.args.workspace.now.pool in
    let made = c.new-made.ensures ∙ rect_of-fits c.in-Why.left c.in-Why.bottom c.in-Why.right c.in-Why.top (search rules) (search rules) (search rules) (search rules) in
    let looks = rw made at c.look_at_rules.ensures.looks in
    rw c.in-Why.is ([], Looks-why (terms_of c.args.setup.now pool) (kept_of pool c.args.self.now) _ _ _ _ _ looks, sym (append-nil c.args.out.now.items))

pub returns-in-Errors-clause-looks : goal.returns-in-Errors-clause-looks
returns-in-Errors-clause-looks c =
    let pool = c.args.workspace.now.pool in
    let made = c.new-made-in-Errors.ensures ∙ rect_of-fits c.in-Errors.left c.in-Errors.bottom c.in-Errors.right c.in-Errors.top (search rules) (search rules) (search rules) (search rules) in
    let looks = rw made at c.look_at_errors.ensures.looks in
    rw c.in-Errors.is (Looks-errors (terms_of c.args.setup.now pool) (kept_of pool c.args.self.now) _ _ _ _ _ _ _ looks)

pub returns-in-Violations-clause-looks : goal.returns-in-Violations-clause-looks
returns-in-Violations-clause-looks c =
    let pool = c.args.workspace.now.pool in
    let made = c.new-made-in-Violations.ensures ∙ rect_of-fits c.in-Violations.left c.in-Violations.bottom c.in-Violations.right c.in-Violations.top (search rules) (search rules) (search rules) (search rules) in
    let looks = rw made at c.look_at_violations.ensures.looks in
    rw c.in-Violations.is ([], Looks-violations (terms_of c.args.setup.now pool) (kept_of pool c.args.self.now) _ _ _ _ _ looks, sym (append-nil c.args.out.now.items))
