use Rattle.std.proofs.Common.{refl, subst}
use Rattle.mls_session.proofs.Common.{HoldsOwnTypes, IsLegal, IsReady, Marks, MarksReadBack, Quota, Session, drawn_of, kept_of, layout_of, terms_of}
use Rattle.mls_session.specs.declared.look.Looked.TheVariants.{Marked, Refused}
use Rattle.mls_session.proofs.JournalledCommands.{seen}
use Rattle.mls_session.proofs.OwnTypes.{holds_layout, legal_own, own_cells}
use Rattle.mls_session.proofs.SessionLooks.{Looks-marks, Looks-marks-Quota, LooksMore}
use Rattle.mls_session.proofs.session.Session.look_at_marks.Goals as goal
use Rattle.mls_session.proofs.session.Session.look_at_marks.Goals.{After-mark_text}

pub returns-in-Ok-clause-looks : goal.returns-in-Ok-clause-looks
returns-in-Ok-clause-looks c =
    let pool = c.args.workspace.now.pool in
    let before = seen c.self.inside.design c.self.inside.journal in
    let terms = terms_of c.args.setup.now pool in
    let out = c.args.out.now.items in
    let longer = c.mark_text.new.out.items in
    subst (λ (s : Session). LooksMore terms (kept_of pool s) Marks (Marked c.in-Ok.lines) out longer) c.self.view_is
    (Looks-marks terms (kept_of pool before) c.in-Ok.lines out longer c.in-Ok.ensures.few c.in-Ok.ensures.count c.in-Ok.ensures.text)

pub returns-in-Err-TooMany-clause-looks : goal.returns-in-Err-TooMany-clause-looks
returns-in-Err-TooMany-clause-looks c =
    let pool = c.args.workspace.now.pool in
    let before = seen c.self.inside.design c.self.inside.journal in
    let terms = terms_of c.args.setup.now pool in
    let out = c.args.out.now.items in
    let longer = c.mark_text.new.out.items in
    subst (λ (s : Session). LooksMore terms (kept_of pool s) Marks (Refused Quota) out longer) c.self.view_is
    (Looks-marks-Quota terms (kept_of pool before) out longer (rw c.in-Err-TooMany.field-0-is at c.in-Err-TooMany.ensures.too_many) c.in-Err-TooMany.ensures.refused)

-- however it ends, the text reads back
reads_back :
    (c : After-mark_text) → IsLegal (terms_of c.args.setup.now c.args.workspace.now.pool) (kept_of c.args.workspace.now.pool c.args.self.now)
    → MarksReadBack (terms_of c.args.setup.now c.args.workspace.now.pool) (kept_of c.args.workspace.now.pool c.args.self.now)
reads_back c =
    let pool = c.args.workspace.now.pool in
    let setup = c.args.setup.now in
    let terms = terms_of setup pool in
    let holds = λ (s : Session) (ready : IsReady setup pool s) (legal : IsLegal terms (kept_of pool s)).
    let cells = own_cells setup pool ready.can_dump.own_types in
    holds_layout pool s.design.planes ready.home.layout.strips terms.config (drawn_of pool s.design) refl cells (legal_own terms cells (kept_of pool s) legal)
    in
    λ legal. subst (λ (s : Session). HoldsOwnTypes terms.config.tech (layout_of terms.config (drawn_of pool s.design)) → MarksReadBack terms (kept_of pool s)) c.self.view_is (c.reads_back.ensures.marked _ _)
    (holds c.args.self.now c.requires.ready legal)

pub returns-in-Ok-clause-reads_back : goal.returns-in-Ok-clause-reads_back
returns-in-Ok-clause-reads_back c = reads_back (goal.at.returns-in-Ok-clause-reads_back c).After-mark_text

pub returns-in-Err-TooMany-clause-reads_back : goal.returns-in-Err-TooMany-clause-reads_back
returns-in-Err-TooMany-clause-reads_back c = reads_back (goal.at.returns-in-Err-TooMany-clause-reads_back c).After-mark_text

pub returns-in-Err-Memory-clause-reads_back : goal.returns-in-Err-Memory-clause-reads_back
returns-in-Err-Memory-clause-reads_back c = reads_back (goal.at.returns-in-Err-Memory-clause-reads_back c).After-mark_text
