use Rattle.std.proofs.Common.{length, sym, subst, eqb-true}
use Rattle.std.proofs.lemmas.Bool.{eqb-false}
use Rattle.mls_session.proofs.Common.{HaveOwnCells, HoldsOwnTypes, IsLegal, ReadsAs, Reply, SavesText, layout_in, saved_text, terms_of}
use Rattle.mls_session.specs.Sessions.{IsHome, Session, kept_of, state_of}
use Rattle.mls_session.proofs.JournalledCommands.{entries-full, seen}
use Rattle.mls_session.proofs.JournalledSaves.{Saves-full, Saves-saved}
use Rattle.mls_session.proofs.LegalJournals.{Saves-legal}
use Rattle.mls_session.proofs.OwnTypes.{holds_paint, legal_own}
use Rattle.mls_session.proofs.PartialFacts.{on_saved}
use Rattle.mls_session.proofs.session.Session.save.Goals as goal

pub returns-then-is_full-clause-saves : goal.returns-then-is_full-clause-saves
returns-then-is_full-clause-saves c =
    let full = eqb-true (length c.self.inside.journal.entries) c.self.inside.journal.limit (sym c.if-is_full.ensures) in
    Saves-full (terms_of c.args.setup.now c.args.workspace.now.pool) (kept_of c.args.workspace.now.pool c.args.self.now) c.args.out.now.items
    (entries-full c.args.self.now c.self.inside.design c.self.inside.journal c.args.setup.now.limit c.self.view_is c.requires.made_for.limit full)

pub returns-clause-saves : goal.returns-clause-saves
returns-clause-saves c =
    let room = eqb-false (length c.self.inside.journal.entries) c.self.inside.journal.limit (sym c.if-is_full.ensures) in
    let text =
    subst (λ (r : Reply). SavesText c.args.setup.now.tech (layout_in c.args.workspace.now.pool c.self.inside.design.planes) r c.args.out.now.items c.save.new.out.items) (sym c.with-executed.ensures.reply)
    c.save.ensures.saves in
    Saves-saved c.args.setup.now c.args.workspace.now.pool c.args.self.now c.self.inside.design c.self.inside.journal c.keep.new.self c.with-executed.result c.args.out.now.items c.save.new.out.items
    c.self.view_is c.requires.made_for.limit room text c.with-executed.ensures.steps c.keep.ensures

pub returns-clause-legal : goal.returns-clause-legal
returns-clause-legal c =
    let (text, saves, longer) = returns-clause-saves c in
    Saves-legal (terms_of c.args.setup.now c.args.workspace.now.pool) (kept_of c.args.workspace.now.pool c.args.self.now) (kept_of c.args.workspace.now.pool (seen c.self.inside.design c.keep.new.self)) c.with-executed.result.reply text saves

-- the text reads as the own paint, which holds types on their own planes alone
pub returns-clause-reads_back : goal.returns-clause-reads_back
returns-clause-reads_back c =
    let pool = c.args.workspace.now.pool in
    let terms = terms_of c.args.setup.now pool in
    let reads = λ (s : Session) (home : IsHome pool s) (legal : IsLegal terms (kept_of pool s)) (cells : HaveOwnCells terms).
    holds_paint pool s.design.planes home.layout.strips c.args.setup.now.tech (legal_own terms cells (kept_of pool s) legal)
    in
    on_saved c.with-executed.result.reply _
    (λ legal cells.
    subst (λ (s : Session). HoldsOwnTypes c.args.setup.now.tech (state_of pool s).design.drawn.paint → ReadsAs c.args.setup.now.tech (saved_text c.args.setup.now.tech (state_of pool s).design.drawn.paint) (state_of pool s).design.drawn.paint)
    c.self.view_is c.save.ensures.reads_back (reads c.args.self.now c.requires.home legal cells))
