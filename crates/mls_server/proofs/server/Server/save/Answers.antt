use Rattle.std.proofs.Common.{[], append-nil, length, sym, ap, subst, subst₂, arith}
use Rattle.mls_session.specs.Designs.{Design, HasRightMarks, KnowsRight, designed_of}
use Rattle.mls_session.specs.Journals.{IsLegal, Saves}
use Rattle.mls_session.specs.Sessions.{kept_of}
use Rattle.mls_session.specs.Setups.{config_of, terms_of}
use Rattle.mls_tilepool.specs.Pools.{Pool}
use Rattle.mls_server.specs.Servers.{world_of}
use Rattle.mls_server.proofs.AskedSessions.{AreOpen-changed, OnSeat-changed, is_asked, keeps-same, own_text-asked, saves-none}
use Rattle.mls_server.proofs.server.Server.save.Goals as goal

pub returns-in_err-place-clause-saves : goal.returns-in_err-place-clause-saves
returns-in_err-place-clause-saves c = ([], saves-none (world_of c.args.self.now) c.args.id c.from_residual.result c.from_residual.ensures.0 c.in_err-place.ensures.missing, sym (append-nil c.args.out.now.items))

pub save-requires : goal.save-requires
save-requires c =
    let is = is_asked c.self.view_is c.self.invariant c.in_ok-place.ensures.place c.index_mut-asked.ensures.value in
    record { home = is.made.ready.home; made_for = is.made.ready.made_for }

pub invariant_of-self : goal.invariant_of-self
invariant_of-self c =
    let is = is_asked c.self.view_is c.self.invariant c.in_ok-place.ensures.place c.index_mut-asked.ensures.value in
    let done = c.save.ensures in
    let pool = c.self.inside.workspace.pool in
    let before = c.index_mut-asked.result.now in
    let config = config_of c.self.inside.setup pool in
    AreOpen-changed is (keeps-same is done.pool done.design done.limit) before.checked
    (record {
      legal = λ legal. subst (λ (now : Pool). IsLegal (terms_of c.self.inside.setup pool) (kept_of now c.save.new.self)) (sym done.pool) (done.legal legal);
      marks_right = subst₂ (λ (now : Pool) (design : Design). HasRightMarks config (designed_of now design)) (sym done.pool) (sym done.design);
      planes = keeps-same is done.pool done.design done.limit;
    })
    (subst₂ (λ (now : Pool) (design : Design). KnowsRight config (designed_of now design) before.checked) (sym done.pool) (sym done.design) is.made.knows_right)

pub returns-clause-saves : goal.returns-clause-saves
returns-clause-saves c =
    let is = is_asked c.self.view_is c.self.invariant c.in_ok-place.ensures.place c.index_mut-asked.ensures.value in
    let done = c.save.ensures in
    let (text, saves, appended) = done.saves in
    let pool = c.self.inside.workspace.pool in
    let terms = terms_of c.self.inside.setup pool in
    let before = c.index_mut-asked.result.now in
    let saved = subst (λ (now : Pool). Saves terms (kept_of pool before.session) c.save.result text (kept_of now c.save.new.self)) (sym done.pool) saves in
    (text, OnSeat-changed is (keeps-same is done.pool done.design done.limit) before.checked (λ terms before reply after. Saves terms before reply text after) c.save.result saved, appended)

pub returns-clause-room : goal.returns-clause-room
returns-clause-room c = λ memory. omega (arith, c.save.ensures.room memory, ap length (own_text-asked (is_asked c.self.view_is c.self.invariant c.in_ok-place.ensures.place c.index_mut-asked.ensures.value)))
