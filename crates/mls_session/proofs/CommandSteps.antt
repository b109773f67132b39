-- The steps of commands, from what a design's layout and its error plane do.
use Rattle.std.proofs.Common.{◌≡◌, ℕ, Option, Some, None, List, length, refl, sym, ap, ◌∙◌, subst}
use Rattle.mls_session.proofs.Common.{CatchUp, CaughtUp, ChangesOnly, Checking, Config, Counts, DesignSteps, Designed, Drawn, EdgeRule, Executed, HasCaughtUp, IsDirtyList, Pool, Rect, Refusal, Reply, caught_up_reply, check_in, checking_of, dirty_after, edit_step, layout_of, steps_of}
use Rattle.mls_session.specs.Designs.{Design, IsHome, designed_of, drawn_of}
use Rattle.mls_session.specs.declared.reply.Reply.TheVariants.{Done, Refused}
use Rattle.mls_session.proofs.DesignSteps.{Counts-caught_up, DesignSteps-caught_up}
use Rattle.mls_session.proofs.ErrorPlanes.{drawn-errors}

-- ---- edits
-- where an edit is refused, nothing awaits checking that didn't
dirty_after-Refused : (rules : List EdgeRule) (rect : Option Rect) (refusal : Refusal) (checking : Checking) → dirty_after rules rect (Refused refusal) checking ≡ checking
dirty_after-Refused rules None refusal checking = refl
dirty_after-Refused rules (Some rect) refusal checking = refl

pub edit_step-Refused :
    (config : Config) (own : Designed) (rect : Option Rect) (step : Drawn × Reply) (refusal : Refusal) → step ≡ (own.drawn, Refused refusal)
    → edit_step config own rect step ≡ (own, Refused refusal)
edit_step-Refused config own rect step refusal is =
    ap (edit_step config own rect) is
    ∙ ap (λ (known : Checking). (record own { checking = known }, Refused refusal)) (dirty_after-Refused config.rules rect refusal own.checking)

pub edit_step-Done :
    (config : Config) (own new : Designed) (rect : Option Rect) (step : Drawn × Reply) → step ≡ (new.drawn, Done)
    → new.checking ≡ dirty_after config.rules rect Done own.checking → edit_step config own rect step ≡ (new, Done)
edit_step-Done config own new rect step is dirtied =
    ap (edit_step config own rect) is ∙ ap (λ (known : Checking). (record new { checking = known }, Done)) (sym dirtied)

-- the box is added to the areas that await checking
pub check_in-Some : (drawn : Drawn) (box : Option Rect) (rect : Rect) → box ≡ Some rect → check_in drawn box ≡ (drawn, Done)
check_in-Some drawn box rect is = ap (check_in drawn) is

-- ---- catching up
-- the layout stays
pub caught_up-errors :
    (config : Config) (pool new : Pool) (before after : Design) (limit : ℕ) (ended : CaughtUp) (pending : ℕ) (executed : Executed)
    → config.quota ≡ before.quota → limit ≡ before.quota → IsHome pool before → IsDirtyList before.errors.dirty
    → ChangesOnly pool new before.errors.owner → after.box ≡ before.box → after.planes ≡ before.planes → after.uses ≡ before.uses
    → HasCaughtUp config.rules (layout_of config (drawn_of pool before)) limit (checking_of pool before.errors) ended (checking_of new after.errors)
    → pending ≡ length after.errors.dirty → executed.reply ≡ caught_up_reply pending ended → executed.steps ≡ steps_of ended
    → DesignSteps config (designed_of pool before) CatchUp executed.reply (designed_of new after)
    × Counts config (designed_of pool before) CatchUp executed (designed_of new after)
caught_up-errors config pool new before after limit ended pending executed quota same home areas changed box planes uses caught left is counted =
    let here : HasCaughtUp config.rules (layout_of config (drawn_of pool before)) config.quota (checking_of pool before.errors) ended (checking_of new after.errors) =
    subst (λ (q : ℕ). HasCaughtUp config.rules (layout_of config (drawn_of pool before)) q (checking_of pool before.errors) ended (checking_of new after.errors)) (same ∙ sym quota) caught in
    let reply : executed.reply ≡ caught_up_reply (length after.errors.dirty) ended = is ∙ ap (λ n. caught_up_reply n ended) left in
    let drawn = drawn-errors pool new before after home changed box planes uses in (
      DesignSteps-caught_up config (designed_of pool before) (designed_of new after) executed.reply ended areas here reply drawn,
      Counts-caught_up config (designed_of pool before) (designed_of new after) executed ended here reply counted drawn,
    )
