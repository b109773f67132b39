-- Catching up is the step of a design's own machine, unless memory runs out.
use Rattle.std.proofs.Common.{◌≡◌, ◌==◌, inl, inr, ℕ, true, Some, List, length, sym, ap, ◌∙◌, subst, true≢false}
use Rattle.std.proofs.lemmas.Bool.{cond-false, cond-true}
use Rattle.mls_session.proofs.Common.{CatchUp, CaughtUp, Config, Counts, DesignSteps, Designed, Drawn, Executed, HasCaughtUp, IsDirtyList, Quota, Rect, Reply, Steps, catch_up_step, caught_up_reply, check_step, checked_times, design_step, ending, exceeds, is_memory, is_refusal, layout_of, steps_of}
use Rattle.mls_errorplane.specs.declared.catching_up.CaughtUp.TheVariants.{Done as AllChecked, Full as MarksFull, Memory as OutOfMemory}
use Rattle.mls_session.specs.declared.reply.Reply.TheVariants.{Done, Stopped}
use Rattle.mls_session.proofs.CaughtUpDesigns.{catch_up_step-ends}
use Rattle.mls_session.proofs.CheckedDesigns.{checked-full, checked-none, checked_times-Steps, some_left}

module _ (config : Config) (old new : Designed) where
  steps_done :
      (count : ℕ) → new.drawn ≡ old.drawn → Steps config.rules (layout_of config old.drawn) config.quota count old.checking new.checking → checked_times count config old ≡ Some new
  steps_done count same steps =
      checked_times-Steps config old count new.checking steps ∙ ap (λ (drawn : Drawn). Some (record { drawn = drawn; checking = new.checking })) (sym same)

  ended : (reply : Reply) → catch_up_step config old ≡ (new, ending new) → reply ≡ ending new → catch_up_step config old ≡ (new, reply)
  ended reply is same = is ∙ ap (λ (r : Reply). (new, r)) (sym same)

  pub DesignSteps-caught_up :
      (reply : Reply) (end : CaughtUp) → IsDirtyList old.checking.dirty
      → HasCaughtUp config.rules (layout_of config old.drawn) config.quota old.checking end new.checking → reply ≡ caught_up_reply (length new.checking.dirty) end
      → new.drawn ≡ old.drawn → DesignSteps config old CatchUp reply new
  unfolding design_step
  DesignSteps-caught_up reply AllChecked kept ((count, steps), none) is same =
      let last : ending new ≡ Done = cond-true _ _ _ (ap (λ (areas : List Rect). length areas == 0) none) in
      inl (ended reply (catch_up_step-ends config count old new kept (steps_done count same steps) (checked-none config new none)) (is ∙ sym last))
  DesignSteps-caught_up reply MarksFull kept ((count, steps), some, full) is same =
      let last : ending new ≡ Stopped Quota (length new.checking.dirty) = cond-false _ _ _ (some_left new.checking.dirty some) in
      let more = subst (λ (drawn : Drawn). exceeds config.quota (check_step config.rules (layout_of config drawn) new.checking).marks ≡ true) (sym same) full in
      inl (ended reply (catch_up_step-ends config count old new kept (steps_done count same steps) (checked-full config new more)) (is ∙ sym last))
  DesignSteps-caught_up reply (OutOfMemory count) kept (steps, some) is same = inr (count, steps_done count same steps, some, is)

  -- the steps that are counted are those that were done before memory ran out
  pub Counts-caught_up :
      (executed : Executed) (end : CaughtUp) → HasCaughtUp config.rules (layout_of config old.drawn) config.quota old.checking end new.checking
      → executed.reply ≡ caught_up_reply (length new.checking.dirty) end → executed.steps ≡ steps_of end → new.drawn ≡ old.drawn
      → Counts config old CatchUp executed new
  Counts-caught_up executed AllChecked caught is counted same = λ memory. absurd (true≢false (sym memory ∙ ap (is_refusal is_memory) is))
  Counts-caught_up executed MarksFull caught is counted same = λ memory. absurd (true≢false (sym memory ∙ ap (is_refusal is_memory) is))
  Counts-caught_up executed (OutOfMemory count) (steps, some) is counted same =
      λ memory. ap (λ (n : ℕ). checked_times n config old) counted ∙ steps_done count same steps
