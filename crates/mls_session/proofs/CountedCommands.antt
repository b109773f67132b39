-- The check steps that are counted after a command: they fit.
use Rattle.std.proofs.Common.{◌≡◌, inl, inr, ◌+◌, ◌^◌, ◌<◌, ◌≤◌, ℕ, Bool, true, false, Some, sym, refl, ap, ◌∙◌, subst, arith, true≢false}
use Rattle.std.proofs.lemmas.Bool.{cond-false, cond-true}
use Rattle.mls_session.proofs.Common.{Command, Config, Counts, DesignRunsOut, DesignSteps, Designed, Executed, IsCounted, IsDirtyList, Journal, Reply, after_command, area_of, checked_times, is_memory, is_refusal, most_checks}
use Rattle.mls_session.specs.declared.command.Command.TheVariants.{CatchUp, What, Why}
use Rattle.mls_session.proofs.CaughtUpDesigns.{checked_times-fewer}
use Rattle.mls_session.proofs.CountedSteps.{IsCounted-none, fits_of}
use Rattle.mls_session.proofs.OwnReplies.{design_step-not_memory}

-- ---- where memory ran out
-- the steps that are counted lead to the new state
ran_out :
    (config : Config) (old new : Designed) (command : Command) (executed : Executed) → DesignRunsOut config old command executed.reply new
    → Counts config old command executed new → is_refusal is_memory executed.reply ≡ true → checked_times executed.steps config old ≡ Some new
ran_out config old new CatchUp executed out counts memory = counts memory
ran_out config old new Why executed (boxed, refused, same) none memory = ap (λ (n : ℕ). checked_times n config old) none ∙ ap Some (sym same)
ran_out config old new What executed (boxed, placed, refused, same) none memory = ap (λ (n : ℕ). checked_times n config old) none ∙ ap Some (sym same)
ran_out config old new _ executed out none memory = absurd out

counted_steps :
    (config : Config) (old new : Designed) (command : Command) (executed : Executed) → DesignSteps config old command executed.reply new
    → Counts config old command executed new → is_refusal is_memory executed.reply ≡ true → checked_times executed.steps config old ≡ Some new
counted_steps config old new command executed (inl taken) counts memory =
    let not_memory : is_refusal is_memory executed.reply ≡ false =
    ap (λ (step : Designed × Reply). is_refusal is_memory step.1) (sym taken) ∙ design_step-not_memory config old command in
    absurd (true≢false (sym memory ∙ not_memory))
counted_steps config old new command executed (inr out) counts memory = ran_out config old new command executed out counts memory

-- each of them leaves fewer squares in the areas
IsCounted-checked_times :
    (config : Config) (old new : Designed) (count more : ℕ) → IsCounted old.checking.dirty count → checked_times more config old ≡ Some new
    → IsCounted new.checking.dirty (count + more)
IsCounted-checked_times config old new count more counted done =
    let (areas, fewer) = checked_times-fewer config new more old counted.areas done in
    let few : count + area_of old.checking.dirty ≤ most_checks = counted.few in
    record {
      areas = areas;
      few = omega (arith, fewer, few);
    }

-- ---- the count after a command
module _
    (config : Config) (old new : Designed) (journal : Journal) (command : Command) (executed : Executed) (counted : IsCounted old.checking.dirty journal.checks)
    (step : DesignSteps config old command executed.reply new) (counts : Counts config old command executed new) where
  more : is_refusal is_memory executed.reply ≡ true → IsCounted new.checking.dirty (journal.checks + executed.steps)
  more memory =
      IsCounted-checked_times config old new journal.checks executed.steps counted (counted_steps config old new command executed step counts memory)

  pub Counts-fits : is_refusal is_memory executed.reply ≡ true → journal.checks + executed.steps < 2 ^ 64
  Counts-fits memory = fits_of new.checking.dirty (journal.checks + executed.steps) (more memory)

  -- more where memory ran out, and none after an entry
  after_reply :
      (memory : Bool) → is_refusal is_memory executed.reply ≡ memory → IsDirtyList new.checking.dirty
      → IsCounted new.checking.dirty (after_command journal command executed).checks
  after_reply true memory areas =
      subst (λ (j : Journal). IsCounted new.checking.dirty j.checks) (sym (cond-true (is_refusal is_memory executed.reply) _ _ memory)) (more memory)
  after_reply false noted areas =
      subst (λ (j : Journal). IsCounted new.checking.dirty j.checks) (sym (cond-false (is_refusal is_memory executed.reply) _ _ noted))
      (IsCounted-none new.checking.dirty areas)

  pub IsCounted-executed : IsDirtyList new.checking.dirty → IsCounted new.checking.dirty (after_command journal command executed).checks
  IsCounted-executed areas = after_reply (is_refusal is_memory executed.reply) refl areas
