-- What a step of a session's own machine replies: it is refused for a full journal exactly where the journal is full, and never for memory.
use Rattle.std.proofs.Common.{◌≡◌, ◌≢◌, ◌==◌, ◌+◌, ℕ, zero, suc, Bool, true, false, cond, length, Option, Some, None, refl, ap, ◌∙◌, eq-eqb, ne_eqb}
use Rattle.std.specs.Option.{option_map_or}
use Rattle.std.proofs.lemmas.Bool.{cond-false, cond-true}
use Rattle.mls_session.proofs.Common.{Command, Config, Designed, Drawn, JournalFull, OwnState, Quota, Rect, Reply, Terms, caught_up, checked, design_step, ending, is_full, is_journalled, is_memory, is_refusal, own_step, rect_of, why_step}
use Rattle.mls_session.specs.declared.command.Command.TheVariants.{Box, Paint, Erase, Dump, GetCell, What, Save, Check, CatchUp, Why, Count}
use Rattle.mls_session.specs.declared.reply.Reply.TheVariants.{Done, Refused, Stopped}
use Rattle.mls_session.proofs.DrawnSteps.{HoldsOfChanges, box_holds, check_holds, dump_holds, erase_holds, get_holds, paint_holds, what_holds}

-- neither memory nor the journal's room is wanted
IsNeither : Reply → Type 0
IsNeither reply = (is_refusal is_memory reply ≡ false) × (is_refusal is_full reply ≡ false)

-- ---- the layout and the box
abbrev Draws : Option Rect → Drawn × Reply → Type 0
Draws rect step = (is_refusal is_memory step.1 ≡ false) × (is_refusal is_full step.1 ≡ false)

draws_neither : (config : Config) (own : Drawn) → HoldsOfChanges config own Draws
draws_neither config own = record {
  refused = λ rect refusal memory full. (memory, full);
  looked = λ kinds. (refl, refl);
  asked = λ e. (refl, refl);
  boxed = λ e. (refl, refl);
  paints = λ e kind plane on. (refl, refl);
  erases = λ e kinds. (refl, refl);
  dumps = λ id cell dx dy at stays. (refl, refl);
  places = λ id cell dx dy at stays. (refl, refl);
}

-- ---- marks
module _ (config : Config) where
  why_neither : (own : Designed) (box : Option Rect) → IsNeither (why_step config own box).1
  unfolding IsNeither
  why_neither own None = (refl, refl)
  why_neither own (Some e) = (refl, refl)

  ending_neither : (none : Bool) (pending : ℕ) → IsNeither (cond none Done (Stopped Quota pending))
  unfolding IsNeither
  ending_neither true pending = (refl, refl)
  ending_neither false pending = (refl, refl)

  caught_up_next :
      (count : ℕ) (own : Designed) (next : Option Designed) → ((mid : Designed) → IsNeither (caught_up count config mid).1)
      → IsNeither (option_map_or (caught_up count config) next (own, ending own)).1
  caught_up_next count own None more = ending_neither (length own.checking.dirty == 0) (length own.checking.dirty)
  caught_up_next count own (Some mid) more = more mid

  caught_up_neither : (count : ℕ) (own : Designed) → IsNeither (caught_up count config own).1
  caught_up_neither zero own = ending_neither (length own.checking.dirty == 0) (length own.checking.dirty)
  caught_up_neither (suc count) own = caught_up_next count own (checked config own) (caught_up_neither count)

-- ---- commands
design_step-neither : (config : Config) (own : Designed) (command : Command) → IsNeither (design_step config own command).1
unfolding design_step IsNeither
design_step-neither config own (Box left bottom right top) = box_holds config own.drawn Draws (draws_neither config own.drawn) (rect_of left bottom right top)
design_step-neither config own (Paint kind) = paint_holds config own.drawn Draws (draws_neither config own.drawn) own.drawn.box kind
design_step-neither config own (Erase kinds) = erase_holds config own.drawn Draws (draws_neither config own.drawn) own.drawn.box kinds
design_step-neither config own (Dump cell dx dy) = dump_holds config own.drawn Draws (draws_neither config own.drawn) cell dx dy
design_step-neither config own (GetCell cell dx dy) = get_holds config own.drawn Draws (draws_neither config own.drawn) cell dx dy
design_step-neither config own What = what_holds config own.drawn Draws (draws_neither config own.drawn) own.drawn.box
design_step-neither config own Save = (refl, refl)
design_step-neither config own Check = check_holds config own.drawn Draws (draws_neither config own.drawn) own.drawn.box
design_step-neither config own CatchUp = caught_up_neither config _ own
design_step-neither config own Why = why_neither config own own.drawn.box
design_step-neither config own Count = (refl, refl)

module _ (config : Config) (own : Designed) (command : Command) where
  pub design_step-not_memory : is_refusal is_memory (design_step config own command).1 ≡ false
  unfolding IsNeither
  design_step-not_memory = (design_step-neither config own command).0

  pub design_step-not_full : is_refusal is_full (design_step config own command).1 ≡ false
  unfolding IsNeither
  design_step-not_full = (design_step-neither config own command).1

  pub design_step-is_journalled : is_journalled (design_step config own command).1 ≡ true
  design_step-is_journalled = rw (design_step-not_full, design_step-not_memory) refl

-- ---- the journal's room
module _ (terms : Terms) (own : OwnState) (command : Command) where
  -- a full journal
  pub own_step-full : own.entries ≡ terms.journal → own_step terms own command ≡ (own, Refused JournalFull)
  unfolding own_step
  own_step-full full = cond-true (own.entries == terms.journal) _ _ (eq-eqb own.entries terms.journal full)

  -- or one more entry
  pub own_step-room :
      own.entries ≢ terms.journal
      → own_step terms own command
      ≡ (record { design = (design_step terms.config own.design command).0; entries = own.entries + 1 }, (design_step terms.config own.design command).1)
  unfolding own_step
  own_step-room room = cond-false (own.entries == terms.journal) _ _ (ne_eqb own.entries terms.journal room)

  pub own_step-not_full : own.entries ≢ terms.journal → is_refusal is_full (own_step terms own command).1 ≡ false
  own_step-not_full room =
      ap (λ (step : OwnState × Reply). is_refusal is_full step.1) (own_step-room room) ∙ design_step-not_full terms.config own.design command

  pub own_step-is_journalled : own.entries ≢ terms.journal → is_journalled (own_step terms own command).1 ≡ true
  own_step-is_journalled room =
      ap (λ (step : OwnState × Reply). is_journalled step.1) (own_step-room room) ∙ design_step-is_journalled terms.config own.design command

  noticed :
      (full : Bool) (new : OwnState) (reply : Reply) → is_refusal is_memory reply ≡ false
      → is_refusal is_memory (cond {A = OwnState × Reply} full (own, Refused JournalFull) (new, reply)).1 ≡ false
  noticed true new reply not_memory = refl
  noticed false new reply not_memory = not_memory

  pub own_step-not_memory : is_refusal is_memory (own_step terms own command).1 ≡ false
  unfolding own_step
  own_step-not_memory =
      let step = design_step terms.config own.design command in
      noticed (own.entries == terms.journal) (record { design = step.0; entries = own.entries + 1 }) step.1 (design_step-not_memory terms.config own.design command)
