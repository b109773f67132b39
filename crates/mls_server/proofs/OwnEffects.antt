-- What an event contributes to its session's own list, and that the alone run of this leads where the event led.
use Rattle.std.proofs.Common.{◌≡◌, ◌≢◌, ℕ, Bool, true, false, Some, List, [], ◌∷◌, length, replicate, inl, inr, refl, sym, ap, ◌∙◌, subst, arith}
use Rattle.std.specs.Option.{option_and_then, option_map}
use Rattle.mls_session.proofs.OwnReplies.{own_step-not_memory}
use Rattle.mls_session.specs.Journals.{ChecksOnce, ChecksTimes, Commands, Does, Kept, RunsOut, Saves, is_memory, is_refusal}
use Rattle.mls_session.specs.OwnSteps.{OwnState, Terms, checks}
use Rattle.mls_session.specs.declared.command.Command.{Command as OwnCommand}
use Rattle.mls_session.specs.declared.command.Command.TheVariants.{Box, Paint, Erase, Dump, GetCell, What, Save as SaveCommand, Check, CatchUp, Why as AskWhy, Count as AskCount}
use Rattle.mls_session.specs.declared.refusal.Refusal.TheVariants.{Memory}
use Rattle.mls_session.specs.declared.reply.Reply.{Reply}
use Rattle.mls_session.specs.declared.reply.Reply.TheVariants.{Done, Kinds, Saved as SavedLines, Count, Why, Refused, Stopped}
use Rattle.mls_server.proofs.AloneRuns.{alone-checks, counted}
use Rattle.mls_server.specs.OwnLists.{AddsCommand, AddsStopped, Item, alone, asked, at, checked, told_by, with_check, with_command}

-- the items lead from what a session keeps to what it keeps after them, with these replies
pub record Leads (terms : Terms) (Adds : List Item → Kept → Type 0) (said : List Reply) (before after : Kept) : Type 0 where
  pub items : List Item
  pub adds : Adds items after
  pub leads : alone terms (at before) items ≡ Some (record { kept = after; replies = said })

-- ---- commands
AddsStopped-asked : (memory : Bool) (command : OwnCommand) (pending : ℕ) (after : Kept) → memory ≡ false → AddsStopped memory command pending (asked command ∷ []) after
AddsStopped-asked true command pending after not_memory = absurd cc
AddsStopped-asked false command pending after not_memory = refl

AddsCommand-asked : (command : OwnCommand) (reply : Reply) (after : Kept) → is_refusal is_memory reply ≡ false → AddsCommand command reply (asked command ∷ []) after
AddsCommand-asked command (Refused refusal) after not_memory = rw not_memory refl
AddsCommand-asked command (Stopped refusal pending) after not_memory = AddsStopped-asked (is_memory refusal) command pending after not_memory
AddsCommand-asked command Done after not_memory = refl
AddsCommand-asked command (Kinds kinds) after not_memory = refl
AddsCommand-asked command (SavedLines lines) after not_memory = refl
AddsCommand-asked command (Count errors pending) after not_memory = refl
AddsCommand-asked command (Why rules) after not_memory = refl

told_by-not_memory : (reply : Reply) → is_refusal is_memory reply ≡ false → told_by reply ≡ reply ∷ []
told_by-not_memory reply not_memory = rw not_memory refl

module _ (terms : Terms) where
  -- the command itself
  Does-leads :
      (before : Kept) (command : OwnCommand) (reply : Reply) (after : Kept) → Does terms before command reply after
      → Leads terms (AddsCommand command reply) (told_by reply) before after
  Does-leads before command reply after (own, is, kept) =
      let not_memory : is_refusal is_memory reply ≡ false =
      ap (λ (step : OwnState × Reply). is_refusal is_memory step.1) (sym is) ∙ own_step-not_memory terms before.own command in
      record {
        items = asked command ∷ [];
        adds = AddsCommand-asked command reply after not_memory;
        leads = ap (λ (step : OwnState × Reply). Some (with_command (at before) command step)) is
            ∙ ap (λ (last : Kept). Some (record { kept = last; replies = reply ∷ [] })) (sym kept)
            ∙ ap (λ (said : List Reply). Some (record { kept = after; replies = said })) (sym (told_by-not_memory reply not_memory));
      }

  -- nothing, where memory ran out
  none_led : (command : OwnCommand) (before after : Kept) (reply : Reply) → reply ≡ Refused Memory → after ≡ before → Leads terms (AddsCommand command reply) (told_by reply) before after
  none_led command before after reply refused kept =
      subst (λ (answer : Reply). Leads terms (AddsCommand command answer) (told_by answer) before after) (sym refused) (record {
        items = [];
        adds = refl;
        leads = ap (λ (last : Kept). Some (at last)) (sym kept);
      })

  length_some : {A : Type 0} (areas : List A) → areas ≢ [] → length areas ≢ 0
  length_some [] some = λ none. some refl
  length_some (area ∷ areas) some = omega arith

  -- or the check steps that catching up did
  stopped_led :
      (count : ℕ) (before : Kept) (own : OwnState) → checks terms count before.own ≡ Some own → own.design.checking.dirty ≢ []
      → Leads terms (AddsCommand CatchUp (Stopped Memory (length own.design.checking.dirty))) [] before (counted before count own)
  stopped_led count before own is left = record {
    items = replicate count checked;
    adds = (count, refl, refl, length_some own.design.checking.dirty left);
    leads = alone-checks terms count before ∙ ap (option_map (λ (last : OwnState). at (counted before count last))) is;
  }

  RunsOut-leads :
      (before : Kept) (command : OwnCommand) (reply : Reply) (after : Kept) → RunsOut terms before command reply after
      → Leads terms (AddsCommand command reply) (told_by reply) before after
  RunsOut-leads before CatchUp reply after (count, own, is, left, replied, kept) =
      subst (λ (answer : Reply). Leads terms (AddsCommand CatchUp answer) (told_by answer) before after) (sym replied)
      (subst (λ (last : Kept). Leads terms (AddsCommand CatchUp (Stopped Memory (length own.design.checking.dirty))) [] before last)
      (sym kept) (stopped_led count before own is left))
  RunsOut-leads before AskWhy reply after (boxed, refused, kept) = none_led AskWhy before after reply refused kept
  RunsOut-leads before What reply after (boxed, used, refused, kept) = none_led What before after reply refused kept
  RunsOut-leads before command reply after never = absurd never

  pub Commands-leads :
      (before : Kept) (command : OwnCommand) (reply : Reply) (after : Kept) → Commands terms before command reply after
      → Leads terms (AddsCommand command reply) (told_by reply) before after
  Commands-leads before command reply after (inl does) = Does-leads before command reply after does
  Commands-leads before command reply after (inr out) = RunsOut-leads before command reply after out.1

  pub Saves-leads :
      (before : Kept) (reply : Reply) (text : List ℕ) (after : Kept) → Saves terms before reply text after
      → Leads terms (AddsCommand SaveCommand reply) (told_by reply) before after
  Saves-leads before reply text after (inl saves) = Does-leads before SaveCommand reply after saves.0
  Saves-leads before reply text after (inr (room, refused, empty, kept)) = none_led SaveCommand before after reply refused kept

  -- ---- check steps
  -- one that was accepted
  pub ChecksOnce-leads : (before after : Kept) → ChecksOnce terms before after → Leads terms (λ items last. items ≡ checked ∷ []) [] before after
  ChecksOnce-leads before after (own, is, kept) = record {
    items = checked ∷ [];
    adds = refl;
    leads = ap (option_and_then (λ (next : OwnState). Some (with_check (at before) next))) is ∙ ap (λ (last : Kept). Some (at last)) (sym kept);
  }

  -- several
  pub ChecksTimes-leads : (count : ℕ) (before after : Kept) → ChecksTimes terms count before after → Leads terms (λ items last. items ≡ replicate count checked) [] before after
  ChecksTimes-leads count before after (own, is, kept) = record {
    items = replicate count checked;
    adds = refl;
    leads =
        alone-checks terms count before ∙ ap (option_map (λ (last : OwnState). at (counted before count last))) is
        ∙ ap (λ (last : Kept). Some (at last)) (sym kept);
  }

  -- or none
  pub none-leads : (before after : Kept) → after ≡ before → Leads terms (λ items last. items ≡ []) [] before after
  none-leads before after kept = record { items = []; adds = refl; leads = ap (λ (last : Kept). Some (at last)) (sym kept) }
