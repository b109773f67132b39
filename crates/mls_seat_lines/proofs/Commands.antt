-- A command at a seat that isn't a save.
use Rattle.std.proofs.Common.{◌≡◌, ◌++◌, ◌⊎◌, ℕ, Bool, false, Result, List, sym, subst}
use Rattle.std.specs.Bool.{MatchBool}
use Rattle.std.specs.Result.{IfOk}
use Rattle.mls_wire.specs.mls_session.OwnSteps.{Terms}
use Rattle.mls_wire.specs.mls_session.declared.command.Command.{Command}
use Rattle.mls_wire.specs.mls_session.declared.journal.Said.{Said}
use Rattle.mls_wire.specs.mls_session.declared.refusal.Refusal.TheVariants.{JournalFull}
use Rattle.mls_wire.specs.mls_session.declared.reply.Reply.{Reply}
use Rattle.mls_wire.specs.mls_session.declared.reply.Reply.TheVariants.{Refused}
use Rattle.mls_wire.specs.mls_server.declared.answer.Answer.TheVariants.{Commanded, Saved}
use Rattle.mls_wire.specs.mls_server.declared.fault.NotOpen.{NotOpen}
use Rattle.mls_live.specs.Audits.{CanReply, CanSaveAt}
use Rattle.mls_live.specs.Lists.{added_by}
use Rattle.mls_wire.specs.NameBooks.{Names}
use Rattle.mls_wire.specs.Replies.{answer_text}
use Rattle.mls_seat_lines.specs.Requests.{ServesCommand, is_save}

pub serves_command :
    (terms : Terms) (book : Names) (name : List ℕ) (said now : List Said) (command : Command) (result : Result Reply NotOpen) (text : List ℕ) → is_save command ≡ false
    → now ≡ said ++ added_by command result → text ≡ answer_text book name (Commanded result)
    → IfOk result (λ reply. CanReply terms command reply ⊎ (reply ≡ Refused JournalFull)) → ServesCommand terms book name said command text now
serves_command terms book name said now command result text unsaved list is replied =
    let P : Bool → Type 0 = λ b. MatchBool b ((saved : List ℕ) × (text ≡ answer_text book name (Saved result saved)) × CanSaveAt terms result saved)
    ((text ≡ answer_text book name (Commanded result)) × IfOk result (λ reply. CanReply terms command reply ⊎ (reply ≡ Refused JournalFull))) in
    (result, list, subst P (sym unsaved) (is, replied))
