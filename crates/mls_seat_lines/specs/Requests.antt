-- What a request gives at a session's seat, whatever the other threads do meanwhile. This project's own.
use Rattle.std.specs.Prelude.{◌≡◌, ◌⊎◌, ℕ, Bool, true, false, List, ◌++◌, length, Result, IfOk}
use Rattle.std.specs.Bool.{MatchBool}
use Rattle.mls_wire.specs.mls_session.OwnSteps.{Terms}
use Rattle.mls_wire.specs.mls_session.declared.command.Command.{Command}
use Rattle.mls_wire.specs.mls_session.declared.command.Command.TheVariants.{Save}
use Rattle.mls_wire.specs.mls_session.declared.journal.Said.{Said}
use Rattle.mls_wire.specs.mls_session.declared.look.Look.{Look}
use Rattle.mls_wire.specs.mls_session.declared.look.Looked.{Looked}
use Rattle.mls_wire.specs.mls_session.declared.refusal.Refusal.TheVariants.{JournalFull}
use Rattle.mls_wire.specs.mls_session.declared.reply.Reply.{Reply}
use Rattle.mls_wire.specs.mls_session.declared.reply.Reply.TheVariants.{Refused}
use Rattle.mls_wire.specs.mls_server.LegalLists.{IsLegalList}
use Rattle.mls_wire.specs.mls_server.declared.answer.Answer.TheVariants.{Commanded, Looked as LookedAt, Saved}
use Rattle.mls_wire.specs.mls_server.declared.fault.NotOpen.{NotOpen}
use Rattle.mls_live.specs.Audits.{CanLookAt, CanReply, CanSaveAt}
use Rattle.mls_live.specs.Lists.{added_by}
use Rattle.mls_wire.specs.NameBooks.{Names}
use Rattle.mls_wire.specs.Replies.{answer_text, response_text}
use Rattle.mls_wire.specs.SeatTexts.{differs_text}
use Rattle.mls_wire.specs.declared.response.Response.TheVariants.{Audited}
use Rattle.mls_seat_lines.specs.declared.request.Request.{Request}
use Rattle.mls_seat_lines.specs.declared.request.Request.TheVariants.{Audit, Look as LookRequest, Run}

abbrev pub is_save : Command → Bool
is_save Save = true
is_save _ = false

-- after a list of commands and replies, the command has this text and leaves this list. The reply is one that a session with a legal journal can have, or says that the
-- journal is full; so is that of a save, with the saved text that follows it
abbrev pub ServesCommand : Terms → Names → List ℕ → List Said → Command → List ℕ → List Said → Type 0
ServesCommand terms book name said command text now =
    (result : Result Reply NotOpen) × (now ≡ said ++ added_by command result)
    × MatchBool (is_save command) ((saved : List ℕ) × (text ≡ answer_text book name (Saved result saved)) × CanSaveAt terms result saved)
    ((text ≡ answer_text book name (Commanded result)) × IfOk result (λ reply. CanReply terms command reply ⊎ (reply ≡ Refused JournalFull)))

-- the text is that the list so far is audited, and then it is that of a legal journal; or that it differs
abbrev pub ServesAudit : Terms → Names → List ℕ → List Said → List ℕ → Type 0
ServesAudit terms book name said text =
    ((text ≡ response_text book 0 (Audited name (length said))) × IsLegalList terms said) ⊎ (text ≡ differs_text name)

-- the text is that of what a look at a session with a legal journal can return, and of the text that comes with it
abbrev pub ServesLook : Terms → Names → List ℕ → Look → List ℕ → Type 0
ServesLook terms book name look text =
    (looked : Result Looked NotOpen) × (shown : List ℕ) × (text ≡ answer_text book name (LookedAt looked shown)) × CanLookAt terms look looked shown

-- after a list of commands and replies, the request has this text and leaves this list
abbrev pub ServesRequest : Terms → Names → List ℕ → List Said → Request → List ℕ → List Said → Type 0
ServesRequest terms book name said (Run command) text now = ServesCommand terms book name said command text now
ServesRequest terms book name said (LookRequest look) text now = ServesLook terms book name look text × (now ≡ said)
ServesRequest terms book name said Audit text now = ServesAudit terms book name said text × (now ≡ said)
