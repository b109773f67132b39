-- The headline: what each session is told, in any list of events, is what it would be told on a server that nobody else uses. A session's own list has
-- its commands and its accepted check steps; its alone run takes these one after another, from what the session keeps. This project's own.
use Rattle.std.specs.Prelude.{◌≡◌, ◌≢◌, ℕ, ◌+◌, ◌==◌, Bool, true, false, if◌then◌else◌, Option, Some, None, Ok, Err, List, [], ◌∷◌, ◌++◌, length, replicate, IfSome}
use Rattle.std.specs.Option.{option_and_then, option_map, unwrap_or}
use Rattle.mls_session.specs.mls_errorplane.declared.error_plane.Outcome.TheVariants.{Finished as FindingFinished}
use Rattle.mls_session.specs.mls_errorplane.declared.error_plane.Stepped.TheVariants.{Done as StepDone}
use Rattle.mls_session.specs.Journals.{ChecksTimes, Commands, Finishes, Kept, Saves, StepsOnce, StepsUpTo, is_memory, is_refusal, kept_at_opening, noted}
use Rattle.mls_session.specs.Looks.{Looks}
use Rattle.mls_session.specs.OwnSteps.{OwnState, Terms, own_check, own_step}
use Rattle.mls_session.specs.declared.command.Command.{Command as OwnCommand}
use Rattle.mls_session.specs.declared.command.Command.TheVariants.{Save as SaveCommand}
use Rattle.mls_session.specs.declared.reply.Reply.{Reply}
use Rattle.mls_session.specs.declared.reply.Reply.TheVariants.{Done, Kinds, Saved as SavedLines, Count, Why, Refused, Stopped}
use Rattle.mls_server.specs.Events.{Grabs}
use Rattle.mls_server.specs.Settings.{terms_for}
use Rattle.mls_server.specs.Worlds.{World, kept_in}
use Rattle.mls_server.specs.declared.event.Event.{Event}
use Rattle.mls_server.specs.declared.event.Event.TheVariants.{Open, Close, Command, Save, Look, Grab, Finish, Step, Steps, Settle}
use Rattle.mls_server.specs.declared.answer.Answer.{Answer}
use Rattle.mls_server.specs.declared.answer.Answer.TheVariants.{Opened, Closed, Commanded, Saved, Looked, Grabbed, Finished, Stepped, SteppedTimes, Settled}

-- ---- own lists
-- a command, or an accepted check step
pub data Item : Type 0 where
  asked : OwnCommand → Item
  checked : Item

-- the id of the session that the event is of, if it is of one
abbrev pub session_of : Event → Option ℕ
session_of (Open name) = None
session_of (Close id) = Some id
session_of (Command id command) = Some id
session_of (Save id) = Some id
session_of (Look id look) = Some id
session_of (Grab id) = Some id
session_of (Finish id finding) = Some id
session_of (Step id) = Some id
session_of (Steps id most) = Some id
session_of (Settle id) = Some id

-- what catching up contributes that stopped: where memory stopped it, some accepted check steps, which leave this many areas, at least one; else itself
abbrev pub AddsStopped : Bool → OwnCommand → ℕ → List Item → Kept → Type 0
AddsStopped true command pending items after = (count : ℕ) × (items ≡ replicate count checked) × (length after.own.design.checking.dirty ≡ pending) × (pending ≢ 0)
AddsStopped false command pending items after = items ≡ asked command ∷ []

-- a command with a reply other than that memory ran out contributes the command; catching up that memory stopped, the check steps that it did, which
-- leave as many areas as the reply says
abbrev pub AddsCommand : OwnCommand → Reply → List Item → Kept → Type 0
AddsCommand command (Refused refusal) items after = items ≡ (if is_memory refusal then [] else asked command ∷ [])
AddsCommand command (Stopped refusal pending) items after = AddsStopped (is_memory refusal) command pending items after
AddsCommand command Done items after = items ≡ asked command ∷ []
AddsCommand command (Kinds kinds) items after = items ≡ asked command ∷ []
AddsCommand command (SavedLines lines) items after = items ≡ asked command ∷ []
AddsCommand command (Count errors pending) items after = items ≡ asked command ∷ []
AddsCommand command (Why rules) items after = items ≡ asked command ∷ []

-- what an answer contributes: a finished finding and a step that is done, one check step; several steps and settling, as many as were done; all else, but
-- for commands and saves, nothing
abbrev pub Adds : Event → Answer → List Item → Kept → Type 0
Adds (Command id command) (Commanded (Ok reply)) items after = AddsCommand command reply items after
Adds (Save id) (Saved (Ok reply) text) items after = AddsCommand SaveCommand reply items after
Adds (Finish id finding) (Finished (Ok FindingFinished)) items after = items ≡ checked ∷ []
Adds (Step id) (Stepped (Ok StepDone)) items after = items ≡ checked ∷ []
Adds (Steps id most) (SteppedTimes (Ok run)) items after = items ≡ replicate run.done checked
Adds (Settle id) (Settled (Ok count)) items after = items ≡ replicate count checked
Adds event answer items after = items ≡ []

-- an event of another session contributes nothing
abbrev pub AddsIf : Bool → Event → Answer → List Item → Kept → Type 0
AddsIf true event answer items after = Adds event answer items after
AddsIf false event answer items after = items ≡ []

-- ---- what a session is told
-- the reply to a command, unless memory ran out
abbrev pub told_by : Reply → List Reply
told_by reply = if is_refusal is_memory reply then [] else reply ∷ []

-- the replies to the session's commands and saves
abbrev pub told : Answer → List Reply
told (Commanded (Ok reply)) = told_by reply
told (Saved (Ok reply) text) = told_by reply
told (Commanded (Err fault)) = []
told (Saved (Err fault) text) = []
told (Opened result) = []
told (Closed result) = []
told (Looked result text) = []
told (Grabbed result) = []
told (Finished result) = []
told (Stepped result) = []
told (SteppedTimes result) = []
told (Settled result) = []

-- the answer to an event of the session, with its text, is the one for what it keeps, which changes so
abbrev pub HasAnswer : Terms → Event → Answer → Kept → Kept → Type 0
HasAnswer terms (Command id command) (Commanded (Ok reply)) before after = Commands terms before command reply after
HasAnswer terms (Save id) (Saved (Ok reply) text) before after = Saves terms before reply text after
HasAnswer terms (Save id) (Saved (Err fault) text) before after = text ≡ []
HasAnswer terms (Look id look) (Looked (Ok looked) text) before after = Looks terms before look looked text
HasAnswer terms (Look id look) (Looked (Err fault) text) before after = text ≡ []
HasAnswer terms (Grab id) (Grabbed (Ok job)) before after = Grabs terms before job
HasAnswer terms (Finish id finding) (Finished (Ok outcome)) before after = Finishes terms before finding outcome after
HasAnswer terms (Step id) (Stepped (Ok end)) before after = StepsOnce terms before end after
HasAnswer terms (Steps id most) (SteppedTimes (Ok run)) before after = StepsUpTo terms most before run after
HasAnswer terms (Settle id) (Settled (Ok count)) before after = ChecksTimes terms count before after
HasAnswer terms event answer before after = Unit

abbrev pub is_of : ℕ → Event → Bool
is_of id event = unwrap_or (option_map (λ session. session == id) (session_of event)) false

abbrev pub told_to : ℕ → List Event → List Answer → List Reply
told_to id [] answers = []
told_to id (event ∷ events) [] = []
told_to id (event ∷ events) (answer ∷ answers) = (if is_of id event then told answer else []) ++ told_to id events answers

-- ---- alone runs
-- what the session keeps after some items, and the replies to the commands among them
pub record AloneRun : Type 0 where
  pub kept : Kept
  pub replies : List Reply

abbrev pub at : Kept → AloneRun
at kept = record { kept = kept; replies = [] }

-- with one command more, which led to this own state with this reply
abbrev pub with_command : AloneRun → OwnCommand → OwnState × Reply → AloneRun
with_command run command step = record { kept = noted run.kept step.0 command step.1; replies = run.replies ++ step.1 ∷ [] }

-- with one accepted check step more, which led to this own state
abbrev pub with_check : AloneRun → OwnState → AloneRun
with_check run own = record run { kept = record run.kept { own = own; checks = run.kept.checks + 1 } }

-- the items one after another; none where a check step is refused
abbrev pub alone : Terms → AloneRun → List Item → Option AloneRun
alone terms run [] = Some run
alone terms run (asked command ∷ items) = alone terms (with_command run command (own_step terms run.kept.own command)) items
alone terms run (checked ∷ items) = option_and_then (λ own. alone terms (with_check run own) items) (own_check terms run.kept.own)

-- the session keeps this at first; its own list, event by event, is these items, and their alone run leads to what it keeps at last; the answer to each of
-- its events is the one for what that run has then come to keep
abbrev pub OwnList : Terms → ℕ → Kept → List Event → List Answer → List Item → Kept → Type 0
OwnList terms id kept [] answers items last = (items ≡ []) × (last ≡ kept)
OwnList terms id kept (event ∷ events) [] items last = ⊥
OwnList terms id kept (event ∷ events) (answer ∷ answers) items last =
    (first : List Item) × (rest : List Item) × (mid : Kept) × AddsIf (is_of id event) event answer first mid
    × (is_of id event ≡ true → HasAnswer terms event answer kept mid)
    × (alone terms (at kept) first ≡ Some (record { kept = mid; replies = if is_of id event then told answer else [] }))
    × OwnList terms id mid events answers rest last × (items ≡ first ++ rest)

-- ---- the headline
-- what the session keeps at the start of a list of events, where it is open, and as it is opened where it isn't yet
abbrev pub started : World → ℕ → Kept
started on id = unwrap_or (kept_in on id) (kept_at_opening on.setting.rules)

-- what the session of this id is told in these events is what the alone run of its own list says, texts of saves and looks among it, and if it is open at
-- the end, what it keeps is where that run leads
pub record IsToldAlone (old : World) (id : ℕ) (events : List Event) (answers : List Answer) (new : World) : Type 0 where
  pub items : List Item
  pub last : Kept
  pub own_list : OwnList (terms_for old.setting) id (started old id) events answers items last
  pub replies : alone (terms_for old.setting) (at (started old id)) items ≡ Some (record { kept = last; replies = told_to id events answers })
  pub leads : IfSome (kept_in new id) (λ kept. kept ≡ last)
