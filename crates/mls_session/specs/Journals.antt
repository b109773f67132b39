-- A session's journal: what was said, and how many check steps were done in between. A journal is legal where a session of its own, by the same commands
-- and check steps, gives the same replies. This project's own.
use Rattle.std.specs.Prelude.{◌≡◌, ◌≢◌, ℕ, ◌+◌, ◌<◌, ◌++◌, ◌&&◌, Bool, true, false, not, if◌then◌else◌, ◌⊎◌, Option, Some, None, List, [], ◌∷◌, length, map, All, option_and_then, option_map}
use Rattle.mls_session.specs.Common.{EdgeRule, Finding, IsFresh, Layout, Outcome, Stepped, Tech, saved_text}
use Rattle.mls_errorplane.specs.declared.error_plane.Outcome.TheVariants.{Finished, Stale, Full as FinishFull}
use Rattle.mls_errorplane.specs.declared.error_plane.Stepped.TheVariants.{Idle, Done as StepDone, Full, Memory as StepMemory}
use Rattle.mls_session.specs.Own.{layout_of}
use Rattle.mls_session.specs.OwnSteps.{OwnState, Terms, beginning, checks, own_check, own_step}
use Rattle.mls_session.specs.declared.command.Command.{Command}
use Rattle.mls_session.specs.declared.command.Command.TheVariants.{Box, Paint, Erase, Dump, GetCell, What, Save, Check, CatchUp, Why, Count}
use Rattle.mls_session.specs.declared.journal.Entry.{Entry}
use Rattle.mls_session.specs.declared.journal.Said.{Said}
use Rattle.mls_session.specs.declared.refusal.Refusal.{Refusal}
use Rattle.mls_session.specs.declared.refusal.Refusal.TheVariants.{JournalFull, Memory}
use Rattle.mls_session.specs.declared.reply.Reply.{Reply}
use Rattle.mls_session.specs.declared.step_run.StepRun.{StepRun}
use Rattle.mls_session.specs.declared.reply.Reply.TheVariants.{Done, Kinds, Saved, Count as Counted, Why as WhyRules, Refused, Stopped}

-- what a session keeps: its own state, its journal, and how many check steps were done since the journal's last entry
pub record Kept : Type 0 where
  pub own : OwnState
  pub journal : List Entry
  pub checks : ℕ

-- how a session begins
abbrev pub kept_at_opening : List EdgeRule → Kept
kept_at_opening rules = record { own = beginning rules; journal = []; checks = 0 }

-- ---- entries
-- memory ran out
abbrev pub is_memory : Refusal → Bool
is_memory Memory = true
is_memory _ = false

-- the journal was full
abbrev pub is_full : Refusal → Bool
is_full JournalFull = true
is_full _ = false

-- the reply is a refusal of this kind
abbrev pub is_refusal : (Refusal → Bool) → Reply → Bool
is_refusal kind (Refused refusal) = kind refusal
is_refusal kind (Stopped refusal pending) = kind refusal
is_refusal kind Done = false
is_refusal kind (Kinds kinds) = false
is_refusal kind (Saved lines) = false
is_refusal kind (Counted errors pending) = false
is_refusal kind (WhyRules rules) = false

-- a command with this reply goes into the journal, unless it is refused because the journal is full or because memory ran out
abbrev pub is_journalled : Reply → Bool
is_journalled reply = not (is_refusal is_full reply) && not (is_refusal is_memory reply)

abbrev pub said_of : Command → Reply → Said
said_of command reply = record { command = command; reply = reply }

-- what is kept after a command that led to this own state with this reply
abbrev pub noted : Kept → OwnState → Command → Reply → Kept
noted kept own command reply =
    if is_journalled reply
    then record { own = own; journal = kept.journal ++ record { checks_before = kept.checks; said = said_of command reply } ∷ []; checks = 0 }
    else record kept { own = own }

-- ---- what a session does
-- the command takes the session's own step
abbrev pub Does : Terms → Kept → Command → Reply → Kept → Type 0
Does terms old command reply new = (own : OwnState) × (own_step terms old.own command ≡ (own, reply)) × (new ≡ noted old own command reply)

-- memory ran out: `why`, and `what` where cells are placed, change nothing, and catching up keeps the check steps that it did, with some areas left
abbrev pub RunsOut : Terms → Kept → Command → Reply → Kept → Type 0
RunsOut terms old CatchUp reply new =
    (count : ℕ) × (own : OwnState) × (checks terms count old.own ≡ Some own) × (own.design.checking.dirty ≢ [])
    × (reply ≡ Stopped Memory (length own.design.checking.dirty)) × (new ≡ record old { own = own; checks = old.checks + count })
RunsOut terms old Why reply new = (old.own.design.drawn.box ≢ None) × (reply ≡ Refused Memory) × (new ≡ old)
RunsOut terms old (Box left bottom right top) reply new = ⊥
RunsOut terms old (Paint kind) reply new = ⊥
RunsOut terms old (Erase kinds) reply new = ⊥
RunsOut terms old (Dump cell dx dy) reply new = ⊥
RunsOut terms old (GetCell cell dx dy) reply new = ⊥
RunsOut terms old What reply new =
    (old.own.design.drawn.box ≢ None) × (old.own.design.drawn.uses ≢ []) × (reply ≡ Refused Memory) × (new ≡ old)
RunsOut terms old Save reply new = ⊥
RunsOut terms old Check reply new = ⊥
RunsOut terms old Count reply new = ⊥

-- the command has this reply; a full journal is noticed first
abbrev pub Commands : Terms → Kept → Command → Reply → Kept → Type 0
Commands terms old command reply new = Does terms old command reply new ⊎ ((old.own.entries ≢ terms.journal) × RunsOut terms old command reply new)

-- the text that a reply to `save` comes with
abbrev pub text_with : Tech → Layout → Reply → List ℕ
text_with tech layout (Saved lines) = saved_text tech layout
text_with tech layout (Refused refusal) = []
text_with tech layout (Stopped refusal pending) = []
text_with tech layout Done = []
text_with tech layout (Kinds kinds) = []
text_with tech layout (Counted errors pending) = []
text_with tech layout (WhyRules rules) = []

-- the own paint is saved, as the command's own step says; or memory ran out, and nothing changed
abbrev pub Saves : Terms → Kept → Reply → List ℕ → Kept → Type 0
Saves terms old reply text new =
    (Does terms old Save reply new × (text ≡ text_with terms.config.tech old.own.design.drawn.paint reply))
    ⊎ ((old.own.entries ≢ terms.journal) × (reply ≡ Refused Memory) × (text ≡ []) × (new ≡ old))

-- one accepted check step, which is counted
abbrev pub ChecksOnce : Terms → Kept → Kept → Type 0
ChecksOnce terms old new = (own : OwnState) × (own_check terms old.own ≡ Some own) × (new ≡ record old { own = own; checks = old.checks + 1 })

-- how a check step ended, and what is kept after it
abbrev pub StepsOnce : Terms → Kept → Stepped → Kept → Type 0
StepsOnce terms old Idle new = (old.own.design.checking.dirty ≡ []) × (new ≡ old)
StepsOnce terms old StepDone new = ChecksOnce terms old new
StepsOnce terms old Full new = (old.own.design.checking.dirty ≢ []) × (own_check terms old.own ≡ None) × (new ≡ old)
StepsOnce terms old StepMemory new = (old.own.design.checking.dirty ≢ []) × (new ≡ old)

-- this many accepted check steps one after another, which are counted
abbrev pub ChecksTimes : Terms → ℕ → Kept → Kept → Type 0
ChecksTimes terms count old new = (own : OwnState) × (checks terms count old.own ≡ Some own) × (new ≡ record old { own = own; checks = old.checks + count })

-- what stands in the way of the next check step, if fewer were done than were asked for
abbrev pub EndsSteps : Terms → ℕ → ℕ → Stepped → OwnState → Type 0
EndsSteps terms most done StepDone own = done ≡ most
EndsSteps terms most done Idle own = (done < most) × (own.design.checking.dirty ≡ [])
EndsSteps terms most done Full own = (done < most) × (own.design.checking.dirty ≢ []) × (own_check terms own ≡ None)
EndsSteps terms most done StepMemory own = (done < most) × (own.design.checking.dirty ≢ [])

-- at most so many check steps one after another: how many were accepted, and how they ended
abbrev pub StepsUpTo : Terms → ℕ → Kept → StepRun → Kept → Type 0
StepsUpTo terms most old run new = ChecksTimes terms run.done old new × EndsSteps terms most run.done run.ended new.own

-- the finding is by the rules, of the first piece, and of the layout as it is now in the finding's zone
abbrev pub IsFreshFor : Terms → Kept → Finding → Type 0
IsFreshFor terms kept finding = IsFresh terms.config.rules terms.config.tech.plane_count (layout_of terms.config kept.own.design.drawn) kept.own.design.checking finding

-- how finishing a finding ended, and what is kept after it
abbrev pub Finishes : Terms → Kept → Finding → Outcome → Kept → Type 0
Finishes terms old finding Finished new = IsFreshFor terms old finding × ChecksOnce terms old new
Finishes terms old finding Stale new = (¬ (IsFreshFor terms old finding)) × (new ≡ old)
Finishes terms old finding FinishFull new = IsFreshFor terms old finding × (own_check terms old.own ≡ None) × (new ≡ old)

-- ---- legal journals
-- the own state to which commands led, and their replies
pub record Run : Type 0 where
  pub own : OwnState
  pub replies : List Reply

-- with one command more
abbrev pub said_next : Terms → Run → OwnState → Command → Run
said_next terms run own command = record { own = (own_step terms own command).0; replies = run.replies ++ (own_step terms own command).1 ∷ [] }

-- the commands of a journal, each after its check steps; none where a check step is refused
abbrev pub run_from : Terms → Run → List Entry → Option Run
run_from terms run [] = Some run
run_from terms run (entry ∷ rest) =
    option_and_then (λ own. run_from terms (said_next terms run own entry.said.command) rest) (checks terms entry.checks_before run.own)

-- from the opening, with nobody else on the server
abbrev pub alone_run : Terms → List Entry → Option Run
alone_run terms journal = run_from terms (record { own = beginning terms.config.rules; replies = [] }) journal

-- and then this many check steps
abbrev pub alone_run_with : Terms → List Entry → ℕ → Option Run
alone_run_with terms journal since = option_and_then (λ run. option_map (λ own. record run { own = own }) (checks terms since run.own)) (alone_run terms journal)

-- the journal has no refusal because it was full or memory ran out, and its commands and check steps alone have its replies and lead to the own state
-- that is kept
pub record IsLegal (terms : Terms) (kept : Kept) : Type 0 where
  pub journalled : All (λ (entry : Entry). is_journalled entry.said.reply ≡ true) kept.journal
  pub leads : alone_run_with terms kept.journal kept.checks ≡ Some (record { own = kept.own; replies = map (λ entry. entry.said.reply) kept.journal })
