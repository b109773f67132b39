-- What each event does to a world, and how it is answered. An event on a session depends on what that session keeps, and on no other; only opening
-- depends on what the others hold. This project's own.
use Rattle.std.specs.Prelude.{◌≡◌, ◌≢◌, ℕ, ◌+◌, ◌-◌, ◌||◌, ◌^◌, nat_le, nat_lt, is_some, if◌then◌else◌, Option, Some, None, Result, Ok, Err, List, [], ◌∷◌, ◌++◌, length}
use Rattle.std.specs.Option.{option_map_or}
use Rattle.std.specs.Result.{IsOkAnd}
use Rattle.mls_session.specs.mls_errorplane.Jobs.{IsNextJob}
use Rattle.mls_session.specs.mls_errorplane.declared.job.Job.{Job}
use Rattle.mls_session.specs.mls_checker.Findings.{Finding}
use Rattle.mls_session.specs.mls_errorplane.declared.error_plane.Outcome.{Outcome}
use Rattle.mls_session.specs.mls_errorplane.declared.error_plane.Stepped.{Stepped as StepEnd}
use Rattle.mls_session.specs.mls_library.CellFiles.{layout_of_rects}
use Rattle.mls_session.specs.mls_library.Faults.{UnlessMemory}
use Rattle.mls_session.specs.mls_library.Libraries.{loading_of, tile_counts, total}
use Rattle.mls_session.specs.mls_library.SavedCells.{saved_text}
use Rattle.mls_session.specs.mls_library.declared.fault.CellFault.{CellFault}
use Rattle.mls_session.specs.Journals.{ChecksTimes, Commands, Finishes, Kept, Saves, StepsOnce, StepsUpTo}
use Rattle.mls_session.specs.Looks.{Looks}
use Rattle.mls_session.specs.Own.{layout_of}
use Rattle.mls_session.specs.OwnSteps.{Terms}
use Rattle.mls_session.specs.declared.command.Command.{Command as OwnCommand}
use Rattle.mls_session.specs.declared.look.Look.{Look as OwnLook}
use Rattle.mls_session.specs.declared.look.Looked.{Looked as OwnLooked}
use Rattle.mls_session.specs.declared.reply.Reply.{Reply}
use Rattle.mls_session.specs.declared.step_run.StepRun.{StepRun}
use Rattle.mls_server.specs.Settings.{NamedLayout, cell_names, session_reserve, terms_for}
use Rattle.mls_server.specs.Worlds.{World, kept_in, session_named, with_kept, with_session, without_session}
use Rattle.mls_server.specs.declared.event.Event.{Event}
use Rattle.mls_server.specs.declared.event.Event.TheVariants.{Open, Close, Command, Save, Look, Grab, Finish, Step, Steps, Settle}
use Rattle.mls_server.specs.declared.answer.Answer.{Answer}
use Rattle.mls_server.specs.declared.answer.Answer.TheVariants.{Opened, Closed, Commanded, Saved, Looked, Grabbed, Finished, Stepped, SteppedTimes, Settled}
use Rattle.mls_server.specs.declared.fault.OpenFault.{OpenFault}
use Rattle.mls_server.specs.declared.fault.OpenFault.TheVariants.{OpenAlready, SessionsFull, PoolFull, Memory}
use Rattle.mls_server.specs.declared.fault.GrabFault.{GrabFault}
use Rattle.mls_server.specs.declared.fault.GrabFault.TheVariants.{NotOpen as NoSession, Memory as OutOfMemory}
use Rattle.mls_server.specs.declared.fault.NotOpen.{NotOpen}

-- ---- loading cells, before any session is open
-- with one cell more, whose planes take this many tiles
abbrev pub with_cell : World → NamedLayout → ℕ → World
with_cell on cell tiles = record on { setting = record on.setting { cells = on.setting.cells ++ cell ∷ [] }; room = on.room - tiles }

-- the cell is loaded as the definition reads it, under the next number, or there is its fault and nothing changes, unless memory ran out
abbrev pub LoadsCell : World → List ℕ → List ℕ → Result ℕ CellFault → World → Type 0
LoadsCell old name bytes (Ok id) new =
    IsOkAnd (loading_of old.setting.tech (cell_names old.setting) old.setting.cell_tiles old.room name bytes)
    (λ rects. (id ≡ length old.setting.cells) × (new ≡ with_cell old (record { name = name; layout = layout_of_rects rects }) (total (tile_counts old.setting.tech.plane_count rects))))
LoadsCell old name bytes (Err fault) new =
    UnlessMemory fault.kind fault.line (loading_of old.setting.tech (cell_names old.setting) old.setting.cell_tiles old.room name bytes ≡ Err fault) × (new ≡ old)

-- ---- opening and closing
-- the most sessions that may be open, and the most ids that may be given
abbrev pub most_sessions : ℕ
most_sessions = 64

abbrev pub most_ids : ℕ
most_ids = 2 ^ 64 - 1

-- why a session of this name can't be opened, memory aside: its name is that of an open session, or 64 are open or all ids were given, or the pool has
-- fewer unreserved tiles than its planes reserve
unfoldable pub open_fault : World → List ℕ → Option OpenFault
open_fault on name =
    if is_some (session_named on name) then Some OpenAlready
    else (if nat_le most_sessions (length on.seats) || nat_le most_ids on.given then Some SessionsFull
    else (if nat_lt on.room (session_reserve on.setting) then Some PoolFull else None))

-- a session is opened under the next id, or nothing changes: for the first fault, or because memory ran out
abbrev pub Opens : World → List ℕ → Result ℕ OpenFault → World → Type 0
Opens old name (Ok id) new = (open_fault old name ≡ None) × (id ≡ old.given + 1) × (new ≡ with_session old name)
Opens old name (Err Memory) new = (open_fault old name ≡ None) × (new ≡ old)
Opens old name (Err OpenAlready) new = (open_fault old name ≡ Some OpenAlready) × (new ≡ old)
Opens old name (Err SessionsFull) new = (open_fault old name ≡ Some SessionsFull) × (new ≡ old)
Opens old name (Err PoolFull) new = (open_fault old name ≡ Some PoolFull) × (new ≡ old)

-- the session is closed, and all that it held is given back; or it isn't open
abbrev pub Closes : World → ℕ → Result (Unit {0}) NotOpen → World → Type 0
Closes old id (Ok done) new = (kept_in old id ≢ None) × (new ≡ without_session old id)
Closes old id (Err fault) new = (kept_in old id ≡ None) × (new ≡ old)

-- ---- events on a session
-- the session does what the relation says, and no other changes; or it isn't open
abbrev pub OnSeat : {A : Type 0} → World → ℕ → (Kept → A → Kept → Type 0) → Result A NotOpen → World → Type 0
OnSeat old id Does (Ok answer) new =
    (before : Kept) × (after : Kept) × (kept_in old id ≡ Some before) × Does before answer after × (new ≡ with_kept old id after)
OnSeat old id Does (Err fault) new = (kept_in old id ≡ None) × (new ≡ old)

abbrev pub DoesCommand : World → ℕ → OwnCommand → Result Reply NotOpen → World → Type 0
DoesCommand old id command result new = OnSeat old id (λ before reply after. Commands (terms_for old.setting) before command reply after) result new

-- the text is that of the own paint, or empty where it isn't saved
abbrev pub SavesText : World → ℕ → Result Reply NotOpen → List ℕ → World → Type 0
SavesText old id (Ok reply) text new = OnSeat old id (λ before answer after. Saves (terms_for old.setting) before answer text after) (Ok reply) new
SavesText old id (Err fault) text new = (kept_in old id ≡ None) × (text ≡ []) × (new ≡ old)

-- the text of the session's own paint
abbrev pub own_text : World → ℕ → List ℕ
own_text on id = option_map_or (λ kept. saved_text on.setting.tech kept.own.design.drawn.paint) (kept_in on id) []

-- what a look at what the session keeps returns, and the text that comes with it; or it isn't open
abbrev pub LooksAt : World → ℕ → OwnLook → Result OwnLooked NotOpen → List ℕ → Type 0
LooksAt on id look (Ok looked) text = (kept : Kept) × (kept_in on id ≡ Some kept) × Looks (terms_for on.setting) kept look looked text
LooksAt on id look (Err fault) text = (kept_in on id ≡ None) × (text ≡ [])

abbrev pub DoesStep : World → ℕ → Result StepEnd NotOpen → World → Type 0
DoesStep old id result new = OnSeat old id (λ before end after. StepsOnce (terms_for old.setting) before end after) result new

-- at most so many check steps one after another
abbrev pub DoesSteps : World → ℕ → ℕ → Result StepRun NotOpen → World → Type 0
DoesSteps old id most result new = OnSeat old id (λ before run after. StepsUpTo (terms_for old.setting) most before run after) result new

abbrev pub DoesFinish : World → ℕ → Finding → Result Outcome NotOpen → World → Type 0
DoesFinish old id finding result new = OnSeat old id (λ before outcome after. Finishes (terms_for old.setting) before finding outcome after) result new

-- this many check steps one after another
abbrev pub DoesSettle : World → ℕ → Result ℕ NotOpen → World → Type 0
DoesSettle old id result new = OnSeat old id (λ before count after. ChecksTimes (terms_for old.setting) count before after) result new

-- the next job of the layout that the session keeps, if any
abbrev pub Grabs : Terms → Kept → Option Job → Type 0
Grabs terms kept job =
    IsNextJob terms.config.rules terms.config.tech.plane_count (layout_of terms.config kept.own.design.drawn) kept.own.design.checking job

-- the session's next job, and nothing changes
abbrev pub DoesGrab : World → ℕ → Result (Option Job) GrabFault → World → Type 0
DoesGrab old id (Ok job) new = (kept : Kept) × (kept_in old id ≡ Some kept) × Grabs (terms_for old.setting) kept job × (new ≡ old)
DoesGrab old id (Err NoSession) new = (kept_in old id ≡ None) × (new ≡ old)
DoesGrab old id (Err OutOfMemory) new = (kept : Kept) × (kept_in old id ≡ Some kept) × (kept.own.design.checking.dirty ≢ []) × (new ≡ old)

-- ---- any event
-- the event has this answer and leads to the new world
abbrev pub Happens : World → Event → Answer → World → Type 0
Happens old (Open name) answer new = (result : Result ℕ OpenFault) × (answer ≡ Opened result) × Opens old name result new
Happens old (Close id) answer new = (result : Result (Unit {0}) NotOpen) × (answer ≡ Closed result) × Closes old id result new
Happens old (Command id command) answer new = (result : Result Reply NotOpen) × (answer ≡ Commanded result) × DoesCommand old id command result new
Happens old (Save id) answer new = (result : Result Reply NotOpen) × (text : List ℕ) × (answer ≡ Saved result text) × SavesText old id result text new
Happens old (Look id look) answer new =
    (result : Result OwnLooked NotOpen) × (text : List ℕ) × (answer ≡ Looked result text) × LooksAt old id look result text × (new ≡ old)
Happens old (Grab id) answer new = (result : Result (Option Job) GrabFault) × (answer ≡ Grabbed result) × DoesGrab old id result new
Happens old (Finish id finding) answer new = (result : Result Outcome NotOpen) × (answer ≡ Finished result) × DoesFinish old id finding result new
Happens old (Step id) answer new = (result : Result StepEnd NotOpen) × (answer ≡ Stepped result) × DoesStep old id result new
Happens old (Steps id most) answer new = (result : Result StepRun NotOpen) × (answer ≡ SteppedTimes result) × DoesSteps old id most result new
Happens old (Settle id) answer new = (result : Result ℕ NotOpen) × (answer ≡ Settled result) × DoesSettle old id result new

-- the events have these answers, one after another, and lead to the new world
abbrev pub Runs : World → List Event → List Answer → World → Type 0
Runs old [] [] new = new ≡ old
Runs old [] (answer ∷ answers) new = ⊥
Runs old (event ∷ events) [] new = ⊥
Runs old (event ∷ events) (answer ∷ answers) new = (mid : World) × Happens old event answer mid × Runs mid events answers new
