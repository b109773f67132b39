-- Whole runs of a script over a server. Each line asks for one event at most. This project's own.
use Rattle.std.specs.Prelude.{◌≡◌, ◌≢◌, ℕ, ◌+◌, Option, Some, None, Result, Ok, Err, List, [], ◌∷◌, ◌++◌, length}
use Rattle.mls_server.specs.mls_session.Journals.{Kept}
use Rattle.mls_server.specs.mls_session.declared.command.Command.{Command}
use Rattle.mls_server.specs.mls_session.declared.command.Command.TheVariants.{Box, Paint, Erase, Dump, GetCell, What, Save as SaveCommand, Check, CatchUp, Why, Count}
use Rattle.mls_server.specs.Events.{Happens}
use Rattle.mls_server.specs.OwnLists.{IsToldAlone}
use Rattle.mls_server.specs.Worlds.{JournalsAreLegal, MarksAreExact, MarksAreRight, World, kept_in, session_named}
use Rattle.mls_server.specs.declared.answer.Answer.{Answer}
use Rattle.mls_server.specs.declared.event.Event.{Event}
use Rattle.mls_server.specs.declared.event.Event.TheVariants.{Open as OpenEvent, Close as CloseEvent, Command as CommandEvent, Save as SaveEvent, Look as LookEvent, Step as StepEvent, Steps as StepsEvent}
use Rattle.mls_wire.specs.NameBooks.{book_of}
use Rattle.mls_wire.specs.Replies.{response_text}
use Rattle.mls_wire.specs.Says.{line_says}
use Rattle.mls_wire.specs.declared.line.Line.{Line}
use Rattle.mls_wire.specs.declared.line.Line.TheVariants.{Silent, Open, Close, Step, Steps, Audit, Look, Run}
use Rattle.mls_wire.specs.declared.line.LineFault.{LineFault}
use Rattle.mls_wire.specs.declared.response.Response.{Response}
use Rattle.mls_wire.specs.declared.response.Response.TheVariants.{Silent as NoResponse, Fault, Answered, Audited}

-- ---- a line
-- what it says in a world, or its first fault
abbrev pub says_in : World → Option (List ℕ) → Result Line LineFault
says_in on line = line_says (book_of on) (session_named on) line

-- a command asks for itself, and `save` for the text too
abbrev pub command_event : ℕ → Command → Event
command_event id (Box left bottom right top) = CommandEvent id (Box left bottom right top)
command_event id (Paint kind) = CommandEvent id (Paint kind)
command_event id (Erase kinds) = CommandEvent id (Erase kinds)
command_event id (Dump cell dx dy) = CommandEvent id (Dump cell dx dy)
command_event id (GetCell cell dx dy) = CommandEvent id (GetCell cell dx dy)
command_event id What = CommandEvent id What
command_event id SaveCommand = SaveEvent id
command_event id Check = CommandEvent id Check
command_event id CatchUp = CommandEvent id CatchUp
command_event id Why = CommandEvent id Why
command_event id Count = CommandEvent id Count

-- the event that a line asks for, if any
abbrev pub event_of : Line → Option Event
event_of Silent = None
event_of (Open name) = Some (OpenEvent name)
event_of (Close name id) = Some (CloseEvent id)
event_of (Step name id) = Some (StepEvent id)
event_of (Steps name id most) = Some (StepsEvent id most)
event_of (Audit name id) = None
event_of (Look name id look) = Some (LookEvent id look)
event_of (Run name id command) = Some (command_event id command)

-- the event happens, and its answer is the response
abbrev pub Asks : World → List ℕ → Event → Response → World → Type 0
Asks old name event response new = (answer : Answer) × (response ≡ Answered name answer) × Happens old event answer new

-- what a line says has this response, and leads to the new world
abbrev pub Executes : World → Result Line LineFault → Response → World → Type 0
Executes old (Err fault) response new = (response ≡ Fault fault) × (new ≡ old)
Executes old (Ok Silent) response new = (response ≡ NoResponse) × (new ≡ old)
Executes old (Ok (Open name)) response new = Asks old name (OpenEvent name) response new
Executes old (Ok (Close name id)) response new = Asks old name (CloseEvent id) response new
Executes old (Ok (Step name id)) response new = Asks old name (StepEvent id) response new
Executes old (Ok (Steps name id most)) response new = Asks old name (StepsEvent id most) response new
Executes old (Ok (Audit name id)) response new =
    (kept : Kept) × (kept_in old id ≡ Some kept) × (response ≡ Audited name kept.own.entries) × (new ≡ old)
Executes old (Ok (Look name id look)) response new = Asks old name (LookEvent id look) response new
Executes old (Ok (Run name id command)) response new = Asks old name (command_event id command) response new

-- a line's session is open
abbrev pub CanExecute : World → Line → Type 0
CanExecute on Silent = Unit {0}
CanExecute on (Open name) = Unit {0}
CanExecute on (Close name id) = kept_in on id ≢ None
CanExecute on (Step name id) = kept_in on id ≢ None
CanExecute on (Steps name id most) = kept_in on id ≢ None
CanExecute on (Audit name id) = kept_in on id ≢ None
CanExecute on (Look name id look) = kept_in on id ≢ None
CanExecute on (Run name id command) = kept_in on id ≢ None

-- ---- what lines ask for
-- an event, or none
abbrev pub listed : {A : Type 0} → Option A → List A
listed None = []
listed (Some event) = event ∷ []

abbrev pub events_of : Result Line LineFault → List Event
events_of (Ok said) = listed (event_of said)
events_of (Err fault) = []

-- the answer that a response has
abbrev pub answers_of : Response → List Answer
answers_of NoResponse = []
answers_of (Fault fault) = []
answers_of (Answered name answer) = answer ∷ []
answers_of (Audited name entries) = []

-- ---- lines
-- what holds after each line: the marks of each open session are right outside the areas that await checking, and exact
-- where there is none, and its journal is legal
pub record IsSound (on : World) : Type 0 where
  pub right : MarksAreRight on
  pub exact : MarksAreExact on
  pub legal : JournalsAreLegal on

-- line n has this reply text, asks for these events and gets these answers, at most one, and leads to the new world
abbrev pub RunsLine : World → ℕ → Option (List ℕ) → List ℕ → List Event → List Answer → World → Type 0
RunsLine old n line text events answers new =
    (response : Response) × Executes old (says_in old line) response new × (text ≡ response_text (book_of new) n response)
    × (events ≡ events_of (says_in old line)) × (answers ≡ answers_of response) × IsSound new

-- the lines from line n on have these reply texts, events and answers, one after another, and lead to the new world
abbrev pub RunsLines : World → ℕ → List (Option (List ℕ)) → List ℕ → List Event → List Answer → World → Type 0
RunsLines old n [] out events answers new = (out ≡ []) × (events ≡ []) × (answers ≡ []) × (new ≡ old)
RunsLines old n (line ∷ lines) out events answers new =
    (text : List ℕ) × (asked : List Event) × (answered : List Answer) × (mid : World)
    × (rest : List ℕ) × (more_events : List Event) × (more_answers : List Answer)
    × RunsLine old n line text asked answered mid × RunsLines mid (n + 1) lines rest more_events more_answers new
    × (out ≡ text ++ rest) × (events ≡ asked ++ more_events) × (answers ≡ answered ++ more_answers)

-- each session is told in these events what it would be told alone
abbrev pub AreToldAlone : World → List Event → List Answer → World → Type 0
AreToldAlone old events answers new = (id : ℕ) → IsToldAlone old id events answers new

-- the lines from line 1 on were run
pub record RunsScript (old : World) (lines : List (Option (List ℕ))) (out : List ℕ) (new : World) : Type 0 where
  pub events : List Event
  pub answers : List Answer
  pub runs : RunsLines old 1 lines out events answers new
  pub alone : AreToldAlone old events answers new

-- the lines from line 1 on were run, with all reply texts but that of the last line, of which `front` was written
pub record RunsUpTo (old : World) (lines : List (Option (List ℕ))) (front out : List ℕ) (new : World) : Type 0 where
  pub before : List (Option (List ℕ))
  pub last : Option (List ℕ)
  pub order : lines ≡ before ++ last ∷ []
  pub mid : World
  pub replies : List ℕ
  pub missing : List ℕ
  pub events : List Event
  pub answers : List Answer
  pub asked : List Event
  pub answered : List Answer
  pub runs : RunsLines old 1 before replies events answers mid
  pub cut : RunsLine mid (length before + 1) last (front ++ missing) asked answered new
  pub alone : AreToldAlone old (events ++ asked) (answers ++ answered) new
  pub written : out ≡ replies ++ front
