-- The text of a line's response. Each reply ends with a line feed. This project's own.
use Rattle.std.specs.Prelude.{ℕ, ◌+◌, ◌==◌, Option, List, [], ◌∷◌, ◌++◌, Ok, Err, length, codes}
use Rattle.std.specs.List.{flat_map}
use Rattle.std.specs.Option.{unwrap_or}
use Rattle.mls_edgerule.specs.RuleSets.{rules_in}
use Rattle.mls_server.specs.mls_errorplane.declared.error_plane.Stepped.{Stepped as StepEnd}
use Rattle.mls_server.specs.mls_errorplane.declared.error_plane.Stepped.TheVariants.{Idle, Done as StepDone, Full, Memory as StepMemory}
use Rattle.mls_server.specs.mls_errorplane.Violations.{Violation, strip_count}
use Rattle.mls_geom.specs.Rects.{Rect}
use Rattle.mls_server.specs.mls_layout.declared.uses.CellUse.{CellUse}
use Rattle.mls_server.specs.mls_library.SavedCells.{rect_words, spaced}
use Rattle.mls_kinds.specs.KindSets.{difference, members, set_of}
use Rattle.mls_server.specs.mls_session.Refusals.{refusal_number, refusal_text}
use Rattle.mls_server.specs.mls_session.declared.look.Looked.{Looked}
use Rattle.mls_server.specs.mls_session.declared.look.Looked.TheVariants.{Saved as SavedLook, Why as WhyLook, Status as StatusLook, Uses as UsesLook, Marked as MarkedLook, Errors as ErrorsLook, Violations as ViolationsLook, Journal as JournalLook, Refused as RefusedLook}
use Rattle.mls_server.specs.mls_session.declared.look.Status.{Status}
use Rattle.mls_server.specs.mls_session.declared.reply.Reply.{Reply}
use Rattle.mls_server.specs.mls_session.declared.reply.Reply.TheVariants.{Done, Kinds, Saved, Count, Why, Refused, Stopped}
use Rattle.mls_wire.specs.JournalLines.{journal_text}
use Rattle.mls_server.specs.mls_session.declared.step_run.StepRun.{StepRun}
use Rattle.mls_wire.specs.NameBooks.{Names}
use Rattle.mls_wire.specs.Says.{line_fault_number, line_fault_text}
use Rattle.std.specs.Fmt.{decimal, signed_decimal}
use Rattle.mls_wire.specs.declared.response.Response.{Response}
use Rattle.mls_wire.specs.declared.response.Response.TheVariants.{Silent, Fault, Answered, Audited}
use Rattle.mls_server.specs.Faults.{open_fault_number, open_fault_text}
use Rattle.mls_server.specs.declared.answer.Answer.{Answer}
use Rattle.mls_server.specs.declared.answer.Answer.TheVariants.{Opened, Closed, Commanded, Saved as SavedAs, Looked as LookedAt, Grabbed, Finished, Stepped, SteppedTimes, Settled}

-- a number and its text, with a space between
abbrev pub numbered : ℕ → List ℕ → List ℕ
numbered n text = decimal n ++ 32 ∷ text

-- the kinds other than space
unfoldable pub without_space : ℕ → ℕ
without_space kinds = difference kinds (set_of (λ kind. kind == 0))

-- a text, or none
abbrev pub text_if_any : Option (List ℕ) → List ℕ
text_if_any text = unwrap_or text []

-- a space and the type's first name
abbrev pub type_text : Names → ℕ → List ℕ
type_text book kind = 32 ∷ text_if_any (book.type_name kind)

-- those of a set of types, in the order of their numbers
abbrev pub types_text : Names → ℕ → List ℕ
types_text book kinds = flat_map (type_text book) (members kinds)

-- a space, the rule's number in brackets, and its why text
abbrev pub rule_text : Names → ℕ → List ℕ
rule_text book n = codes " [" ++ decimal n ++ codes "] " ++ text_if_any (book.why_text n)

-- those of a set of rules, in rising order
abbrev pub rules_text : Names → ℕ → List ℕ
rules_text book rules = flat_map (rule_text book) (rules_in rules)

-- how many areas await checking
abbrev pub pending_text : ℕ → List ℕ
pending_text pending = 32 ∷ decimal pending ++ codes " pending"

-- how a check step ended
abbrev pub stepped_text : StepEnd → List ℕ
stepped_text Idle = codes "idle"
stepped_text StepDone = codes "done"
stepped_text Full = codes "full"
stepped_text StepMemory = codes "memory"

-- how many check steps were done, and how they ended
abbrev pub steps_text : StepRun → List ℕ
steps_text run = decimal run.done ++ 32 ∷ stepped_text run.ended

-- a reply without its line's first word and its line feed
unfoldable pub reply_text : Names → Reply → List ℕ
reply_text book Done = codes "ok"
reply_text book (Kinds kinds) = codes "what " ++ decimal (length (members (without_space kinds))) ++ types_text book (without_space kinds)
reply_text book (Saved lines) = codes "saved " ++ decimal lines
reply_text book (Count errors pending) = codes "count " ++ decimal errors ++ codes " errors" ++ pending_text pending
reply_text book (Why rules) = codes "why " ++ decimal (length (rules_in rules)) ++ rules_text book rules
reply_text book (Refused refusal) = codes "refused " ++ numbered (refusal_number refusal) (refusal_text refusal)
reply_text book (Stopped refusal pending) = codes "refused " ++ numbered (refusal_number refusal) (refusal_text refusal) ++ pending_text pending

-- a space and how many tiles a plane has
abbrev pub tiles_text : ℕ → List ℕ
tiles_text count = 32 ∷ decimal count

-- so many of at most so many
abbrev pub share_text : ℕ → ℕ → List ℕ
share_text count limit = decimal count ++ codes " of " ++ decimal limit

-- how many check steps were done since the last entry of the journal, and how many areas await checking
unfoldable pub checks_text : Status → List ℕ
checks_text status = decimal status.steps ++ codes " steps since, " ++ decimal status.areas ++ codes " dirty"

-- how far a session has come
abbrev pub progress_text : Status → List ℕ
progress_text status = share_text status.entries status.limit ++ codes " entries, " ++ checks_text status

-- how many tiles its planes have
unfoldable pub room_text : Status → List ℕ
room_text status =
    flat_map tiles_text status.tiles ++ codes " of " ++ decimal status.quota ++ codes " tiles, " ++ share_text status.mark_tiles status.quota ++ codes " mark tiles"

abbrev pub status_text : Status → List ℕ
status_text status = codes "stat " ++ progress_text status ++ codes "," ++ room_text status

-- a line feed, and the line that places a cell so, without its own line feed
abbrev pub use_text : Names → CellUse → List ℕ
use_text book cell_use =
    10 ∷ codes "getcell " ++ text_if_any (book.cell_name cell_use.cell) ++ 32 ∷ signed_decimal cell_use.dx ++ 32 ∷ signed_decimal cell_use.dy

-- a line feed, and the line of a strip as a cell file has it, without its own line feed
abbrev pub strip_text : Rect → List ℕ
strip_text strip = 10 ∷ spaced (rect_words strip)

-- a line feed, a rule's number and its why text, and the lines of the strips of what it forbids
abbrev pub violation_text : Names → Violation → List ℕ
violation_text book violation =
    10 ∷ codes "rule " ++ decimal violation.rule ++ 32 ∷ text_if_any (book.why_text violation.rule) ++ flat_map strip_text violation.strips

-- the number of the lines of what rules forbid, and these lines
unfoldable pub violations_text : Names → List Violation → List ℕ
violations_text book found = codes "violations " ++ decimal (length found + strip_count found) ++ flat_map (violation_text book) found

-- what a look at the session of a name returned, without its line's first word and its line feed: a text and rules as a command's reply has them
unfoldable pub looked_text : Names → List ℕ → Looked → List ℕ
looked_text book name (SavedLook lines) = reply_text book (Saved lines)
looked_text book name (WhyLook rules) = reply_text book (Why rules)
looked_text book name (StatusLook status) = status_text status
looked_text book name (UsesLook uses) = codes "uses " ++ decimal (length uses) ++ flat_map (use_text book) uses
looked_text book name (MarkedLook lines) = codes "marked " ++ decimal lines
looked_text book name (ErrorsLook lines) = codes "errors " ++ decimal lines
looked_text book name (ViolationsLook found) = violations_text book found
looked_text book name (JournalLook journal) = journal_text book name journal
looked_text book name (RefusedLook refusal) = reply_text book (Refused refusal)

-- the reply text of an answer by the session's name; answers that no line has are of no text
unfoldable pub answer_text : Names → List ℕ → Answer → List ℕ
answer_text book name (Opened (Ok id)) = name ++ codes " opened" ++ 10 ∷ []
answer_text book name (Opened (Err fault)) = name ++ codes " refused open " ++ numbered (open_fault_number fault) (open_fault_text fault) ++ 10 ∷ []
answer_text book name (Closed (Ok done)) = name ++ codes " closed" ++ 10 ∷ []
answer_text book name (Closed (Err fault)) = []
answer_text book name (Commanded (Ok reply)) = name ++ 32 ∷ reply_text book reply ++ 10 ∷ []
answer_text book name (Commanded (Err fault)) = []
answer_text book name (SavedAs (Ok reply) text) = name ++ 32 ∷ reply_text book reply ++ 10 ∷ text
answer_text book name (SavedAs (Err fault) text) = []
answer_text book name (LookedAt (Ok looked) text) = name ++ 32 ∷ looked_text book name looked ++ 10 ∷ text
answer_text book name (LookedAt (Err fault) text) = []
answer_text book name (Grabbed result) = []
answer_text book name (Finished result) = []
answer_text book name (Settled result) = []
answer_text book name (Stepped (Ok end)) = name ++ codes " step " ++ stepped_text end ++ 10 ∷ []
answer_text book name (Stepped (Err fault)) = []
answer_text book name (SteppedTimes (Ok run)) = name ++ codes " steps " ++ steps_text run ++ 10 ∷ []
answer_text book name (SteppedTimes (Err fault)) = []

-- the reply text of the response to line n
unfoldable pub response_text : Names → ℕ → Response → List ℕ
response_text book n Silent = []
response_text book n (Fault fault) = codes "line " ++ decimal n ++ codes " fault " ++ numbered (line_fault_number fault) (line_fault_text fault) ++ 10 ∷ []
response_text book n (Answered name answer) = answer_text book name answer
response_text book n (Audited name entries) = name ++ codes " audited " ++ decimal entries ++ 10 ∷ []
