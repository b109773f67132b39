-- Which lines of a script have replies at once, and which make a request that is handed to a session. This project's own.
use Rattle.std.specs.Prelude.{◌≡◌, ◌⊎◌, ℕ, ◌+◌, Option, Some, None, Result, Ok, Err, List, [], ◌∷◌, ◌++◌}
use Rattle.std.specs.List.{position}
use Rattle.mls_seat_lines.specs.mls_server.declared.answer.Answer.TheVariants.{Opened}
use Rattle.mls_seat_lines.specs.mls_server.declared.fault.OpenFault.{OpenFault}
use Rattle.mls_seat_lines.specs.mls_server.declared.fault.OpenFault.TheVariants.{OpenAlready}
use Rattle.mls_text.specs.Words.{same_word}
use Rattle.mls_seat_lines.specs.mls_wire.NameBooks.{Names}
use Rattle.mls_seat_lines.specs.mls_wire.Replies.{response_text}
use Rattle.mls_seat_lines.specs.mls_wire.declared.line.Line.{Line}
use Rattle.mls_seat_lines.specs.mls_wire.declared.line.Line.TheVariants.{Silent, Open, Close, Step, Steps, Audit, Look, Run}
use Rattle.mls_seat_lines.specs.mls_wire.declared.line.LineFault.{LineFault}
use Rattle.mls_seat_lines.specs.mls_wire.declared.line.LineFault.TheVariants.{NotOpen, UnknownCommand}
use Rattle.mls_seat_lines.specs.mls_wire.declared.response.Response.TheVariants.{Answered, Fault}
use Rattle.mls_crew.specs.declared.handed.Handed.{Handed}
use Rattle.mls_seat_lines.specs.declared.request.Request.{Request}
use Rattle.mls_seat_lines.specs.declared.request.Request.TheVariants.{Audit as AuditRequest, Look as LookRequest, Run as RunRequest}

-- the number of the session of this name, in the order of opening
abbrev pub number_of_session : List (List ℕ) → List ℕ → Option ℕ
number_of_session opened name = position (λ other. same_word name other) opened

-- what becomes of a line, given the names of the sessions that were opened before it: the text that is written at the head of the output, what is handed to a
-- session, and the names of the sessions opened up to here
pub record Sorted : Type 0 where
  pub head : List ℕ
  pub handed : List Handed
  pub opened : List (List ℕ)

-- what was sorted before, and then this
abbrev pub followed_by : Sorted → Sorted → Sorted
followed_by before next = record { head = before.head ++ next.head; handed = before.handed ++ next.handed; opened = next.opened }

-- the line has its reply at once, with this text
abbrev pub at_once : List (List ℕ) → List ℕ → Sorted
at_once opened text = record { head = text; handed = []; opened = opened }

-- line n has this fault
abbrev pub faulty : Names → ℕ → LineFault → List (List ℕ) → Sorted
faulty book n fault opened = at_once opened (response_text book n (Fault fault))

-- the request of line n is handed to the session of this number, or there is none
abbrev pub handed_to : Names → ℕ → List (List ℕ) → Option ℕ → Request → Sorted
handed_to book n opened (Some session) request = record { head = []; handed = record { session = session; request = request } ∷ []; opened = opened }
handed_to book n opened None request = faulty book n NotOpen opened

-- a session of this name was opened, where none had been; or opening is refused by a fault, the first where one had been
abbrev pub SortsOpening : Names → ℕ → List (List ℕ) → List ℕ → Sorted → Type 0
SortsOpening book n opened name sorted =
    ((number_of_session opened name ≡ None) × (sorted ≡ record { head = []; handed = []; opened = opened ++ name ∷ [] }))
    ⊎ ((fault : OpenFault) × (((number_of_session opened name ≡ None) ⊎ (fault ≡ OpenAlready)))
    × (sorted ≡ at_once opened (response_text book n (Answered name (Opened (Err fault))))))

-- what line n says is sorted
abbrev pub SortsLine : Names → ℕ → List (List ℕ) → Result Line LineFault → Sorted → Type 0
SortsLine book n opened (Err fault) sorted = sorted ≡ faulty book n fault opened
SortsLine book n opened (Ok Silent) sorted = sorted ≡ at_once opened []
SortsLine book n opened (Ok (Open name)) sorted = SortsOpening book n opened name sorted
SortsLine book n opened (Ok (Close name id)) sorted = sorted ≡ faulty book n UnknownCommand opened
SortsLine book n opened (Ok (Step name id)) sorted = sorted ≡ faulty book n UnknownCommand opened
SortsLine book n opened (Ok (Steps name id most)) sorted = sorted ≡ faulty book n UnknownCommand opened
SortsLine book n opened (Ok (Audit name id)) sorted = sorted ≡ handed_to book n opened (number_of_session opened name) AuditRequest
SortsLine book n opened (Ok (Look name id look)) sorted = sorted ≡ handed_to book n opened (number_of_session opened name) (LookRequest look)
SortsLine book n opened (Ok (Run name id command)) sorted = sorted ≡ handed_to book n opened (number_of_session opened name) (RunRequest command)

-- the lines from line n on are sorted one after another
abbrev pub Sorts : Names → ℕ → List (List ℕ) → List (Result Line LineFault) → Sorted → Type 0
Sorts book n opened [] sorted = sorted ≡ at_once opened []
Sorts book n opened (read ∷ lines) sorted =
    (first : Sorted) × (rest : Sorted) × SortsLine book n opened read first × Sorts book (n + 1) first.opened lines rest
    × (sorted ≡ followed_by first rest)
