-- What a line does at the seat of its name's thread, and its reply. This project's own.
use Rattle.std.specs.Prelude.{◌≡◌, ◌⊎◌, ℕ, Bool, true, Option, Some, None, Result, Ok, Err, List, []}
use Rattle.std.specs.Bool.{MatchBool}
use Rattle.std.specs.Option.{option_map}
use Rattle.mls_seat_lines.specs.mls_live.Lists.{list_of}
use Rattle.mls_seat_lines.specs.mls_server.LegalLists.{IsLegalList}
use Rattle.mls_seat_lines.specs.mls_server.declared.answer.Answer.TheVariants.{Closed, Opened}
use Rattle.mls_seat_lines.specs.mls_server.declared.fault.OpenFault.{OpenFault}
use Rattle.mls_seat_lines.specs.mls_server.declared.fault.OpenFault.TheVariants.{OpenAlready, SessionsFull}
use Rattle.mls_seat_lines.specs.mls_session.OwnSteps.{Terms}
use Rattle.mls_seat_lines.specs.mls_session.declared.journal.Said.{Said}
use Rattle.mls_text.specs.Words.{same_word}
use Rattle.mls_seat_lines.specs.mls_wire.NameBooks.{Names}
pub use Rattle.mls_seat_lines.specs.mls_wire.Replies.{response_text}
use Rattle.mls_seat_lines.specs.mls_wire.Replies.{answer_text}
use Rattle.mls_seat_lines.specs.mls_wire.declared.line.Line.{Line}
use Rattle.mls_seat_lines.specs.mls_wire.declared.line.Line.TheVariants.{Silent, Open, Close, Step, Steps, Audit, Look, Run}
use Rattle.mls_seat_lines.specs.mls_wire.declared.line.LineFault.{LineFault}
use Rattle.mls_seat_lines.specs.mls_wire.declared.line.LineFault.TheVariants.{NotOpen, UnknownCommand}
use Rattle.mls_seat_lines.specs.mls_wire.declared.response.Response.TheVariants.{Fault}
use Rattle.mls_seat_lines.specs.Requests.{ServesRequest}
use Rattle.mls_seat_lines.specs.declared.request.Request.{Request}
use Rattle.mls_seat_lines.specs.declared.request.Request.TheVariants.{Audit as AuditRequest, Look as LookRequest, Run as RunRequest}
use Rattle.mls_lines.specs.declared.seating.Sitting.{Sitting}
use Rattle.mls_seat_lines.specs.mls_live.declared.naming.Naming.{Ghosts}

-- the session that is open: its name, and the list of its seat
pub record OpenSeat : Type 0 where
  pub name : List ℕ
  pub said : List Said

abbrev pub held_by : {X : Type 0} {N : Ghosts X} → Option (Sitting X N) → Option OpenSeat
held_by sitting = option_map (λ s. let held : OpenSeat = record { name = s.name; said = list_of s.seat } in held) sitting

-- the name of the session that is open
abbrev pub name_held : Option OpenSeat → Option (List ℕ)
name_held held = option_map (λ h. h.name) held

-- line n has this fault, and nothing changes
abbrev pub IsFaulty : Names → ℕ → LineFault → Option OpenSeat → List ℕ → Option OpenSeat → Type 0
IsFaulty book n fault held text now = (text ≡ response_text book n (Fault fault)) × (now ≡ held)

-- the fault of a line where no session of its name is open
abbrev pub fault_alone : Line → LineFault
fault_alone (Step name id) = UnknownCommand
fault_alone (Steps name id most) = UnknownCommand
fault_alone _ = NotOpen

-- the opening of this name is refused by this fault
abbrev pub refused_text : Names → List ℕ → OpenFault → List ℕ
refused_text book name fault = answer_text book name (Opened (Err fault))

-- a session of this name is opened, with a new list, or is refused. It is refused where one is open
abbrev pub OpensAt : Names → List ℕ → Option OpenSeat → List ℕ → Option OpenSeat → Type 0
OpensAt book name None text now =
    ((id : ℕ) × (text ≡ answer_text book name (Opened (Ok id))) × (now ≡ Some (record { name = name; said = [] })))
    ⊎ ((fault : OpenFault) × (text ≡ refused_text book name fault) × (now ≡ None))
OpensAt book name (Some held) text now =
    (now ≡ Some held) × MatchBool (same_word held.name name) (text ≡ refused_text book name OpenAlready) (text ≡ refused_text book name SessionsFull)

-- the session is closed. Where its list was audited, it is that of a legal journal
abbrev pub ClosesAt : Terms → Names → ℕ → List ℕ → Option OpenSeat → List ℕ → Bool → Option OpenSeat → Type 0
ClosesAt terms book n name None text audited now = IsFaulty book n NotOpen None text now
ClosesAt terms book n name (Some held) text audited now =
    (text ≡ answer_text book name (Closed (Ok tt))) × (now ≡ None) × (audited ≡ true → IsLegalList terms held.said)

-- the request of line n is served at the seat
abbrev pub ServesAt : Terms → Names → ℕ → Request → Option OpenSeat → List ℕ → Option OpenSeat → Type 0
ServesAt terms book n request None text now = IsFaulty book n NotOpen None text now
ServesAt terms book n request (Some held) text now =
    (said : List Said) × ServesRequest terms book held.name held.said request text said × (now ≡ Some (record held { said = said }))

-- line n, which says this, has this text and leaves this session; where one is closed, its list was audited, or not. Check steps are no lines here
abbrev pub AnswersLine : Terms → Names → ℕ → Result Line LineFault → Option OpenSeat → List ℕ → Bool → Option OpenSeat → Type 0
AnswersLine terms book n (Err fault) held text audited now = IsFaulty book n fault held text now
AnswersLine terms book n (Ok Silent) held text audited now = (text ≡ []) × (now ≡ held)
AnswersLine terms book n (Ok (Open name)) held text audited now = OpensAt book name held text now
AnswersLine terms book n (Ok (Close name id)) held text audited now = ClosesAt terms book n name held text audited now
AnswersLine terms book n (Ok (Audit name id)) held text audited now = ServesAt terms book n AuditRequest held text now
AnswersLine terms book n (Ok (Look name id look)) held text audited now = ServesAt terms book n (LookRequest look) held text now
AnswersLine terms book n (Ok (Run name id command)) held text audited now = ServesAt terms book n (RunRequest command) held text now
AnswersLine terms book n (Ok _) held text audited now = IsFaulty book n UnknownCommand held text now
