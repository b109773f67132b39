-- A line asks something only of a session that is open, and a command asks for its own event.
use Rattle.std.proofs.Common.{◌≡◌, ◌≢◌, ℕ, ◌==◌, Bool, true, false, cond, Option, Some, None, List, [], ◌∷◌, Result, Ok, Err, refl, sym, ap, subst, arith, codes}
use Rattle.std.specs.Option.{option_map}
use Rattle.std.proofs.lemmas.Bool.Decides.{nat_tests}
use Rattle.mls_server.specs.mls_session.Journals.{Kept}
use Rattle.mls_server.specs.mls_session.declared.command.Command.{Command}
use Rattle.mls_server.specs.mls_session.declared.command.Command.TheVariants.{Box, Paint, Erase, Dump, GetCell, What, Save, Check, CatchUp, Why, Count}
use Rattle.mls_server.specs.Worlds.{Seat, World, kept_in, named_in, seat_in, session_named}
use Rattle.mls_server.specs.SessionNames.{is_session_name}
use Rattle.mls_server.specs.declared.event.Event.TheVariants.{Command as CommandEvent}
use Rattle.mls_text.specs.Words.{begins_with, words_of, same_word}
use Rattle.mls_wire.specs.NameBooks.{book_of}
use Rattle.mls_wire.specs.Runs.{CanExecute, Executes, command_event, says_in}
use Rattle.mls_wire.specs.Says.{asked_by, asked_in, asked_line, asked_of, asking_says, asks_says, command_of, line_asking, line_says, line_with, open_says, run_by, session_says, words_say}
use Rattle.mls_wire.specs.declared.line.Line.{Line}
use Rattle.mls_wire.specs.declared.line.Line.TheVariants.{Silent, Open, Audit}
use Rattle.mls_wire.specs.declared.line.LineFault.{LineFault}
use Rattle.mls_wire.specs.declared.parse.Asked.{Asked}
use Rattle.mls_wire.specs.declared.parse.Asked.TheVariants.{Close as AsksClose, Step as AsksStep, Steps as AsksSteps, Audit as AsksAudit, Look as AsksLook}
use Rattle.mls_wire.specs.declared.parse.Asking.{Asking}
use Rattle.mls_wire.specs.declared.line.LineFault.TheVariants.{UnknownCommand, BadName}
use Rattle.mls_wire.specs.declared.response.Response.TheVariants.{Audited}

-- what a line says, if anything, can be executed
abbrev CanExecuteSaid : World → Result Line LineFault → Type 0
CanExecuteSaid on (Ok said) = CanExecute on said
CanExecuteSaid on (Err fault) = Unit {0}

-- ---- the session of a name is open
seat_if : (seat : Seat) (rest : Option Seat) (test : Bool) → rest ≢ None → cond test (Some seat) rest ≢ None
seat_if seat rest true some = λ e. absurd (cc)
seat_if seat rest false some = some

named_seat_if : (seat : Seat) (seats : List Seat) (name : List ℕ) (id : ℕ) (test : Bool) → (named_in seats name ≡ Some id → seat_in seats id ≢ None)
    → cond test (Some seat.id) (named_in seats name) ≡ Some id → seat_in (seat ∷ seats) id ≢ None
named_seat_if seat seats name id true more h =
    subst (λ test. cond test (Some seat) (seat_in seats id) ≢ None) (sym (same_test seat.id id (cc))) (λ e. absurd (cc))
  where
    same_test : (a b : ℕ) → a ≡ b → (a == b) ≡ true
    same_test a b same = grind (arith, nat_tests, same)
named_seat_if seat seats name id false more h = seat_if seat (seat_in seats id) (seat.id == id) (more h)

named_seat : (seats : List Seat) (name : List ℕ) (id : ℕ) → named_in seats name ≡ Some id → seat_in seats id ≢ None
named_seat [] name id h = absurd (cc)
named_seat (seat ∷ seats) name id h = named_seat_if seat seats name id (same_word seat.name name) (named_seat seats name id) h

kept_of_seat : (seat : Option Seat) → seat ≢ None → option_map (λ seat. seat.kept) seat ≢ None
kept_of_seat None some = absurd (some refl)
kept_of_seat (Some seat) some = λ e. absurd (cc)

named_open : (on : World) (name : List ℕ) (id : ℕ) → session_named on name ≡ Some id → kept_in on id ≢ None
named_open on name id h = kept_of_seat (seat_in on.seats id) (named_seat on.seats name id h)

-- ---- what lines say
choice : (on : World) (test : Bool) (x y : Result Line LineFault) → CanExecuteSaid on x → CanExecuteSaid on y → CanExecuteSaid on (cond test x y)
choice on true x y h k = h
choice on false x y h k = k

run_executable : (on : World) (name : List ℕ) (command : Command) (session : Option ℕ) → session_named on name ≡ session → CanExecuteSaid on (run_by name command session)
run_executable on name command (Some id) h = named_open on name id h
run_executable on name command None h = tt

line_with_executable : (on : World) (name : List ℕ) (r : Result Command LineFault) → CanExecuteSaid on (line_with (session_named on) name r)
line_with_executable on name (Ok command) = run_executable on name command (session_named on name) refl
line_with_executable on name (Err fault) = tt

session_executable : (on : World) (name : List ℕ) (words : List (List ℕ)) → CanExecuteSaid on (session_says (book_of on) (session_named on) name words)
unfolding session_says
session_executable on name words = choice on (is_session_name name) _ _ (line_with_executable on name (command_of (book_of on) words)) tt

open_executable : (on : World) (words : List (List ℕ)) → CanExecuteSaid on (open_says words)
unfolding open_says
open_executable on [] = tt
open_executable on (name ∷ []) = choice on (is_session_name name) (Ok (Open name)) (Err BadName) tt tt
open_executable on (name ∷ more ∷ words) = choice on (is_session_name name) (Err UnknownCommand) (Err BadName) tt tt

asked_executable : (on : World) (asked : Asked) (name : List ℕ) (session : Option ℕ) → session_named on name ≡ session → CanExecuteSaid on (asked_of asked name session)
asked_executable on asked name None h = tt
asked_executable on asked name (Some id) h = by asked (named_open on name id h)
  where
    by : (asked : Asked) → kept_in on id ≢ None → CanExecute on (asked_line asked name id)
    by AsksClose kept = kept
    by AsksStep kept = kept
    by (AsksSteps most) kept = kept
    by AsksAudit kept = kept
    by (AsksLook look) kept = kept

line_asking_executable : (on : World) (name : List ℕ) (r : Result Asked LineFault) → CanExecuteSaid on (line_asking (session_named on) name r)
line_asking_executable on name (Ok asked) = asked_executable on asked name (session_named on name) refl
line_asking_executable on name (Err fault) = tt

asks_executable : (on : World) (asking : Asking) (words : List (List ℕ)) → CanExecuteSaid on (asks_says (session_named on) asking words)
unfolding asks_says
asks_executable on asking [] = tt
asks_executable on asking (name ∷ words) = choice on (is_session_name name) _ (Err BadName) (line_asking_executable on name (asked_in asking words)) tt

asking_executable : (on : World) (asking : Option Asking) (words : List (List ℕ)) → CanExecuteSaid on (asking_says (session_named on) asking words)
asking_executable on None words = tt
asking_executable on (Some asking) words = asks_executable on asking words

words_executable : (on : World) (words : List (List ℕ)) → CanExecuteSaid on (words_say (book_of on) (session_named on) words)
unfolding words_say
words_executable on [] = tt
words_executable on (word ∷ words) =
    choice on (same_word word (codes "%open")) _ _ (open_executable on words)
    (choice on (begins_with 37 word) _ _ (asking_executable on (asked_by word) words) (session_executable on word words))

line_executable : (on : World) (line : Option (List ℕ)) → CanExecuteSaid on (says_in on line)
unfolding line_says
line_executable on None = tt
line_executable on (Some bytes) = choice on (begins_with 35 bytes) (Ok Silent) _ tt (words_executable on (words_of bytes))

pub said_executable : (on : World) (line : Option (List ℕ)) (said : Line) → Ok said ≡ says_in on line → CanExecute on said
said_executable on line said h = subst (CanExecuteSaid on) (sym h) (line_executable on line)

-- ---- commands and audits
pub command_event-other : (id : ℕ) (command : Command) → (command ≡ Save → ⊥) → CommandEvent id command ≡ command_event id command
command_event-other id (Box left bottom right top) other = refl
command_event-other id (Paint kind) other = refl
command_event-other id (Erase kinds) other = refl
command_event-other id (Dump cell dx dy) other = refl
command_event-other id (GetCell cell dx dy) other = refl
command_event-other id What other = refl
command_event-other id Save other = absurd (other refl)
command_event-other id Check other = refl
command_event-other id CatchUp other = refl
command_event-other id Why other = refl
command_event-other id Count other = refl

-- the session keeps as many entries as were counted
pub audit_executes : (on : World) (name : List ℕ) (id entries : ℕ) → option_map (λ kept. kept.own.entries) (kept_in on id) ≡ Some entries
    → Executes on (Ok (Audit name id)) (Audited name entries) on
audit_executes on name id entries h = counted (kept_in on id) refl h
  where
    counted : (kept : Option Kept) → kept_in on id ≡ kept → option_map (λ kept. kept.own.entries) kept ≡ Some entries
        → Executes on (Ok (Audit name id)) (Audited name entries) on
    counted None is h = absurd (cc)
    counted (Some kept) is h = (kept, is, ap (Audited name) (cc), refl)
