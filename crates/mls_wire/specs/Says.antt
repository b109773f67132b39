-- What a line of a script says, or its first fault. This project's own.
use Rattle.std.specs.Prelude.{ℕ, ℤ, ◌==◌, Bool, false, if◌then◌else◌, is_some, Option, Some, None, Result, Ok, Err, List, [], ◌∷◌, codes}
use Rattle.std.specs.List.{list_all, list_any}
use Rattle.std.specs.Option.{ok_or, option_map_or}
use Rattle.mls_kinds.specs.KindSets.{set_of}
use Rattle.mls_server.specs.mls_session.declared.command.Command.{Command}
use Rattle.mls_server.specs.mls_session.declared.command.Command.TheVariants.{Box, Paint, Erase, Dump, GetCell, What, Save, Check, CatchUp, Why, Count}
use Rattle.mls_server.specs.mls_session.declared.look.Look.{Look}
use Rattle.mls_server.specs.mls_session.declared.look.Look.TheVariants.{Save as SaveLook, Why as WhyLook, Status as StatusLook, Uses as UsesLook, Marks as MarksLook, Errors as ErrorsLook, Violations as ViolationsLook, Journal as JournalLook}
use Rattle.mls_wire.specs.NameBooks.{Names, SessionIds}
use Rattle.mls_wire.specs.Numbers.{count_written, number_of}
use Rattle.mls_text.specs.Fields.{fields_of}
use Rattle.mls_text.specs.Words.{begins_with, words_of, same_word}
use Rattle.mls_server.specs.SessionNames.{is_session_name}
use Rattle.mls_wire.specs.declared.line.Line.{Line}
use Rattle.mls_wire.specs.declared.line.Line.TheVariants.{Silent, Open, Close, Step, Steps, Audit, Look as LookAt, Run}
use Rattle.mls_wire.specs.declared.line.LineFault.{LineFault}
use Rattle.mls_wire.specs.declared.parse.Asked.{Asked}
use Rattle.mls_wire.specs.declared.parse.Asked.TheVariants.{Close as AsksClose, Step as AsksStep, Steps as AsksSteps, Audit as AsksAudit, Look as AsksLook}
use Rattle.mls_wire.specs.declared.parse.Asking.{Asking}
use Rattle.mls_wire.specs.declared.parse.Asking.TheVariants.{Alone as ByName, Within as ByLines, Steps as ByCount}
use Rattle.mls_wire.specs.declared.parse.MovedCell.{MovedCell}
use Rattle.mls_wire.specs.declared.parse.Sides.{Sides}
use Rattle.mls_wire.specs.declared.parse.Within.{Within}
use Rattle.mls_wire.specs.declared.parse.Within.TheVariants.{Why as WithinWhy, Errors as WithinErrors, Violations as WithinViolations}
use Rattle.mls_wire.specs.declared.line.LineFault.TheVariants.{UnknownCommand, BadNumber, BadName, NotOpen}

-- the four lines round a rectangle
unfoldable pub sides_of : Option ℤ → Option ℤ → Option ℤ → Option ℤ → Result Sides LineFault
sides_of (Some left) (Some bottom) (Some right) (Some top) = Ok (record { left = left; bottom = bottom; right = right; top = top })
sides_of _ _ _ _ = Err BadNumber

unfoldable pub sides_say : List (List ℕ) → Result Sides LineFault
sides_say (left ∷ bottom ∷ right ∷ top ∷ []) = sides_of (number_of left) (number_of bottom) (number_of right) (number_of top)
sides_say _ = Err UnknownCommand

-- the box between these lines
abbrev pub box_of : Result Sides LineFault → Result Command LineFault
box_of (Ok sides) = Ok (Box sides.left sides.bottom sides.right sides.top)
box_of (Err fault) = Err fault

abbrev pub box_says : List (List ℕ) → Result Command LineFault
box_says words = box_of (sides_say words)

abbrev pub paint_says : Names → List (List ℕ) → Result Command LineFault
paint_says book (name ∷ []) = Ok (Paint (book.type_of name))
paint_says book _ = Err UnknownCommand

-- the name is that of this type
abbrev pub names_type : Names → ℕ → List ℕ → Bool
names_type book kind name = option_map_or (λ named. kind == named) (book.type_of name) false

-- the set of the types of these names, or none where a name is of no type
unfoldable pub types_named : Names → List (List ℕ) → Option ℕ
types_named book names =
    if list_all (λ name. is_some (book.type_of name)) names then Some (set_of (λ kind. list_any (names_type book kind) names)) else None

-- names of types between commas
abbrev pub erase_says : Names → List (List ℕ) → Result Command LineFault
erase_says book (names ∷ []) = Ok (Erase (types_named book (fields_of names)))
erase_says book _ = Err UnknownCommand

-- the cell, moved so far
unfoldable pub moved_by : Option ℕ → Option ℤ → Option ℤ → Result MovedCell LineFault
moved_by cell (Some dx) (Some dy) = Ok (record { cell = cell; dx = dx; dy = dy })
moved_by cell _ _ = Err BadNumber

-- a cell's name, and how far it is moved to the right and up
unfoldable pub moved_cell_says : Names → List (List ℕ) → Result MovedCell LineFault
moved_cell_says book (name ∷ dx ∷ dy ∷ []) = moved_by (book.cell_of name) (number_of dx) (number_of dy)
moved_cell_says book _ = Err UnknownCommand

-- the cell is dumped
abbrev pub dump_of : Result MovedCell LineFault → Result Command LineFault
dump_of (Ok moved) = Ok (Dump moved.cell moved.dx moved.dy)
dump_of (Err fault) = Err fault

abbrev pub dump_says : Names → List (List ℕ) → Result Command LineFault
dump_says book words = dump_of (moved_cell_says book words)

-- the cell is placed
abbrev pub getcell_of : Result MovedCell LineFault → Result Command LineFault
getcell_of (Ok moved) = Ok (GetCell moved.cell moved.dx moved.dy)
getcell_of (Err fault) = Err fault

abbrev pub getcell_says : Names → List (List ℕ) → Result Command LineFault
getcell_says book words = getcell_of (moved_cell_says book words)

-- this was said so far, and no words follow
abbrev pub alone_says : {A : Type 0} → A → List (List ℕ) → Result A LineFault
alone_says said [] = Ok said
alone_says said _ = Err UnknownCommand

-- the command on checks that this word is
unfoldable pub drc_of : List ℕ → Result Command LineFault
drc_of word =
    if same_word word (codes "check") then Ok Check
    else (if same_word word (codes "catchup") then Ok CatchUp
    else (if same_word word (codes "why") then Ok Why
    else (if same_word word (codes "count") then Ok Count else Err UnknownCommand)))

abbrev pub drc_says : List (List ℕ) → Result Command LineFault
drc_says (word ∷ []) = drc_of word
drc_says _ = Err UnknownCommand

-- a command that changes the layout, and the words after its own
unfoldable pub edit_of : Names → List ℕ → List (List ℕ) → Result Command LineFault
edit_of book verb words =
    if same_word verb (codes "paint") then paint_says book words
    else (if same_word verb (codes "erase") then erase_says book words
    else (if same_word verb (codes "dump") then dump_says book words
    else (if same_word verb (codes "getcell") then getcell_says book words else Err UnknownCommand)))

-- the words after a session's name
unfoldable pub command_of : Names → List (List ℕ) → Result Command LineFault
command_of book [] = Err UnknownCommand
command_of book (verb ∷ words) =
    if same_word verb (codes "box") then box_says words
    else (if same_word verb (codes "what") then alone_says What words
    else (if same_word verb (codes "save") then alone_says Save words
    else (if same_word verb (codes "drc") then drc_says words else edit_of book verb words)))

-- a command for a session: a fault of its name's form comes first, then one of the command's, and last that no session of the name is open
abbrev pub run_by : List ℕ → Command → Option ℕ → Result Line LineFault
run_by name command (Some id) = Ok (Run name id command)
run_by name command None = Err NotOpen

abbrev pub line_with : SessionIds → List ℕ → Result Command LineFault → Result Line LineFault
line_with ids name (Ok command) = run_by name command (ids name)
line_with ids name (Err fault) = Err fault

unfoldable pub session_says : Names → SessionIds → List ℕ → List (List ℕ) → Result Line LineFault
session_says book ids name words = if is_session_name name then line_with ids name (command_of book words) else Err BadName

-- the words after `%open`
unfoldable pub open_says : List (List ℕ) → Result Line LineFault
open_says [] = Err BadName
open_says (name ∷ []) = if is_session_name name then Ok (Open name) else Err BadName
open_says (name ∷ more ∷ words) = if is_session_name name then Err UnknownCommand else Err BadName

-- the line that asks this
abbrev pub asked_line : Asked → List ℕ → ℕ → Line
asked_line AsksClose name id = Close name id
asked_line AsksStep name id = Step name id
asked_line (AsksSteps most) name id = Steps name id most
asked_line AsksAudit name id = Audit name id
asked_line (AsksLook look) name id = LookAt name id look

-- the look that asks this of the squares between these lines
abbrev pub look_within : Within → Sides → Look
look_within WithinWhy sides = WhyLook sides.left sides.bottom sides.right sides.top
look_within WithinErrors sides = ErrorsLook sides.left sides.bottom sides.right sides.top
look_within WithinViolations sides = ViolationsLook sides.left sides.bottom sides.right sides.top

abbrev pub asks_within : Within → Result Sides LineFault → Result Asked LineFault
asks_within within (Ok sides) = Ok (AsksLook (look_within within sides))
asks_within within (Err fault) = Err fault

abbrev pub within_says : Within → List (List ℕ) → Result Asked LineFault
within_says within words = asks_within within (sides_say words)

-- how many times something is done
abbrev pub count_says : List (List ℕ) → Result ℕ LineFault
count_says (word ∷ []) = ok_or (count_written word) BadNumber
count_says _ = Err UnknownCommand

-- at most so many check steps
abbrev pub asks_steps : Result ℕ LineFault → Result Asked LineFault
asks_steps (Ok most) = Ok (AsksSteps most)
asks_steps (Err fault) = Err fault

abbrev pub steps_say : List (List ℕ) → Result Asked LineFault
steps_say words = asks_steps (count_says words)

-- what the words after the session's name ask
abbrev pub asked_in : Asking → List (List ℕ) → Result Asked LineFault
asked_in (ByName asked) words = alone_says asked words
asked_in (ByLines within) words = within_says within words
asked_in ByCount words = steps_say words

-- what is asked of the open session of a name
abbrev pub asked_of : Asked → List ℕ → Option ℕ → Result Line LineFault
asked_of asked name (Some id) = Ok (asked_line asked name id)
asked_of asked name None = Err NotOpen

abbrev pub line_asking : SessionIds → List ℕ → Result Asked LineFault → Result Line LineFault
line_asking ids name (Ok asked) = asked_of asked name (ids name)
line_asking ids name (Err fault) = Err fault

-- the words after one that asks something: here too a fault of the name's form comes first, then one of the words after it, and last that no session of the name
-- is open
unfoldable pub asks_says : SessionIds → Asking → List (List ℕ) → Result Line LineFault
asks_says ids asking [] = Err BadName
asks_says ids asking (name ∷ words) = if is_session_name name then line_asking ids name (asked_in asking words) else Err BadName

-- what a word asks of the open session whose name comes next
unfoldable pub asked_by : List ℕ → Option Asking
asked_by word =
    if same_word word (codes "%why") then Some (ByLines WithinWhy)
    else (if same_word word (codes "%errors") then Some (ByLines WithinErrors)
    else (if same_word word (codes "%violations") then Some (ByLines WithinViolations)
    else (if same_word word (codes "%steps") then Some ByCount
    else (if same_word word (codes "%close") then Some (ByName AsksClose)
    else (if same_word word (codes "%step") then Some (ByName AsksStep)
    else (if same_word word (codes "%audit") then Some (ByName AsksAudit)
    else (if same_word word (codes "%save") then Some (ByName (AsksLook SaveLook))
    else (if same_word word (codes "%stat") then Some (ByName (AsksLook StatusLook))
    else (if same_word word (codes "%uses") then Some (ByName (AsksLook UsesLook))
    else (if same_word word (codes "%marks") then Some (ByName (AsksLook MarksLook))
    else (if same_word word (codes "%journal") then Some (ByName (AsksLook JournalLook)) else None)))))))))))

abbrev pub asking_says : SessionIds → Option Asking → List (List ℕ) → Result Line LineFault
asking_says ids (Some asking) words = asks_says ids asking words
asking_says ids None words = Err UnknownCommand

unfoldable pub words_say : Names → SessionIds → List (List ℕ) → Result Line LineFault
words_say book ids [] = Ok Silent
words_say book ids (word ∷ words) =
    if same_word word (codes "%open") then open_says words
    else (if begins_with 37 word then asking_says ids (asked_by word) words else session_says book ids word words)

-- a line as it was read: one that is too long is a fault whatever it holds, and a comment begins with `#` in its very first byte
unfoldable pub line_says : Names → SessionIds → Option (List ℕ) → Result Line LineFault
line_says book ids None = Err UnknownCommand
line_says book ids (Some bytes) = if begins_with 35 bytes then Ok Silent else words_say book ids (words_of bytes)

-- the number of a fault in its reply
abbrev pub line_fault_number : LineFault → ℕ
line_fault_number UnknownCommand = 1
line_fault_number BadNumber = 2
line_fault_number BadName = 3
line_fault_number NotOpen = 4

-- its text
abbrev pub line_fault_text : LineFault → List ℕ
line_fault_text UnknownCommand = codes "unknown command"
line_fault_text BadNumber = codes "bad number"
line_fault_text BadName = codes "name"
line_fault_text NotOpen = codes "not open"
