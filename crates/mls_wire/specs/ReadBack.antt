-- What is read back of a journal that is written, and that it plays again. This project's own.
use Rattle.std.specs.Prelude.{◌≡◌, ◌<◌, ◌≤◌, ◌^◌, ℕ, ◌==◌, false, true, All, Some, None, IfSome, Ok, List, [], length, slice_get}
use Rattle.mls_server.specs.mls_session.Journals.{IsLegal, Kept}
use Rattle.mls_server.specs.mls_session.declared.command.Command.{Command}
use Rattle.mls_server.specs.SessionNames.{is_session_name}
use Rattle.mls_server.specs.Settings.{Setting, cell_names, terms_for}
use Rattle.mls_server.specs.Worlds.{World}
use Rattle.mls_tech.specs.Readings.{short_name_of}
use Rattle.mls_text.specs.Lines.{IsUnbroken}
use Rattle.mls_text.specs.Words.{is_blank}
use Rattle.mls_wire.specs.JournalLines.{command_line, steps_line, type_word}
use Rattle.mls_wire.specs.Lines.{line_limit, line_if_short}
use Rattle.mls_wire.specs.NameBooks.{Names, SessionIds, book_of, no_name}
use Rattle.mls_wire.specs.PlayedJournals.{PlaysAgain}
use Rattle.mls_wire.specs.Says.{line_says}
use Rattle.mls_wire.specs.declared.line.Line.TheVariants.{Run, Steps}

-- ---- names
-- the name is a word without commas, of one line
pub record IsListable (name : List ℕ) : Type 0 where
  pub some : 0 < length name
  pub solid : All (λ b. is_blank b ≡ false) name
  pub whole : All (λ b. (b == 44) ≡ false) name
  pub unbroken : IsUnbroken name

-- the shortest name of the type names it, and stands as one in a list
abbrev pub HasShortName : Names → ℕ → Type 0
HasShortName book kind = (name : List ℕ) × (book.short_type_name kind ≡ Some name) × IsListable name × (book.type_of name ≡ Some kind)

-- a type with a name has such a short one, no longer than that, a cell has the name by which it is found, and neither has no name or a comma for one
pub record NamesReadBack (book : Names) : Type 0 where
  pub types : (word : List ℕ) → IfSome (book.type_of word) (λ kind. (kind < 64) × HasShortName book kind)
  pub shortest : (word : List ℕ) → IfSome (book.type_of word) (λ kind. length (type_word book (Some kind)) ≤ length word)
  pub cells : (word : List ℕ) → IfSome (book.cell_of word) (λ cell. book.cell_name cell ≡ Some word)
  pub nothing : book.type_of [] ≡ None
  pub no_type : book.type_of no_name ≡ None
  pub no_cell : book.cell_of no_name ≡ None

-- ---- lines
-- for every command that some line of at most 1,023 bytes says, the line that is written for it says the same command of the same session, as it is read
abbrev pub CommandsReadBack : Names → Type 0
CommandsReadBack book =
    (ids : SessionIds) (line name : List ℕ) (id : ℕ) (command : Command) → length line < line_limit → line_says book ids (Some line) ≡ Ok (Run name id command)
    → line_says book ids (line_if_short (command_line book name command)) ≡ Ok (Run name id command)

-- it is one line, where that is one
abbrev pub CommandsAreLines : Names → Type 0
CommandsAreLines book =
    (ids : SessionIds) (line name : List ℕ) (id : ℕ) (command : Command) → IsUnbroken line → line_says book ids (Some line) ≡ Ok (Run name id command)
    → IsUnbroken (command_line book name command)

-- and a line of check steps does as many
abbrev pub StepsReadBack : Names → Type 0
StepsReadBack book =
    (ids : SessionIds) (name : List ℕ) (id steps : ℕ) → is_session_name name ≡ true → ids name ≡ Some id → 1 ≤ steps → steps < 2 ^ 64
    → line_says book ids (line_if_short (steps_line name steps)) ≡ Ok (Steps name id steps)

-- types and cells are called as they are in this setting
pub record CallsAs (book : Names) (setting : Setting) : Type 0 where
  pub types : (kind : ℕ) → book.short_type_name kind ≡ short_name_of setting.tech.types kind
  pub cells : (cell : ℕ) → book.cell_name cell ≡ slice_get (cell_names setting) cell

-- so in every world of this setting, whatever sessions are open, and of all lines that are written where types and cells are called the same; and what the lines
-- of a legal journal ask for gives, in a session as it is opened, its replies and all that was kept
pub record JournalsReadBack (setting : Setting) : Type 0 where
  pub commands : (on : World) → on.setting ≡ setting → CommandsReadBack (book_of on)
  pub lines : (on : World) → on.setting ≡ setting → CommandsAreLines (book_of on)
  pub steps : (on : World) → on.setting ≡ setting → StepsReadBack (book_of on)
  pub same : (book : Names) → CallsAs book setting → (on : World) → on.setting ≡ setting → (name : List ℕ) (command : Command)
      → command_line book name command ≡ command_line (book_of on) name command
  pub plays : (kept : Kept) → IsLegal (terms_for setting) kept → PlaysAgain (terms_for setting) kept
