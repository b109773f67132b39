-- What lines say beside one session. This project's own.
use Rattle.std.specs.Prelude.{ℕ, ◌||◌, Bool, false, if◌then◌else◌, Option, Some, None, Result, Err, List, [], ◌∷◌, codes}
use Rattle.mls_text.specs.Words.{same_word, words_of}
use Rattle.mls_seat_lines.specs.mls_wire.NameBooks.{Names, SessionIds}
use Rattle.mls_seat_lines.specs.mls_wire.Says.{line_says}
use Rattle.mls_seat_lines.specs.mls_wire.declared.line.Line.{Line}
use Rattle.mls_seat_lines.specs.mls_wire.declared.line.LineFault.{LineFault}
use Rattle.mls_seat_lines.specs.mls_wire.declared.line.LineFault.TheVariants.{UnknownCommand}

-- a session of this name is open, or none; its id doesn't matter
abbrev pub ids_beside : Option (List ℕ) → SessionIds
ids_beside None name = None
ids_beside (Some held) name = if same_word held name then Some 0 else None

-- the line begins with a word that stands for check steps, which the workers do here
abbrev pub is_check_line : List (List ℕ) → Bool
is_check_line [] = false
is_check_line (word ∷ words) = same_word word (codes "%step") || same_word word (codes "%steps")

-- what a line says then, or its first fault
unfoldable pub says_beside : Names → Option (List ℕ) → Option (List ℕ) → Result Line LineFault
says_beside book held None = Err UnknownCommand
says_beside book held (Some bytes) = if is_check_line (words_of bytes) then Err UnknownCommand else line_says book (ids_beside held) (Some bytes)
