-- How a session's journal is written: in lines that play it again. This project's own.
use Rattle.std.specs.Prelude.{ℕ, ℤ, ◌==◌, if◌then◌else◌, Option, Some, None, List, [], ◌∷◌, ◌++◌, codes, length, map}
use Rattle.std.specs.Fmt.{decimal, signed_decimal}
use Rattle.std.specs.List.{flat_map, join_with_byte}
use Rattle.std.specs.Option.{unwrap_or}
use Rattle.mls_kinds.specs.KindSets.{members}
use Rattle.mls_server.specs.mls_library.SavedCells.{spaced}
use Rattle.mls_server.specs.mls_session.declared.command.Command.{Command}
use Rattle.mls_server.specs.mls_session.declared.command.Command.TheVariants.{Box, Paint, Erase, Dump, GetCell, What, Save, Check, CatchUp, Why, Count}
use Rattle.mls_server.specs.mls_session.JournalCopies.{JournalCopy}
use Rattle.mls_server.specs.mls_session.declared.journal.Entry.{Entry}
use Rattle.mls_wire.specs.NameBooks.{Names, no_name}

-- ---- a command
abbrev pub type_word : Names → Option ℕ → List ℕ
type_word book None = no_name
type_word book (Some kind) = unwrap_or (book.short_type_name kind) no_name

abbrev pub cell_word : Names → Option ℕ → List ℕ
cell_word book None = no_name
cell_word book (Some cell) = unwrap_or (book.cell_name cell) no_name

-- names of types between commas; no types are written as type 0, since there is no paint of that
abbrev pub listed_types : Names → List ℕ → List ℕ
listed_types book [] = type_word book (Some 0)
listed_types book (kind ∷ kinds) = join_with_byte 44 (map (λ k. type_word book (Some k)) (kind ∷ kinds))

-- a comma and the name of a type
abbrev pub next_type : Names → ℕ → List ℕ
next_type book kind = 44 ∷ type_word book (Some kind)

-- the name of a type, and that of each of the others after a comma
abbrev pub listed_from : Names → ℕ → List ℕ → List ℕ
listed_from book kind kinds = type_word book (Some kind) ++ flat_map (next_type book) kinds

abbrev pub types_word : Names → Option ℕ → List ℕ
types_word book None = no_name
types_word book (Some kinds) = listed_types book (members kinds)

-- two numbers, and four, each after a space
abbrev pub pair_text : ℤ → ℤ → List ℕ
pair_text x y = 32 ∷ signed_decimal x ++ 32 ∷ signed_decimal y

abbrev pub sides_text : ℤ → ℤ → ℤ → ℤ → List ℕ
sides_text left bottom right top = pair_text left bottom ++ pair_text right top

-- a box's word and its numbers, each after a space
abbrev pub box_text : ℤ → ℤ → ℤ → ℤ → List ℕ
box_text left bottom right top = codes " box" ++ sides_text left bottom right top

-- the words after a session's name that say the command
unfoldable pub command_words : Names → Command → List (List ℕ)
command_words book (Box left bottom right top) =
    codes "box" ∷ signed_decimal left ∷ signed_decimal bottom ∷ signed_decimal right ∷ signed_decimal top ∷ []
command_words book (Paint kind) = codes "paint" ∷ type_word book kind ∷ []
command_words book (Erase kinds) = codes "erase" ∷ types_word book kinds ∷ []
command_words book (Dump cell dx dy) = codes "dump" ∷ cell_word book cell ∷ signed_decimal dx ∷ signed_decimal dy ∷ []
command_words book (GetCell cell dx dy) = codes "getcell" ∷ cell_word book cell ∷ signed_decimal dx ∷ signed_decimal dy ∷ []
command_words book What = codes "what" ∷ []
command_words book Save = codes "save" ∷ []
command_words book Check = codes "drc" ∷ codes "check" ∷ []
command_words book CatchUp = codes "drc" ∷ codes "catchup" ∷ []
command_words book Why = codes "drc" ∷ codes "why" ∷ []
command_words book Count = codes "drc" ∷ codes "count" ∷ []

-- the bytes after one, and a space if the last of all these is a carriage return
abbrev pub shielded_after : ℕ → List ℕ → List ℕ
shielded_after last [] = if last == 13 then 32 ∷ [] else []
shielded_after last (b ∷ bytes) = b ∷ shielded_after b bytes

-- a space follows a carriage return at the end, which a reader of lines would drop
abbrev pub shielded : List ℕ → List ℕ
shielded [] = []
shielded (b ∷ bytes) = b ∷ shielded_after b bytes

-- the words of the command, with a space before each
abbrev pub said_text : Names → Command → List ℕ
said_text book command = 32 ∷ spaced (command_words book command)

-- the line that says the command to the session of a name
abbrev pub command_line : Names → List ℕ → Command → List ℕ
command_line book name command = name ++ shielded (said_text book command)

-- ---- a journal
-- the line that does this many check steps in the session of a name
abbrev pub steps_line : List ℕ → ℕ → List ℕ
steps_line name steps = spaced (codes "%steps" ∷ name ∷ decimal steps ∷ [])

-- and none where there are none to do
abbrev pub steps_lines : List ℕ → ℕ → List (List ℕ)
steps_lines name steps = if steps == 0 then [] else steps_line name steps ∷ []

-- the lines that play an entry again
abbrev pub entry_lines : Names → List ℕ → Entry → List (List ℕ)
entry_lines book name entry = steps_lines name entry.checks_before ++ command_line book name entry.said.command ∷ []

-- the lines that play a journal again, and then the check steps since its last entry
abbrev pub journal_lines : Names → List ℕ → JournalCopy → List (List ℕ)
journal_lines book name journal = flat_map (entry_lines book name) journal.entries ++ steps_lines name journal.steps

-- each line after a line feed
abbrev pub fed_lines : List (List ℕ) → List ℕ
fed_lines lines = flat_map (λ line. 10 ∷ line) lines

-- the lines of an entry
abbrev pub entry_text : Names → List ℕ → Entry → List ℕ
entry_text book name entry = fed_lines (entry_lines book name entry)

-- a number of lines, and the lines
abbrev pub counted_text : Names → List ℕ → ℕ → JournalCopy → List ℕ
counted_text book name lines journal =
    codes "journal " ++ decimal lines ++ flat_map (entry_text book name) journal.entries ++ fed_lines (steps_lines name journal.steps)

-- the number of the lines, and the lines
unfoldable pub journal_text : Names → List ℕ → JournalCopy → List ℕ
journal_text book name journal =
    codes "journal " ++ decimal (length (journal_lines book name journal)) ++ fed_lines (journal_lines book name journal)
