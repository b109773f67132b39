-- Which thread a line's name has. This project's own.
use Rattle.std.specs.Prelude.{ℕ, ◌+◌, ◌-◌, ◌^◌, ◌==◌, ◌&&◌, not, min, Bool, false, if◌then◌else◌, Option, Some, None, is_none, List, slice_index_or, slice_set, position, codes, [], ◌∷◌}
use Rattle.mls_seat_lines.specs.mls_server.SessionNames.{is_session_name}
use Rattle.mls_text.specs.Words.{begins_with, same_word, words_of}
use Rattle.mls_lines.specs.declared.dispatch_table.Assignment.{Assignment}

-- the thread is that of this name
abbrev pub is_called : List ℕ → Option Assignment → Bool
is_called name None = false
is_called name (Some entry) = same_word entry.name name

-- the number of the thread that the name has
abbrev pub thread_of : List ℕ → List (Option Assignment) → Option ℕ
thread_of name entries = position (is_called name) entries

-- the one for a line of this name: where it has none and the line opens a session, the first that no name has
abbrev pub thread_or_free : Option ℕ → Bool → List (Option Assignment) → Option ℕ
thread_or_free (Some thread) opens entries = Some thread
thread_or_free None opens entries = if opens then position is_none entries else None

abbrev pub thread_for : List ℕ → Bool → List (Option Assignment) → Option ℕ
thread_for name opens entries = thread_or_free (thread_of name entries) opens entries

-- how many lines of the thread's name wait or are under way
abbrev pub waiting_in : Option Assignment → ℕ
waiting_in None = 0
waiting_in (Some entry) = entry.waiting

-- a line more waits for the thread, and it is that of this name
abbrev pub with_line_at : List ℕ → Option Assignment → Assignment
with_line_at name entry = record { name = name; waiting = min (waiting_in entry + 1) (2 ^ 64 - 1) }

abbrev pub with_line : List ℕ → ℕ → List (Option Assignment) → List (Option Assignment)
with_line name thread entries = slice_set entries thread (Some (with_line_at name (slice_index_or entries thread None)))

-- a line is done: where none waits and no session is open, no name has the thread any more
abbrev pub done_at : Option Assignment → Bool → Option Assignment
done_at None open_now = None
done_at (Some entry) open_now = if (entry.waiting - 1 == 0) && not open_now then None else Some (record entry { waiting = entry.waiting - 1 })

abbrev pub without_line : ℕ → Bool → List (Option Assignment) → List (Option Assignment)
without_line thread open_now entries = slice_set entries thread (done_at (slice_index_or entries thread None) open_now)

-- ---- what the reader sees of a line

-- the bytes are the name of a session, or none
abbrev pub named : List ℕ → Option (List ℕ)
named word = if is_session_name word then Some word else None

-- the name that comes first
abbrev pub first_named : List (List ℕ) → Option (List ℕ)
first_named [] = None
first_named (word ∷ words) = named word

-- the name that words are for: the first, or after one that begins with `%` the second
abbrev pub name_by : List (List ℕ) → Option (List ℕ)
name_by [] = None
name_by (word ∷ words) = if begins_with 37 word then first_named words else named word

-- the name that a line is for, if it is no comment
unfoldable pub name_for : Option (List ℕ) → Option (List ℕ)
name_for None = None
name_for (Some bytes) = if begins_with 35 bytes then None else name_by (words_of bytes)

-- the words begin with `%open`
abbrev pub is_opening : List (List ℕ) → Bool
is_opening [] = false
is_opening (word ∷ words) = same_word word (codes "%open")
