-- The lines of a script. This project's own.
use Rattle.std.specs.Prelude.{ℕ, ◌==◌, nat_lt, if◌then◌else◌, Option, Some, None, List, [], ◌∷◌, length, map}
use Rattle.mls_text.specs.Lines.{lines_of, without_return}

-- the most bytes that a line may have, without its line feed and a carriage return before that
abbrev pub line_limit : ℕ
line_limit = 1024

-- a line as it is read: none where it is too long
abbrev pub line_if_short : List ℕ → Option (List ℕ)
line_if_short line = if nat_lt line_limit (length (without_return line)) then None else Some (without_return line)

-- the lines of a script, each as it is read
abbrev pub script_of : List ℕ → List (Option (List ℕ))
script_of text = map line_if_short (lines_of text)

-- the lists with a byte in front of the first, if there is one
abbrev pub onto_whole : ℕ → List (List ℕ) → List (List ℕ)
onto_whole b [] = []
onto_whole b (line ∷ lines) = (b ∷ line) ∷ lines

-- the lines of a text that end with a line feed; a line that the text's end cuts off is left out
abbrev pub whole_lines_of : List ℕ → List (List ℕ)
whole_lines_of [] = []
whole_lines_of (b ∷ bytes) = if b == 10 then [] ∷ whole_lines_of bytes else onto_whole b (whole_lines_of bytes)

-- these lines, each as it is read
abbrev pub whole_script_of : List ℕ → List (Option (List ℕ))
whole_script_of text = map line_if_short (whole_lines_of text)
