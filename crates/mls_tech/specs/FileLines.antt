-- The lines of a technology file (Magic Maintainer's Manual 2), numbered from 1.
use Rattle.std.specs.Prelude.{ℕ, ◌+◌, ◌==◌, Bool, false, not, if◌then◌else◌, List, [], ◌∷◌, ◌++◌}
use Rattle.std.specs.List.{filter}
use Rattle.mls_text.specs.Lines.{raw_lines}
use Rattle.mls_text.specs.Words.{words_of, begins_with}

-- a line with the number of its first raw line
pub record NumberedLine : Type 0 where
  pub line : ℕ
  pub bytes : List ℕ

-- the last byte of the line is `\`
abbrev pub goes_on : List ℕ → Bool
goes_on [] = false
goes_on (b ∷ []) = b == 92
goes_on (b ∷ c ∷ bytes) = goes_on (c ∷ bytes)

-- the line with a blank in place of its last byte
abbrev pub with_blank : List ℕ → List ℕ
with_blank [] = []
with_blank (b ∷ []) = 32 ∷ []
with_blank (b ∷ c ∷ bytes) = b ∷ with_blank (c ∷ bytes)

-- the lines with this text in front of the first, which begins at line n now
abbrev pub joined_to : ℕ → List ℕ → List NumberedLine → List NumberedLine
joined_to n text [] = record { line = n; bytes = text } ∷ []
joined_to n text (first ∷ lines) = record { line = n; bytes = text ++ first.bytes } ∷ lines

-- raw lines from line n on, each that ends with `\` joined with the next
abbrev pub joined_from : ℕ → List (List ℕ) → List NumberedLine
joined_from n [] = []
joined_from n (raw ∷ lines) =
    if goes_on raw then joined_to n (with_blank raw) (joined_from (n + 1) lines)
    else record { line = n; bytes = raw } ∷ joined_from (n + 1) lines

-- a line with words, whose first byte other than a blank isn't `#`
abbrev pub begins_content : List (List ℕ) → Bool
begins_content [] = false
begins_content (word ∷ words) = not (begins_with 35 word)

abbrev pub has_content : NumberedLine → Bool
has_content line = begins_content (words_of line.bytes)

-- the lines of a file that have content
unfoldable pub content_lines : List ℕ → List NumberedLine
content_lines bytes = filter has_content (joined_from 1 (raw_lines bytes))

-- the bytes of the current line, and the lines ahead
pub record FileLines : Type 0 where
  pub line : List ℕ
  pub ahead : List NumberedLine
