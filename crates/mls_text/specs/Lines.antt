-- The lines of a text. This project's own.
use Rattle.std.specs.Prelude.{◌≢◌, ℕ, ◌==◌, ◌&&◌, if◌then◌else◌, List, [], ◌∷◌, All}
use Rattle.mls_text.specs.Words.{begins_with}
pub use Rattle.mls_text.specs.Words.{onto_first}

-- the lines of a file: each ends with a line feed, with a carriage return before it dropped, or with the end of the file
abbrev pub raw_lines : List ℕ → List (List ℕ)
raw_lines [] = []
raw_lines (b ∷ bytes) =
    if b == 10 then [] ∷ raw_lines bytes
    else (if b == 13 && begins_with 10 bytes then raw_lines bytes else onto_first b (raw_lines bytes))

-- the lines of a text with their carriage returns: each ends with a line feed or with the end of the text
abbrev pub lines_of : List ℕ → List (List ℕ)
lines_of [] = []
lines_of (b ∷ bytes) = if b == 10 then [] ∷ lines_of bytes else onto_first b (lines_of bytes)

-- the line without a carriage return at its end
abbrev pub without_return : List ℕ → List ℕ
without_return [] = []
without_return (b ∷ []) = if b == 13 then [] else b ∷ []
without_return (b ∷ c ∷ bytes) = b ∷ without_return (c ∷ bytes)

-- the bytes have no line feed
abbrev pub IsUnbroken : List ℕ → Type 0
IsUnbroken bytes = All (λ b. b ≢ 10) bytes
