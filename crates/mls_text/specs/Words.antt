-- The words of a line, separated by blanks. This project's own.
use Rattle.std.specs.Prelude.{ℕ, ◌==◌, Bool, true, false, not, ◌||◌, if◌then◌else◌, List, [], ◌∷◌}
use Rattle.std.specs.Str.{bytes_eq}

-- the lists with a byte in front of the first
abbrev pub onto_first : ℕ → List (List ℕ) → List (List ℕ)
onto_first b [] = (b ∷ []) ∷ []
onto_first b (first ∷ others) = (b ∷ first) ∷ others

-- there are no bytes
abbrev pub is_empty : List ℕ → Bool
is_empty [] = true
is_empty (b ∷ bytes) = false

-- the bytes begin with this one
abbrev pub begins_with : ℕ → List ℕ → Bool
begins_with b [] = false
begins_with b (c ∷ bytes) = c == b

-- a space or a tab
abbrev pub is_blank : ℕ → Bool
is_blank b = b == 32 || b == 9

-- the bytes begin with another byte than a blank
abbrev pub begins_with_word : List ℕ → Bool
begins_with_word [] = false
begins_with_word (b ∷ bytes) = not (is_blank b)

-- the longest runs of bytes other than blanks, in order
abbrev pub words_of : List ℕ → List (List ℕ)
words_of [] = []
words_of (b ∷ bytes) =
    if is_blank b then words_of bytes
    else (if begins_with_word bytes then onto_first b (words_of bytes) else (b ∷ []) ∷ words_of bytes)

-- two words have the same bytes
abbrev pub same_word : List ℕ → List ℕ → Bool
same_word = bytes_eq
