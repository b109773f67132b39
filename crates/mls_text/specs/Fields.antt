-- The fields of a text between its commas. This project's own.
use Rattle.std.specs.Prelude.{ℕ, ◌==◌, if◌then◌else◌, List, [], ◌∷◌}
use Rattle.mls_text.specs.Words.{onto_first}

-- at least one field, and any may be empty
abbrev pub fields_of : List ℕ → List (List ℕ)
fields_of [] = [] ∷ []
fields_of (b ∷ bytes) = if b == 44 then [] ∷ fields_of bytes else onto_first b (fields_of bytes)
