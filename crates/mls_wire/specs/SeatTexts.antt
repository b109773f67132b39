-- Texts of replies that only sessions at seats have. This project's own.
use Rattle.std.specs.Prelude.{ℕ, List, [], ◌∷◌, ◌++◌, codes}

-- the list of the session's seat isn't that of its journal
abbrev pub differs_text : List ℕ → List ℕ
differs_text name = name ++ codes " differs" ++ 10 ∷ []
