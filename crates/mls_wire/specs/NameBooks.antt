-- What names mean to a reader of lines, and what numbers are called in replies.
use Rattle.std.specs.Prelude.{ℕ, Option, None, List, [], ◌∷◌, if◌then◌else◌, position, slice_get}
use Rattle.mls_server.specs.Settings.{Setting, cell_names}
use Rattle.mls_server.specs.Worlds.{World}
use Rattle.mls_tech.specs.Readings.{number_named, name_of, short_name_of, why_of}
use Rattle.mls_text.specs.Words.{same_word}

pub record Names : Type 0 where
  -- the type of a name
  pub type_of : List ℕ → Option ℕ
  -- the number of the cell of a name
  pub cell_of : List ℕ → Option ℕ
  -- the name of a cell
  pub cell_name : ℕ → Option (List ℕ)
  -- the first name of a type
  pub type_name : ℕ → Option (List ℕ)
  -- the shortest name of a type, the first of that length
  pub short_type_name : ℕ → Option (List ℕ)
  -- why a rule is there, by its number from 1
  pub why_text : ℕ → Option (List ℕ)

-- the id of the open session of each name
abbrev pub SessionIds : Type 0
SessionIds = List ℕ → Option ℕ

-- a comma, which is the name of nothing: it is written for what has no name
abbrev pub no_name : List ℕ
no_name = 44 ∷ []

-- the number of the cell that a word calls
abbrev pub cell_called : Setting → List ℕ → Option ℕ
cell_called setting word = if same_word word no_name then None else position (λ cell. same_word word cell.name) setting.cells

-- what names mean in a world
abbrev pub book_of : World → Names
book_of on =
    record {
      type_of = number_named on.setting.tech.types;
      cell_of = cell_called on.setting;
      cell_name = slice_get (cell_names on.setting);
      type_name = name_of on.setting.tech.types;
      short_type_name = short_name_of on.setting.tech.types;
      why_text = why_of on.setting.tech.rules;
    }
