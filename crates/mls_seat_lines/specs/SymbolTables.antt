-- What names mean at seats, and what numbers are called in replies. This project's own.
use Rattle.std.specs.Prelude.{ℕ, if◌then◌else◌, Option, None, List, position, slice_get}
use Rattle.mls_wire.specs.mls_server.Settings.{Setting, cell_names}
use Rattle.mls_tech.specs.Readings.{Tech, name_of, number_named, short_name_of, why_of}
use Rattle.mls_text.specs.Words.{same_word}
use Rattle.mls_wire.specs.NameBooks.{Names, no_name}

-- a technology, and the names of the cells in the order in which they were loaded
pub record SymbolTable : Type 0 where
  pub tech : Tech
  pub cells : List (List ℕ)

abbrev pub symbols_of : Setting → SymbolTable
symbols_of setting = record { tech = setting.tech; cells = cell_names setting }

-- the number of the cell of a name
abbrev pub cell_named : List (List ℕ) → List ℕ → Option ℕ
cell_named cells name = position (λ cell. same_word name cell) cells

-- the number of the cell that a word calls: a comma is written for what has no name, and calls none
abbrev pub cell_called : List (List ℕ) → List ℕ → Option ℕ
cell_called cells word = if same_word word no_name then None else cell_named cells word

-- what names mean, and what types, rules and cells are called
abbrev pub book_in : SymbolTable → Names
book_in symbols = record {
  type_of = number_named symbols.tech.types;
  cell_of = cell_called symbols.cells;
  cell_name = slice_get symbols.cells;
  type_name = name_of symbols.tech.types;
  short_type_name = short_name_of symbols.tech.types;
  why_text = why_of symbols.tech.rules;
}
