-- A cell file line by line.
use Rattle.std.proofs.Common.{◌≡◌, ℕ, ◌+◌, List, [], ◌∷◌, Result, Err, refl, ap}
use Rattle.mls_tech.specs.Readings.{Tech}
use Rattle.mls_text.specs.Words.{words_of}
use Rattle.mls_library.specs.CellFiles.{line_meaning, read_after, read_lines}
use Rattle.mls_library.specs.Faults.{UnlessMemory}
use Rattle.mls_library.specs.declared.cell_rect.CellRect.{CellRect}
use Rattle.mls_library.specs.declared.fault.CellFault.{CellFault}
use Rattle.mls_library.specs.declared.fault.CellFaultKind.{CellFaultKind}
use Rattle.mls_library.specs.declared.fault.CellFaultKind.TheVariants.{Form, Memory}
use Rattle.mls_library.specs.declared.meaning.Meaning.{Meaning}
use Rattle.mls_library.specs.declared.place.Place.{Place}
use Rattle.mls_library.proofs.LineMeanings.{IsOfFile}

module _ (tech : Tech) (place : Place) (rects : List CellRect) (n : ℕ) where
  module _ (line : List ℕ) (lines : List (List ℕ)) where
    abbrev pub meant : Result Meaning CellFaultKind → Result (List CellRect) CellFault
    meant read = read_after place rects (n + 1) read (λ next painted. read_lines tech next painted (n + 1) lines)

    -- what a line means goes before those after it
    pub read_lines-line : (read : Result Meaning CellFaultKind) → read ≡ line_meaning tech place (words_of line) → meant read ≡ read_lines tech place rects n (line ∷ lines)
    unfolding read_lines
    read_lines-line read e = ap meant e

  -- a file that isn't ended
  pub read_lines-none : read_lines tech place rects n [] ≡ Err (record { line = n; kind = Form })
  unfolding read_lines
  read_lines-none = refl

-- what is known of a fault of no line, and of a fault of the file
pub unless_memory : {P : Type 0} (kind : CellFaultKind) → P → UnlessMemory kind 0 P
unless_memory Memory p = refl
unless_memory kind p = p

pub unless_memory-line : {P : Type 0} (kind : CellFaultKind) (line : ℕ) → IsOfFile kind → P → UnlessMemory kind line P
unless_memory-line Memory line of_file p = absurd of_file
unless_memory-line kind line of_file p = p
