-- What loading the cells of the command line does to a world. This project's own.
use Rattle.std.specs.Prelude.{◌≡◌, ℕ, Ok, Err, List, [], ◌∷◌, ◌++◌, Result, ⊤}
use Rattle.mls_lines.specs.mls_server.Events.{LoadsCell}
use Rattle.mls_lines.specs.mls_server.Worlds.{World}
use Rattle.mls_magicd.specs.CommandLines.{NamedFile}
use Rattle.mls_magicd.specs.declared.cells.LoadFault.{LoadFault}
use Rattle.mls_magicd.specs.declared.cells.LoadFault.TheVariants.{Unreadable, Faulty, Memory}

-- the cell is loaded from bytes that its file may be read as; `reads_as` relates paths to the bytes that their files may be read as
abbrev pub LoadsFile : (List ℕ → List ℕ → Type 0) → World → NamedFile → World → Type 0
LoadsFile reads_as old file new = (bytes : List ℕ) × (id : ℕ) × reads_as file.path bytes × LoadsCell old file.name bytes (Ok id) new

-- so are these, one after another
unfoldable pub LoadsCells : (List ℕ → List ℕ → Type 0) → World → List NamedFile → World → Type 0
LoadsCells reads_as old [] new = new ≡ old
LoadsCells reads_as old (file ∷ files) new = (mid : World) × LoadsFile reads_as old file mid × LoadsCells reads_as mid files new

-- why a cell isn't loaded: its file may be unreadable, or may be read as bytes that have the fault; out of memory is left open
abbrev pub FailsToLoad : (List ℕ → List ℕ → Type 0) → (List ℕ → Type 0) → World → NamedFile → LoadFault → Type 0
FailsToLoad reads_as may_fail on file (Unreadable path) = (path.now ≡ file.path) × may_fail file.path
FailsToLoad reads_as may_fail on file (Faulty name fault) =
    (name.now ≡ file.name) × ((bytes : List ℕ) × reads_as file.path bytes × LoadsCell on file.name bytes (Err fault) on)
FailsToLoad reads_as may_fail on file Memory = ⊤

-- the cell is loaded, or isn't and nothing changes
abbrev pub LoadsUnlessFault : (List ℕ → List ℕ → Type 0) → (List ℕ → Type 0) → World → NamedFile → Result Unit LoadFault → World → Type 0
LoadsUnlessFault reads_as may_fail old file (Ok done) new = LoadsFile reads_as old file new
LoadsUnlessFault reads_as may_fail old file (Err fault) new = FailsToLoad reads_as may_fail old file fault × (new ≡ old)

-- one of these isn't loaded, after all those before it were
pub record StopsAtCell (reads_as : List ℕ → List ℕ → Type 0) (may_fail : List ℕ → Type 0) (old : World) (files : List NamedFile) (fault : LoadFault) : Type 0 where
  pub before : List NamedFile
  pub file : NamedFile
  pub after : List NamedFile
  pub order : files ≡ before ++ file ∷ after
  pub mid : World
  pub loads : LoadsCells reads_as old before mid
  pub fails : FailsToLoad reads_as may_fail mid file fault
