-- The numbers and texts of a cell file's faults, and out of memory. This project's own.
use Rattle.std.specs.Prelude.{◌≡◌, ℕ, Result, Ok, Err, List, codes}
use Rattle.mls_library.specs.declared.fault.CellFault.{CellFault}
use Rattle.mls_library.specs.declared.fault.CellFaultKind.{CellFaultKind}
use Rattle.mls_library.specs.declared.fault.CellFaultKind.TheVariants.{Form, UnknownLayer, Hierarchy, Scale, OutsideWorld, TooManyTiles, NameTwice, PoolFull, Memory, Triangle, LibraryFull}

-- the number and the text of each fault
abbrev pub fault_row : CellFaultKind → ℕ × List ℕ
fault_row Form = (1, codes "form")
fault_row UnknownLayer = (2, codes "unknown layer")
fault_row Hierarchy = (3, codes "hierarchy")
fault_row Scale = (4, codes "scale")
fault_row OutsideWorld = (5, codes "outside the world")
fault_row TooManyTiles = (6, codes "too many tiles")
fault_row NameTwice = (7, codes "name twice")
fault_row PoolFull = (8, codes "pool full")
fault_row Memory = (9, codes "memory")
fault_row Triangle = (10, codes "triangle")
fault_row LibraryFull = (11, codes "library full")

abbrev pub fault_number : CellFaultKind → ℕ
fault_number kind = (fault_row kind).0

abbrev pub fault_text : CellFaultKind → List ℕ
fault_text kind = (fault_row kind).1

-- the fact, unless the fault is out of memory, which has line 0
abbrev pub UnlessMemory : CellFaultKind → ℕ → Type 0 → Type 0
UnlessMemory Memory line P = line ≡ 0
UnlessMemory kind line P = P

-- the definition gives this value, or this fault with its line, unless memory ran out
abbrev pub ReadsUnlessMemory : {A B : Type 0} → (A → B) → Result A CellFault → Result B CellFault → Type 0
ReadsUnlessMemory view (Ok x) read = read ≡ Ok (view x)
ReadsUnlessMemory view (Err fault) read = UnlessMemory fault.kind fault.line (read ≡ Err fault)
