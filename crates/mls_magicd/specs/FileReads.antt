-- The results of reading a file. This project's own.
use Rattle.std.specs.Prelude.{Result, Ok, Err, ⊤}
use Rattle.mls_magicd.specs.declared.files.FileFault.{FileFault}
use Rattle.mls_magicd.specs.declared.files.FileFault.TheVariants.{Unreadable, Memory}

-- the fault of a file that is unreadable comes only where the fact holds
abbrev pub IsUnreadable : {T : Type 0} → Type 0 → Result T FileFault → Type 0
IsUnreadable P (Ok bytes) = ⊤
IsUnreadable P (Err Unreadable) = P
IsUnreadable P (Err Memory) = ⊤
