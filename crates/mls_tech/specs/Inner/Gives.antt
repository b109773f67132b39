-- What a function returns that may run out of memory. This project's own.
use Rattle.std.specs.Prelude.{◌≡◌, Result, Ok, Err}
use Rattle.mls_tech.specs.declared.fault.TechFaultKind.{TechFaultKind}
use Rattle.mls_tech.specs.declared.fault.TechFaultKind.TheVariants.{Memory}

-- reading gives the result, seen by the view
abbrev pub Gives : {A B : Type 0} → (A → B) → Result A TechFaultKind → Result B TechFaultKind → Type 0
Gives view (Ok x) read = read ≡ Ok (view x)
Gives view (Err fault) read = read ≡ Err fault

-- reading gives this fault, unless it is out of memory
abbrev pub FailsUnlessMemory : {B : Type 0} → TechFaultKind → Result B TechFaultKind → Type 0
FailsUnlessMemory Memory read = Unit {0}
FailsUnlessMemory fault read = read ≡ Err fault

-- reading gives the result, seen by the view, unless memory ran out
abbrev pub GivesUnlessMemory : {A B : Type 0} → (A → B) → Result A TechFaultKind → Result B TechFaultKind → Type 0
GivesUnlessMemory view (Ok x) read = read ≡ Ok (view x)
GivesUnlessMemory view (Err fault) read = FailsUnlessMemory fault read
