-- Which technology is served. This project's own.
use Rattle.std.specs.Prelude.{◌≡◌, ℕ, Option, Some, None, List, ◌++◌, Result, Ok, Err, codes, ⊤}
use Rattle.mls_tech.specs.Readings.{Tech, ReadsUnlessMemory, reading_of}
use Rattle.mls_tech.specs.declared.fault.TechFault.{TechFault}
use Rattle.mls_magicd.specs.declared.technology.TechnologyFault.{TechnologyFault}
use Rattle.mls_magicd.specs.declared.technology.TechnologyFault.TheVariants.{Unreadable, Faulty, Memory}
use Rattle.mls_magicd.specs.declared.technology.TechnologyText.{TechnologyText}
use Rattle.mls_magicd.specs.declared.technology.TechnologyText.TheVariants.{BuiltIn, OfFile}

-- technology M, which is built in
unfoldable pub technology_m : List ℕ
technology_m =
    codes "tech\n  M\nend\n" ++ codes "planes\n  active,a\n  metal1\nend\n"
    ++ codes "types\n  active poly,p\n  active ndiff,nd\n  metal1 m1\nend\n"
    ++ codes "drc\n  width poly 2 \"poly width\"\n" ++ codes "  spacing poly poly 3 touching_ok \"poly spacing\"\n"
    ++ codes "  spacing poly ndiff 1 touching_illegal \"poly to ndiff\"\n" ++ codes "  width m1 3 \"m1 width\"\nend\n"

-- the technology's text is what the file at the path may be read as, or technology M where there is no path
abbrev pub IsTechnologyText : (List ℕ → List ℕ → Type 0) → Option (List ℕ) → List ℕ → Type 0
IsTechnologyText reads_as None text = text ≡ technology_m
IsTechnologyText reads_as (Some path) text = reads_as path text

-- the technology's text is read as this
abbrev pub HasReading : (List ℕ → List ℕ → Type 0) → Option (List ℕ) → Tech → Type 0
HasReading reads_as path reading = (text : List ℕ) × IsTechnologyText reads_as path text × (reading_of text ≡ Ok reading)

-- it has this fault, or memory ran out over it
abbrev pub HasFault : (List ℕ → List ℕ → Type 0) → Option (List ℕ) → TechFault → Type 0
HasFault reads_as path fault =
    (text : List ℕ) × IsTechnologyText reads_as path text × ReadsUnlessMemory {A = Tech} (Err fault) (reading_of text)

-- the path is that of a file that may fail to be read
abbrev pub CannotRead : (List ℕ → Type 0) → Option (List ℕ) → List ℕ → Type 0
CannotRead may_fail path at = (path ≡ Some at) × may_fail at

-- why there is no technology
abbrev pub LacksTechnology : (List ℕ → List ℕ → Type 0) → (List ℕ → Type 0) → Option (List ℕ) → TechnologyFault → Type 0
LacksTechnology reads_as may_fail path (Unreadable at) = CannotRead may_fail path at.now
LacksTechnology reads_as may_fail path (Faulty fault) = HasFault reads_as path fault
LacksTechnology reads_as may_fail path Memory = ⊤

-- the text that is kept
abbrev pub text_in : TechnologyText → List ℕ
text_in BuiltIn = technology_m
text_in (OfFile bytes) = bytes.items

-- the technology's text is found, or the file at the path can't be read
abbrev pub OpensTechnology : (List ℕ → List ℕ → Type 0) → (List ℕ → Type 0) → Option (List ℕ) → Result TechnologyText TechnologyFault → Type 0
OpensTechnology reads_as may_fail path (Ok text) = IsTechnologyText reads_as path (text_in text)
OpensTechnology reads_as may_fail path (Err fault) = LacksTechnology reads_as may_fail path fault
