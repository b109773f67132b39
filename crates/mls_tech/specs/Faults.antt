-- The numbers and texts of a technology file's faults. This project's own.
use Rattle.std.specs.Prelude.{ℕ, List, codes}
use Rattle.mls_tech.specs.declared.fault.TechFaultKind.{TechFaultKind}
use Rattle.mls_tech.specs.declared.fault.TechFaultKind.TheVariants.{NotUtf8, NoEnd, UnknownPlane, UnknownType, NameTwice, BadNumber, BadList, BadForm, Limit, Memory}

-- the number and the text of each fault
abbrev pub fault_row : TechFaultKind → ℕ × List ℕ
fault_row NotUtf8 = (1, codes "not UTF-8")
fault_row NoEnd = (2, codes "no end")
fault_row UnknownPlane = (3, codes "unknown plane")
fault_row UnknownType = (4, codes "unknown type")
fault_row NameTwice = (5, codes "name twice")
fault_row BadNumber = (6, codes "bad number")
fault_row BadList = (7, codes "bad list")
fault_row BadForm = (8, codes "bad form")
fault_row Limit = (9, codes "limit")
fault_row Memory = (10, codes "memory")

abbrev pub fault_number : TechFaultKind → ℕ
fault_number kind = (fault_row kind).0

abbrev pub fault_text : TechFaultKind → List ℕ
fault_text kind = (fault_row kind).1
