-- The numbers and texts of the faults of rule lines. This project's own.
use Rattle.std.specs.Prelude.{ℕ, List, codes}
use Rattle.mls_edgerule.specs.declared.fault.RuleFaultKind.{RuleFaultKind}
use Rattle.mls_edgerule.specs.declared.fault.RuleFaultKind.TheVariants.{Planes, TooManyRules}

abbrev pub rule_fault_number : RuleFaultKind → ℕ
rule_fault_number Planes = 1
rule_fault_number TooManyRules = 2

abbrev pub rule_fault_text : RuleFaultKind → List ℕ
rule_fault_text Planes = codes "planes"
rule_fault_text TooManyRules = codes "too many rules"
