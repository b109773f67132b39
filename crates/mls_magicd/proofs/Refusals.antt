-- Words that are refused.
use Rattle.std.proofs.Common.{◌≡◌, ℕ, List, Option, inl, inr, subst, arith}
use Rattle.std.specs.String.{string_bytes}
use Rattle.mls_lines.specs.mls_wire.Watches.{Watched}
use Rattle.mls_magicd.specs.Messages.{Reports, bad_cell_line, fault_message}
use Rattle.mls_magicd.specs.Programs.{FailsAtStart, RefusesWords, bad_command_line, status_after}
use Rattle.mls_magicd.specs.declared.fault.Fault.{Fault}
use Rattle.mls_magicd.specs.declared.fault.Fault.TheVariants.{Options, Technology, Rule, Cell, Memory, Serve, Differs}
use Rattle.mls_magicd.specs.declared.options.OptionsFault.TheVariants.{Refused, BadCell, Memory as OptionsMemory}

-- a start that ends the program with the status 2 refuses the words
pub refused-words : {E : Type 0} (reads_as : List ℕ → List ℕ → Type 0) (may_fail : List ℕ → Type 0) (words : List (List ℕ)) (contents : E → Option (List ℕ))
    → (old mid new : Watched E) (fault : Fault) → status_after fault ≡ bad_command_line → FailsAtStart reads_as may_fail words contents old mid fault
    → Reports contents mid new (fault_message fault) → RefusesWords words contents old new
refused-words {E} reads_as may_fail words contents old mid new (Options (Refused text)) is start reported =
    inl (start.0, (string_bytes text, subst (λ (watch : Watched E). Reports contents watch new (string_bytes text)) start.1 reported))
refused-words {E} reads_as may_fail words contents old mid new (Options (BadCell word)) is start reported =
    inr (start.0.0, (word.now, start.0.1, subst (λ (watch : Watched E). Reports contents watch new (bad_cell_line word.now)) start.1 reported))
refused-words reads_as may_fail words contents old mid new (Options OptionsMemory) is start reported = absurd (omega (arith, is))
refused-words reads_as may_fail words contents old mid new (Technology fault) is start reported = absurd (omega (arith, is))
refused-words reads_as may_fail words contents old mid new (Rule fault) is start reported = absurd (omega (arith, is))
refused-words reads_as may_fail words contents old mid new (Cell fault) is start reported = absurd (omega (arith, is))
refused-words reads_as may_fail words contents old mid new Memory is start reported = absurd (omega (arith, is))
refused-words reads_as may_fail words contents old mid new (Serve fault) is start reported = absurd (omega (arith, is))
refused-words reads_as may_fail words contents old mid new Differs is start reported = absurd (omega (arith, is))
