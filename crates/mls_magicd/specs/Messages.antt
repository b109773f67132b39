-- The messages of the program, each a line but for the parser's, and what of them is written. This project's own.
use Rattle.std.specs.Prelude.{◌≡◌, ◌⊎◌, ℕ, Option, List, [], ◌∷◌, ◌++◌, codes}
use Rattle.std.specs.Fmt.{decimal}
use Rattle.std.specs.Io.KnownBytes.{Appends}
use Rattle.mls_edgerule.specs.Faults.{rule_fault_number, rule_fault_text}
use Rattle.mls_edgerule.specs.declared.fault.RuleFault.{RuleFault}
use Rattle.mls_lines.specs.mls_library.Faults.{fault_number as cell_fault_number, fault_text as cell_fault_text}
use Rattle.mls_lines.specs.mls_library.declared.fault.CellFault.{CellFault}
use Rattle.mls_tech.specs.Faults.{fault_number as tech_fault_number, fault_text as tech_fault_text}
use Rattle.mls_tech.specs.declared.fault.TechFault.{TechFault}
use Rattle.mls_tech.specs.declared.rule_line.Skipped.{Skipped}
use Rattle.std.specs.String.{string_bytes}
use Rattle.mls_magicd.specs.declared.cells.LoadFault.{LoadFault}
use Rattle.mls_magicd.specs.declared.cells.LoadFault.TheVariants.{Unreadable as CellUnreadable, Faulty as CellFaulty, Memory as LoadMemory}
use Rattle.mls_magicd.specs.declared.fault.Fault.{Fault}
use Rattle.mls_magicd.specs.declared.fault.Fault.TheVariants.{Options, Technology, Rule, Cell, Memory, Serve, Differs}
use Rattle.mls_magicd.specs.declared.options.OptionsFault.{OptionsFault}
use Rattle.mls_magicd.specs.declared.options.OptionsFault.TheVariants.{Refused, BadCell, Memory as OptionsMemory}
use Rattle.mls_magicd.specs.declared.technology.TechnologyFault.{TechnologyFault}
use Rattle.mls_magicd.specs.declared.technology.TechnologyFault.TheVariants.{Unreadable, Faulty, Memory as TechnologyMemory}
use Rattle.mls_lines.specs.mls_wire.Serving.{AppendsFront, serve_fault_text}
use Rattle.mls_lines.specs.mls_wire.Watches.{Watched, HasCause}
use Rattle.mls_lines.specs.mls_wire.declared.serving.ServeFault.{ServeFault}

-- ---- texts

abbrev pub memory_line : List ℕ
memory_line = codes "magicd: memory\n"

abbrev pub differs_line : List ℕ
differs_line = codes "magicd: audit differs\n"

unfoldable pub serve_fault_line : ServeFault → List ℕ
serve_fault_line fault = codes "magicd: " ++ serve_fault_text fault ++ 10 ∷ []

unfoldable pub unreadable_line : List ℕ → List ℕ
unreadable_line path = codes "magicd: cannot read " ++ path ++ 10 ∷ []

unfoldable pub bad_cell_line : List ℕ → List ℕ
bad_cell_line word = codes "magicd: bad cell argument " ++ word ++ 10 ∷ []

-- a line of a file has a fault of this sort
unfoldable pub faulty_line : List ℕ → List ℕ → ℕ → ℕ → List ℕ → List ℕ
faulty_line file sort line number text =
    codes "magicd: " ++ file ++ codes " line " ++ decimal line ++ sort ++ decimal number ++ 32 ∷ text ++ 10 ∷ []

-- the technology's fault, with its line, number and text
abbrev pub tech_fault_line : TechFault → List ℕ
tech_fault_line fault = faulty_line (codes "tech") (codes " fault ") fault.line (tech_fault_number fault.kind) (tech_fault_text fault.kind)

-- the fault of a rule line, with its line, number and text
abbrev pub rule_fault_line : RuleFault → List ℕ
rule_fault_line fault = faulty_line (codes "tech") (codes " rule fault ") fault.line (rule_fault_number fault.kind) (rule_fault_text fault.kind)

-- why there is no technology
abbrev pub technology_fault_line : TechnologyFault → List ℕ
technology_fault_line (Unreadable path) = unreadable_line path.now
technology_fault_line (Faulty fault) = tech_fault_line fault
technology_fault_line TechnologyMemory = memory_line

-- the cell's fault, with its line, number and text
abbrev pub cell_fault_line : List ℕ → CellFault → List ℕ
cell_fault_line name fault = faulty_line (codes "cell " ++ name) (codes " fault ") fault.line (cell_fault_number fault.kind) (cell_fault_text fault.kind)

-- why a cell isn't loaded
abbrev pub load_fault_line : LoadFault → List ℕ
load_fault_line (CellUnreadable path) = unreadable_line path.now
load_fault_line (CellFaulty name fault) = cell_fault_line name.now fault
load_fault_line LoadMemory = memory_line

-- why the words are refused
abbrev pub options_fault_text : OptionsFault → List ℕ
options_fault_text (Refused text) = string_bytes text
options_fault_text (BadCell word) = bad_cell_line word.now
options_fault_text OptionsMemory = memory_line

-- the message for a fault of the program
abbrev pub fault_message : Fault → List ℕ
fault_message (Options fault) = options_fault_text fault
fault_message (Technology fault) = technology_fault_line fault
fault_message (Rule fault) = rule_fault_line fault
fault_message (Cell fault) = load_fault_line fault
fault_message Memory = memory_line
fault_message (Serve fault) = serve_fault_line fault
fault_message Differs = differs_line

-- a skipped line of the technology
unfoldable pub skipped_message : Skipped → List ℕ
skipped_message skipped = codes "magicd: tech line " ++ decimal skipped.line ++ codes " skipped " ++ skipped.keyword ++ 10 ∷ []

-- ---- what is written of them

-- the message was written whole, or a beginning of it, and then the device for messages had failed
abbrev pub Reports : {E : Type 0} → (E → Option (List ℕ)) → Watched E → Watched E → List ℕ → Type 0
Reports contents old new message =
    Appends (contents old.device) (contents new.device) message
    ⊎ (AppendsFront (contents old.device) (contents new.device) message × HasCause new)

-- the messages were reported one after another, and nothing else was written
unfoldable pub ReportsAll : {E : Type 0} → (E → Option (List ℕ)) → Watched E → Watched E → List (List ℕ) → Type 0
ReportsAll contents old new [] = new ≡ old
ReportsAll {E} contents old new (message ∷ messages) =
    (between : Watched E) × Reports contents old between message × ReportsAll contents between new messages
