-- What the program does with its words, its technology and its script. This project's own.
use Rattle.std.specs.Prelude.{◌≡◌, ◌≢◌, ◌⊎◌, ℕ, true, false, Option, Some, Ok, Err, List, [], ◌∷◌, ◌++◌, map, ⊤}
use Rattle.mls_crew.specs.Scripts.{FailsBatch, WritesBatch}
use Rattle.mls_edgerule.specs.Compiling.{compiled}
use Rattle.mls_edgerule.specs.declared.edge_rule.EdgeRule.{EdgeRule}
use Rattle.mls_lines.specs.Scripts.{FailsStream, WritesStream}
use Rattle.mls_tech.specs.Readings.{Tech}
use Rattle.mls_lines.specs.mls_server.Worlds.{MarksAreExact, MarksAreRight, World}
use Rattle.mls_lines.specs.mls_wire.Serving.{HasReason, WritesRun, WritesCutRun}
use Rattle.mls_lines.specs.mls_wire.Watches.{Watched}
use Rattle.mls_magicd.specs.Cells.{LoadsCells, StopsAtCell}
use Rattle.mls_magicd.specs.CommandLines.{AreTaken, NamedFile, NamesFiles, bad_word, cell_words, faults_in, file_named, quota_option, pool_option, journal_option, cell_tiles_option, IsNumberFor, IsRefusedBy}
use Rattle.mls_magicd.specs.Messages.{Reports, ReportsAll, bad_cell_line, fault_message, skipped_message}
use Rattle.mls_magicd.specs.Technologies.{HasReading, LacksTechnology}
use Rattle.mls_magicd.specs.declared.cells.LoadFault.{LoadFault}
use Rattle.mls_magicd.specs.declared.fault.Fault.{Fault}
use Rattle.mls_magicd.specs.declared.fault.Fault.TheVariants.{Options as BadOptions, Technology, Rule, Cell, Memory, Serve, Differs}
use Rattle.mls_magicd.specs.declared.options.Mode.{Mode}
use Rattle.mls_magicd.specs.declared.options.Mode.TheVariants.{Alone, Batch, Stream}
use Rattle.mls_magicd.specs.declared.options.Options.{Options}
use Rattle.mls_magicd.specs.declared.options.OptionsFault.TheVariants.{Refused, BadCell, Memory as OptionsMemory}

-- ---- exit statuses

-- the whole script was served
abbrev pub done : ℕ
done = 0

-- a file is bad or can't be read, or a device or memory failed
abbrev pub failed : ℕ
failed = 1

-- the words of the command line are refused
abbrev pub bad_command_line : ℕ
bad_command_line = 2

abbrev pub status_after : Fault → ℕ
status_after (BadOptions (Refused text)) = bad_command_line
status_after (BadOptions (BadCell word)) = bad_command_line
status_after (BadOptions OptionsMemory) = failed
status_after (Technology fault) = failed
status_after (Rule fault) = failed
status_after (Cell fault) = failed
status_after Memory = failed
status_after (Serve fault) = failed
status_after Differs = failed

-- ---- the start

-- the words have no fault, and the world has the technology that they name and its compiled rules, the quota, the limits of journals and cells and the pool's capacity
-- that they name, no cells, and no session, nor was any opened; `reads_as` relates paths to the bytes that their files may be read as
pub record IsBareFor (reads_as : List ℕ → List ℕ → Type 0) (words : List (List ℕ)) (on : World) : Type 0 where
  pub taken : AreTaken words
  pub tech : HasReading reads_as (file_named words) on.setting.tech
  pub rules : compiled on.setting.tech ≡ Ok on.setting.rules
  pub quota : IsNumberFor quota_option words on.setting.quota
  pub journal : IsNumberFor journal_option words on.setting.journal
  pub cell_tiles : IsNumberFor cell_tiles_option words on.setting.cell_tiles
  pub cells : on.setting.cells ≡ []
  pub given : on.given ≡ 0
  pub seats : on.seats ≡ []
  pub room : IsNumberFor pool_option words on.room

-- the world of a server that was just made with this technology and these rules, and the numbers of the options
abbrev pub bare_world : Options → Tech → List EdgeRule → World
bare_world options tech rules = record {
  setting = record {
    tech = tech;
    rules = rules;
    quota = options.quota;
    journal = options.journal;
    cell_tiles = options.cell_tiles;
    cells = [];
  };
  given = 0;
  seats = [];
  room = options.pool;
}

-- the world is that one with the cells that the words name, which were loaded in order
pub record IsConfiguredBy (reads_as : List ℕ → List ℕ → Type 0) (words : List (List ℕ)) (on : World) : Type 0 where
  pub bare : World
  pub is_bare : IsBareFor reads_as words bare
  pub files : List NamedFile
  pub named : NamesFiles (cell_words words) files
  pub loaded : LoadsCells reads_as bare files on

-- one of the cells that the words name isn't loaded into the world
pub record IsStoppedBy (reads_as : List ℕ → List ℕ → Type 0) (may_fail : List ℕ → Type 0) (words : List (List ℕ)) (bare : World) (fault : LoadFault) : Type 0 where
  pub is_bare : IsBareFor reads_as words bare
  pub files : List NamedFile
  pub named : NamesFiles (cell_words words) files
  pub stops : StopsAtCell reads_as may_fail bare files fault

-- no server is made on this world, for lack of memory, or one of the cells isn't loaded into it
abbrev pub FailsOver : (List ℕ → List ℕ → Type 0) → (List ℕ → Type 0) → World → List NamedFile → Fault → Type 0
FailsOver reads_as may_fail bare files Memory = ⊤
FailsOver reads_as may_fail bare files (Cell fault) = StopsAtCell reads_as may_fail bare files fault
FailsOver reads_as may_fail bare files _ = ⊥

-- a line for each skipped line of the technology, in the order of the file
abbrev pub skipped_lines : Tech → List (List ℕ)
skipped_lines tech = map skipped_message tech.skipped

-- the start fails with this fault, and nothing was reported before it but the skipped lines of an accepted technology
abbrev pub FailsAtStart : {E : Type 0} → (List ℕ → List ℕ → Type 0) → (List ℕ → Type 0) → List (List ℕ)
    → (E → Option (List ℕ)) → Watched E → Watched E → Fault → Type 0
FailsAtStart reads_as may_fail words contents old new (BadOptions fault) = IsRefusedBy words fault × (new ≡ old)
FailsAtStart reads_as may_fail words contents old new (Technology fault) =
    AreTaken words × LacksTechnology reads_as may_fail (file_named words) fault × (new ≡ old)
FailsAtStart reads_as may_fail words contents old new (Rule fault) =
    (tech : Tech) × AreTaken words × HasReading reads_as (file_named words) tech × (compiled tech ≡ Err fault)
    × ReportsAll contents old new (skipped_lines tech)
FailsAtStart reads_as may_fail words contents old new (Cell fault) =
    (bare : World) × IsStoppedBy reads_as may_fail words bare fault × ReportsAll contents old new (skipped_lines bare.setting.tech)
FailsAtStart reads_as may_fail words contents old new Memory =
    (bare : World) × IsBareFor reads_as words bare × ReportsAll contents old new (skipped_lines bare.setting.tech)
FailsAtStart reads_as may_fail words contents old new (Serve fault) = ⊥
FailsAtStart reads_as may_fail words contents old new Differs = ⊥

-- the start failed with the status 1, and the fault was reported
abbrev pub EndsAtStart : {E : Type 0} → (List ℕ → List ℕ → Type 0) → (List ℕ → Type 0) → List (List ℕ)
    → (E → Option (List ℕ)) → Watched E → Watched E → Type 0
EndsAtStart {E} reads_as may_fail words contents old new =
    (fault : Fault) × (before : Watched E) × (status_after fault ≡ failed)
    × FailsAtStart reads_as may_fail words contents old before fault × Reports contents before new (fault_message fault)

-- the words have a fault, and the parser's text was reported; or one that should name a cell has no `=`, and the first such word was reported
abbrev pub RefusesWords : {E : Type 0} → List (List ℕ) → (E → Option (List ℕ)) → Watched E → Watched E → Type 0
RefusesWords words contents old new =
    ((faults_in words ≢ []) × ((text : List ℕ) × Reports contents old new text))
    ⊎ ((faults_in words ≡ []) × ((word : List ℕ) × (bad_word (cell_words words) ≡ Some word) × Reports contents old new (bad_cell_line word)))

-- ---- the script

-- what a script leaves: the setting is the one that it began with, the marks of each open session are right outside the areas that await checking, and exact
-- where there is none
pub record IsLeftBy (old last : World) : Type 0 where
  pub setting : last.setting ≡ old.setting
  pub marks_right : MarksAreRight last
  pub marks_exact : MarksAreExact last

-- the output gained the reply texts of the script's run on this world
abbrev pub ServesScript : World → Option (List ℕ) → Option (List ℕ) → Option (List ℕ) → Type 0
ServesScript old script written now = (last : World) × WritesRun old script written now last × IsLeftBy old last

-- it gained those of a run that was cut by this fault
abbrev pub FailsInScript : {R W : Type 0} → World → Option (List ℕ) → Option (List ℕ) → Option (List ℕ) → Option (List ℕ)
    → Watched R → Watched W → Fault → Type 0
FailsInScript old script rest written now input output (Serve fault) =
    ((last : World) × WritesCutRun old fault script rest written now last × IsLeftBy old last) × HasReason fault input output
FailsInScript old script rest written now input output _ = ⊥

-- it failed so, and the fault was reported after the skipped lines
abbrev pub ReportsEnd : {E : Type 0} → World → (Fault → Type 0) → (E → Option (List ℕ)) → Watched E → Watched E → Type 0
ReportsEnd on fails messages before after =
    (fault : Fault) × fails fault × ReportsAll messages before after (skipped_lines on.setting.tech ++ fault_message fault ∷ [])

-- so it did, and the fault was reported after the skipped lines
abbrev pub EndsInScript : {R W E : Type 0} → World → Option (List ℕ) → Option (List ℕ) → Option (List ℕ) → Option (List ℕ)
    → Watched R → Watched W → (E → Option (List ℕ)) → Watched E → Watched E → Type 0
EndsInScript old script rest written now input output messages before after =
    ReportsEnd old (FailsInScript old script rest written now input output) messages before after

-- ---- the script, with workers

-- the script fails with this fault, or all was written, and some session's list wasn't that of its journal at its end
abbrev pub FailsInBatch : {R W : Type 0} → World → Option (List ℕ) → Watched R → (W → Option (List ℕ)) → Watched W → Watched W → Fault → Type 0
FailsInBatch on script input contents old new (Serve fault) = FailsBatch on fault script input contents old new
FailsInBatch on script input contents old new Differs = WritesBatch on script (contents old.device) (contents new.device) false
FailsInBatch on script input contents old new _ = ⊥

-- so it did, and the fault was reported after the skipped lines
abbrev pub EndsInBatch : {R W E : Type 0} → World → Option (List ℕ) → Watched R → (W → Option (List ℕ)) → Watched W → Watched W
    → (E → Option (List ℕ)) → Watched E → Watched E → Type 0
EndsInBatch on script input contents old new messages before after = ReportsEnd on (FailsInBatch on script input contents old new) messages before after

-- ---- the script, answered as it comes

-- the script fails with this fault, or all was answered, and some session's list wasn't that of its journal at its end
abbrev pub FailsInStream : {R W : Type 0} → World → Option (List ℕ) → Watched R → (W → Option (List ℕ)) → Watched W → Watched W → Fault → Type 0
FailsInStream on script input contents old new (Serve fault) = FailsStream on fault script input contents old new
FailsInStream on script input contents old new Differs = WritesStream on script (contents old.device) (contents new.device) false
FailsInStream on script input contents old new _ = ⊥

-- so it did, and the fault was reported after the skipped lines
abbrev pub EndsInStream : {R W E : Type 0} → World → Option (List ℕ) → Watched R → (W → Option (List ℕ)) → Watched W → Watched W
    → (E → Option (List ℕ)) → Watched E → Watched E → Type 0
EndsInStream on script input contents old new messages before after = ReportsEnd on (FailsInStream on script input contents old new) messages before after

-- ---- the script, in one of these modes

-- it is served so on this world, and the whole of it was audited
abbrev pub ServesAs : Mode → World → Option (List ℕ) → Option (List ℕ) → Option (List ℕ) → Type 0
ServesAs Alone on script written now = ServesScript on script written now
ServesAs Batch on script written now = WritesBatch on script written now true
ServesAs Stream on script written now = WritesStream on script written now true

-- it fails so with this fault
abbrev pub FailsAs : {R W : Type 0} → Mode → World → (R → Option (List ℕ)) → (W → Option (List ℕ)) → Watched R → Watched R → Watched W → Watched W → Fault → Type 0
FailsAs Alone on remaining contents before input old new fault =
    FailsInScript on (remaining before.device) (remaining input.device) (contents old.device) (contents new.device) input new fault
FailsAs Batch on remaining contents before input old new fault = FailsInBatch on (remaining before.device) input contents old new fault
FailsAs Stream on remaining contents before input old new fault = FailsInStream on (remaining before.device) input contents old new fault
