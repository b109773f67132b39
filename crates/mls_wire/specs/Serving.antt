-- What a script, its run and its output have to do with each other, where the bytes of the devices are known.
use Rattle.std.specs.Prelude.{◌≡◌, ℕ, ◌≤◌, Option, Some, None, List, [], ◌++◌, length, codes, ⊤}
use Rattle.std.specs.Io.KnownBytes.{Appends}
use Rattle.mls_text.specs.Lines.{lines_of}
use Rattle.mls_wire.specs.Lines.{script_of, whole_script_of}
use Rattle.mls_server.specs.Worlds.{World}
use Rattle.mls_server.specs.declared.answer.Answer.{Answer}
use Rattle.mls_server.specs.declared.event.Event.{Event}
use Rattle.mls_wire.specs.Runs.{RunsLine, RunsScript, RunsUpTo}
use Rattle.mls_wire.specs.Watches.{Watched, HasCause}
use Rattle.mls_wire.specs.declared.serving.ServeFault.{ServeFault}
use Rattle.mls_wire.specs.declared.serving.ServeFault.TheVariants.{Read, Write, Memory}

-- the text of a fault
abbrev pub serve_fault_text : ServeFault → List ℕ
serve_fault_text Read = codes "input failed"
serve_fault_text Write = codes "output failed"
serve_fault_text Memory = codes "memory"

-- known bytes grow by a beginning of these
abbrev pub AppendsFront : Option (List ℕ) → Option (List ℕ) → List ℕ → Type 0
AppendsFront old new bytes = (front : List ℕ) × (missing : List ℕ) × (bytes ≡ front ++ missing) × Appends old new front

-- known bytes grow by what the relation says
abbrev pub Gains : Option (List ℕ) → Option (List ℕ) → (List ℕ → Type 0) → Type 0
Gains old new P = (out : List ℕ) × P out × Appends old new out

-- ---- a script that was read to its end

-- the output gained the reply texts of the script's lines, or of some lines where the script isn't known, and the run led to the new world
abbrev pub WritesRun : World → Option (List ℕ) → Option (List ℕ) → Option (List ℕ) → World → Type 0
WritesRun old None written now new = Gains written now (λ out. (lines : List (Option (List ℕ))) × RunsScript old lines out new)
WritesRun old (Some script) written now new = Gains written now (λ out. RunsScript old (script_of script) out new)

-- ---- a script that was left before

-- the device was read up to `rest`, and the run is that of exactly the whole lines among the bytes that were read
pub record StopsAtRead (old : World) (script rest out : List ℕ) (new : World) : Type 0 where
  pub consumed : List ℕ
  pub split : script ≡ consumed ++ rest
  pub runs : RunsScript old (whole_script_of consumed) out new

-- the device was read up to `rest`, and at most 4096 of these bytes lie ahead of the lines that were taken; the last of these lines is
-- the one whose reply text was not written whole
pub record StopsAtLine (old : World) (script rest front out : List ℕ) (new : World) : Type 0 where
  pub taken : List ℕ
  pub ahead : List ℕ
  pub split : script ≡ taken ++ (ahead ++ rest)
  pub near : length ahead ≤ 4096
  pub whole : lines_of script ≡ lines_of taken ++ lines_of (ahead ++ rest)
  pub runs : RunsUpTo old (script_of taken) front out new

-- the output of a run that this fault cut; where memory ran out, nothing of the last line's reply text was written
abbrev pub IsCut : World → ServeFault → List ℕ → List ℕ → List ℕ → World → Type 0
IsCut old Read script rest out new = StopsAtRead old script rest out new
IsCut old Write script rest out new = (front : List ℕ) × StopsAtLine old script rest front out new
IsCut old Memory script rest out new = StopsAtLine old script rest [] out new

-- the same of some lines, where the script isn't known
abbrev pub IsCutRun : World → ServeFault → List ℕ → World → Type 0
IsCutRun old Read out new = (lines : List (Option (List ℕ))) × RunsScript old lines out new
IsCutRun old Write out new = (lines : List (Option (List ℕ))) × (front : List ℕ) × RunsUpTo old lines front out new
IsCutRun old Memory out new = (lines : List (Option (List ℕ))) × RunsUpTo old lines [] out new

-- the output gained that of a run that this fault cut, and the run led to the new world
abbrev pub WritesCutRun : World → ServeFault → Option (List ℕ) → Option (List ℕ) → Option (List ℕ) → Option (List ℕ) → World → Type 0
WritesCutRun old fault None rest written now new = Gains written now (λ out. IsCutRun old fault out new)
WritesCutRun old fault (Some script) None written now new = ⊥
WritesCutRun old fault (Some script) (Some rest) written now new = Gains written now (λ out. IsCut old fault script rest out new)

-- ---- a line

-- line n was run, and its reply text was written
abbrev pub WritesLine : World → ℕ → Option (List ℕ) → Option (List ℕ) → Option (List ℕ) → World → Type 0
WritesLine old n line written now new = Gains written now (λ text. (asked : List Event) × (answered : List Answer) × RunsLine old n line text asked answered new)

-- line n was run, and of its reply text a beginning was written, or nothing where memory ran out
abbrev pub WritesCutLine : World → ℕ → Option (List ℕ) → ServeFault → Option (List ℕ) → Option (List ℕ) → World → Type 0
WritesCutLine old n line fault written now new =
    Gains written now (λ front. ((missing : List ℕ) × (asked : List Event) × (answered : List Answer) × RunsLine old n line (front ++ missing) asked answered new) × (fault ≡ Memory → front ≡ []))

-- a fault of a device comes only where one of its calls failed, or all that can be counted were made
abbrev pub HasReason : {R W : Type 0} → ServeFault → Watched R → Watched W → Type 0
HasReason Read input output = HasCause input
HasReason Write input output = HasCause output
HasReason Memory input output = ⊤
