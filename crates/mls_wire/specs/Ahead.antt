-- Scripts that are read whole, before their sessions are opened. This project's own.
use Rattle.std.specs.Prelude.{◌≡◌, ℕ, ◌||◌, Bool, false, if◌then◌else◌, Option, Some, None, Result, Err, List, [], ◌∷◌, codes, map, ⊤}
use Rattle.mls_text.specs.Words.{same_word, words_of}
use Rattle.mls_wire.specs.Lines.{script_of}
use Rattle.mls_wire.specs.NameBooks.{Names, SessionIds}
use Rattle.mls_wire.specs.Says.{line_says}
use Rattle.mls_wire.specs.Watches.{HasCause, Watched}
use Rattle.mls_wire.specs.declared.line.Line.{Line}
use Rattle.mls_wire.specs.declared.line.LineFault.{LineFault}
use Rattle.mls_wire.specs.declared.line.LineFault.TheVariants.{UnknownCommand}
use Rattle.mls_wire.specs.declared.serving.ServeFault.{ServeFault}
use Rattle.mls_wire.specs.declared.serving.ServeFault.TheVariants.{Read, Write, Memory}

-- each session may be opened yet, and has no id of its own
abbrev pub ids_ahead : SessionIds
ids_ahead name = Some 0

-- the line begins with a word that no such script has
abbrev pub is_stepwise : List (List ℕ) → Bool
is_stepwise [] = false
is_stepwise (word ∷ words) = same_word word (codes "%close") || same_word word (codes "%step") || same_word word (codes "%steps")

-- what a line says then, or its first fault: none is that its session isn't open
unfoldable pub ahead_says : Names → Option (List ℕ) → Result Line LineFault
ahead_says book None = Err UnknownCommand
ahead_says book (Some bytes) = if is_stepwise (words_of bytes) then Err UnknownCommand else line_says book ids_ahead (Some bytes)

-- what the lines of a script say, where its bytes are known
abbrev pub SaysScript : Names → Option (List ℕ) → List (Result Line LineFault) → Type 0
SaysScript book None said = ⊤
SaysScript book (Some script) said = said ≡ map (ahead_says book) (script_of script)

-- reading stops because the input failed, or because memory ran out
abbrev pub StopsReading : {R : Type 0} → ServeFault → Watched R → Type 0
StopsReading Read input = HasCause input
StopsReading Memory input = ⊤
StopsReading Write input = ⊥
