-- What reading a line takes from a script. This project's own.
use Rattle.std.specs.Prelude.{◌≡◌, ℕ, ◌<◌, Option, Some, None, List, [], ◌∷◌, ◌++◌, length, ⊤}
use Rattle.std.specs.Io.KnownBytes.{Consumes}
use Rattle.mls_text.specs.Lines.{IsUnbroken}
use Rattle.mls_wire.specs.Lines.{line_if_short}
use Rattle.mls_wire.specs.declared.reader.NextLine.{NextLine}
use Rattle.mls_wire.specs.declared.reader.NextLine.TheVariants.{End, Line, LastLine}

-- the first line of the old text was taken, and the new text is what follows it; the bytes that were kept are read as the line is
abbrev pub TakesLine : List ℕ → List ℕ → NextLine → List ℕ → Type 0
TakesLine old new End kept = (old ≡ []) × (new ≡ [])
TakesLine old new Line kept = (line : List ℕ) × IsUnbroken line × (old ≡ line ++ 10 ∷ new) × (line_if_short kept ≡ line_if_short line)
TakesLine old new LastLine kept = IsUnbroken old × (0 < length old) × (new ≡ []) × (line_if_short kept ≡ line_if_short old)

-- where the old text is known, a line was taken; the new one is then known too
abbrev pub TakesKnownLine : Option (List ℕ) → Option (List ℕ) → NextLine → List ℕ → Type 0
TakesKnownLine None new next kept = ⊤
TakesKnownLine (Some old) None next kept = ⊥
TakesKnownLine (Some old) (Some new) next kept = TakesLine old new next kept

-- a beginning of a line was taken from the old text, where that is known
abbrev pub BeginsKnownLine : Option (List ℕ) → Option (List ℕ) → Type 0
BeginsKnownLine old new = (begun : List ℕ) × IsUnbroken begun × Consumes old new begun
