-- What a line of a script has.
use Rattle.std.specs.Prelude.{ℕ, Option, Some, None, List}
use Rattle.mls_wire.specs.declared.script_line.ScriptLine.{ScriptLine}
use Rattle.mls_wire.specs.declared.script_line.ScriptLine.TheVariants.{TooLong, Text}

-- the line's bytes: none where it is too long
abbrev pub bytes_of_line : ScriptLine → Option (List ℕ)
bytes_of_line TooLong = None
bytes_of_line (Text bytes) = Some bytes.now
