-- What a reader of lines keeps.
use Rattle.std.specs.Prelude.{ℕ, ◌+◌, ◌*◌, Option, List, length}
use Rattle.std.specs.Io.KnownBytes.{prepend_known}
use Rattle.mls_wire.specs.Watches.{Watched}

-- the bytes that were read and not yet taken, and what is kept of the line that was taken last
pub record LineReader : Type 0 where
  pub ahead : List ℕ
  pub line : List ℕ

-- the script that lies ahead, where it is known what the device has left
abbrev pub script_ahead : LineReader → Option (List ℕ) → Option (List ℕ)
script_ahead reader remaining = prepend_known reader.ahead remaining

-- no more lines than this can still come: each takes a call, or one of the at most 4096 bytes of a call
abbrev pub lines_left : {D : Type 0} → LineReader → Watched D → ℕ
lines_left reader input = 4097 * input.calls_left + length reader.ahead
