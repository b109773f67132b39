-- How many workers there may be. This project's own.
use Rattle.std.specs.Prelude.{ℕ}

abbrev pub most_workers : ℕ
most_workers = 16

abbrev pub default_workers : ℕ
default_workers = 0
