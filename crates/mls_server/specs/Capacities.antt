-- How many tiles the pool may have. This project's own.
use Rattle.std.specs.Prelude.{ℕ}

abbrev pub greatest_capacity : ℕ
greatest_capacity = 8388608

abbrev pub default_capacity : ℕ
default_capacity = 262144
