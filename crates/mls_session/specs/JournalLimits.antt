-- How many entries a journal may have. This project's own.
use Rattle.std.specs.Prelude.{ℕ}

abbrev pub most_entries : ℕ
most_entries = 65536

abbrev pub default_journal_limit : ℕ
default_journal_limit = 4096
