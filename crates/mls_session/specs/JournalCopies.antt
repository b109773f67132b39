-- A copy of a session's journal.
use Rattle.std.specs.Prelude.{ℕ, List}
use Rattle.mls_session.specs.declared.journal.Entry.{Entry}

-- the entries, and how many check steps were done since the last one
pub record JournalCopy : Type 0 where
  pub entries : List Entry
  pub steps : ℕ
