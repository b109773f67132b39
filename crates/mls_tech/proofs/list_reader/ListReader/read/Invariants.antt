use Rattle.std.proofs.Common.{◌≡◌, ◌+◌, ◌≤◌, length}
use Rattle.mls_tech.proofs.ReaderLemmas.{opening_tokens, read_from}
use Rattle.mls_tech.specs.Readings.{scope_of}
use Rattle.mls_tech.specs.TypeLists.{bits_in}
use Rattle.mls_tech.proofs.list_reader.ListReader.read.Given as goal

abbrev pub invariant-loop-token : goal.invariant-loop-token
invariant-loop-token l = record {
  reads : read_from (scope_of l.tech) l.self l.token-iterator ≡ bits_in (scope_of l.tech) l.word;
  fits : length l.self.outer + opening_tokens l.token-iterator ≤ l.self.room;
  room : l.self.room ≡ l.fn.self.room;
}
