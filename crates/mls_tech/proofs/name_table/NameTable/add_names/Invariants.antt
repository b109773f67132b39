use Rattle.std.proofs.Common.{◌≡◌}
use Rattle.mls_tech.specs.Inner.NameKinds.{spelling_of}
use Rattle.mls_tech.specs.Readings.{add_names}
use Rattle.mls_text.specs.Fields.{fields_of}
use Rattle.mls_tech.proofs.name_table.NameTable.add_names.Given as goal

abbrev pub invariant-loop-word : goal.invariant-loop-word
invariant-loop-word l = add_names (spelling_of l.kind) l.number l.self l.word-iterator ≡ add_names (spelling_of l.kind) l.number l.fn.self (fields_of l.list)
