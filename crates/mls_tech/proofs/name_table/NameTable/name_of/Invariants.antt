use Rattle.std.proofs.Common.{◌≡◌}
use Rattle.mls_tech.specs.Inner.NameTables.{names_in}
use Rattle.mls_tech.specs.Readings.{name_of}
use Rattle.mls_tech.proofs.name_table.NameTable.name_of.Given as goal

abbrev pub invariant-loop-name : goal.invariant-loop-name
invariant-loop-name l =
    (goal.iterator-loop-name).can_next l.name-iterator ×
    (goal.iterator-loop-name).is_finite l.name-iterator ×
    (name_of (names_in (λ name. name.items) l.name-iterator) l.number ≡ name_of l.self l.number)
