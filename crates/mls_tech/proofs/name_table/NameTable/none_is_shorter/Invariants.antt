use Rattle.std.proofs.Common.{◌≡◌}
use Rattle.mls_tech.specs.Inner.NameTables.{names_in}
use Rattle.mls_tech.specs.Readings.{none_is_shorter}
use Rattle.mls_tech.proofs.name_table.NameTable.none_is_shorter.Given as goal

abbrev pub invariant-loop-other : goal.invariant-loop-other
invariant-loop-other l =
    (goal.iterator-loop-other).can_next l.other-iterator ×
    (goal.iterator-loop-other).is_finite l.other-iterator ×
    (none_is_shorter (names_in (λ name. name.items) l.other-iterator) l.number l.name ≡ none_is_shorter l.self l.number l.name)
