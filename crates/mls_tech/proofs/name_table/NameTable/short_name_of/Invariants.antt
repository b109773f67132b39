use Rattle.std.proofs.Common.{◌≡◌, ◌&&◌, ◌==◌}
use Rattle.std.specs.Option.{option_map}
use Rattle.std.specs.Prelude.{find}
use Rattle.mls_tech.specs.Inner.NameTables.{names_in}
use Rattle.mls_tech.specs.Readings.{none_is_shorter, short_name_of}
use Rattle.mls_tech.proofs.name_table.NameTable.short_name_of.Given as goal

abbrev pub invariant-loop-name : goal.invariant-loop-name
invariant-loop-name l =
    (goal.iterator-loop-name).can_next l.name-iterator ×
    (goal.iterator-loop-name).is_finite l.name-iterator ×
    (option_map (λ entry. entry.0) (find (λ entry. entry.1 == l.number && none_is_shorter l.self l.number entry.0) (names_in (λ name. name.items) l.name-iterator))
    ≡ short_name_of l.self l.number)
