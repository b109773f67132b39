use Rattle.std.proofs.Common.{◌≡◌, None, ap, refl, ◌∙◌}
use Rattle.mls_tech.specs.Inner.NameTables.{names_in}
use Rattle.mls_tech.specs.Readings.{number_named}
use Rattle.mls_tech.proofs.NameTableLemmas.{names_in-insert_entry}
use Rattle.mls_tech.proofs.name_table.NameTable.add.Goals as goal

pub returns : goal.returns
returns c =
    let old = c.self.inside.numbers.entries in
    let key = c.in_ok-from_slice.field-0 in
    let same = c.in_ok-from_slice.ensures.items in
    let new : number_named (names_in (λ name. name.items) old) key.items ≡ None = rw (same, c.self.view_is) c.requires in
    ap (names_in (λ name. name.items)) c.in_ok-insert.ensures.entries ∙ names_in-insert_entry (λ name. name.items) old key c.args.number new
    ∙ (rw (same, c.self.view_is) refl)
