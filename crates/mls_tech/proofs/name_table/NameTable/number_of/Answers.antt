use Rattle.std.proofs.Common.{ap, sym, ◌∙◌}
use Rattle.mls_tech.specs.Readings.{number_named}
use Rattle.mls_tech.proofs.NameTableLemmas.{number_named-names_in}
use Rattle.mls_tech.proofs.name_table.NameTable.number_of.Goals as goal

pub returns : goal.returns
returns c =
    let names = number_named-names_in (λ name. name.items) c.self.inside.numbers.entries c.args.word.now in
    c.copied.ensures ∙ c.get.ensures.value ∙ sym names ∙ ap (λ names. number_named names c.args.word.now) c.self.view_is
