use Rattle.std.proofs.Common.{ap, sym, ◌∙◌}
use Rattle.mls_library.specs.Libraries.{cell_named}
use Rattle.mls_library.proofs.CellNames.{cell_named-keys}
use Rattle.mls_library.proofs.library.Library.cell_named.Goals as goal

pub returns-in_err-index : goal.returns-in_err-index
returns-in_err-index c =
    let names = cell_named-keys (λ name. name.items) (λ cell. cell) c.args.name.now c.self.inside.cells.entries in
    record { value = c.from_residual.ensures ∙ c.in_err-index.ensures.index ∙ sym names ∙ ap (λ cells. cell_named cells c.args.name.now) c.self.view_is }

pub returns : goal.returns
returns c =
    let names = cell_named-keys (λ name. name.items) (λ cell. cell) c.args.name.now c.self.inside.cells.entries in
    record { value = c.in_ok-index.ensures.index ∙ sym names ∙ ap (λ cells. cell_named cells c.args.name.now) c.self.view_is }
