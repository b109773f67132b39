use Rattle.std.proofs.Common.{◌≡◌, List, subst}
use Rattle.std.specs.List.{All}
use Rattle.std.proofs.lemmas.List.{take_all}
use Rattle.std.proofs.lemmas.List.Elements.{All-more}
use Rattle.mls_layout.specs.Uses.{cell_layouts, use_layout}
use Rattle.mls_layout.specs.declared.uses.CellUse.{CellUse}
use Rattle.mls_layout.proofs.ShownUses.{uses_layout-none}
use Rattle.mls_layout.proofs.uses.Uses.meet.Goals as goal

pub loop-cell_use-preserved : goal.loop-cell_use-preserved
loop-cell_use-preserved c = λ pool home plane x y inside.
    let cells = cell_layouts pool c.args.self.now.library.now in
    let P : CellUse → Type 0 = λ cell_use. use_layout cells cell_use plane x y ≡ 0 in
    let here = c.meets.ensures c.if-meets.false pool home plane x y inside in
    All-more P c.args.self.now.list.now c.loop-cell_use.cell_use-index c.cell_use-item.result c.loop-cell_use-test.true
    (c.loop-cell_use.invariant pool home plane x y inside) (subst P c.cell_use-item.is here)

pub returns-clause-apart : goal.returns-clause-apart
returns-clause-apart c = λ apart pool home plane x y inside.
    let cells = cell_layouts pool c.args.self.now.library.now in
    let P : CellUse → Type 0 = λ cell_use. use_layout cells cell_use plane x y ≡ 0 in
    uses_layout-none cells c.args.self.now.list.now plane x y
    (subst (λ (list : List CellUse). All P list) (take_all c.loop-cell_use.cell_use-index c.args.self.now.list.now c.loop-cell_use-test.false)
    (c.loop-cell_use.invariant pool home plane x y inside))
