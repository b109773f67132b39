use Rattle.std.proofs.Common.{◌<◌, ◌+◌, ◌-◌, ℕ, Contains, List, drop, get_or, length, sym, ap, subst, ◌∙◌, arith}
use Rattle.std.proofs.lemmas.Bool.Decides.{nat_tests}
use Rattle.std.proofs.lemmas.List.{length-drop, take_all}
use Rattle.mls_library.specs.Libraries.{IsFrozen}
use Rattle.mls_library.proofs.FoundCells.{IsFrozen-found}
use Rattle.mls_layout.specs.declared.uses.CellUse.{CellUse}
use Rattle.mls_layout.proofs.FoundUses.{FindsUse-found, hidden-among, hidden-beyond, hidden-no_cell, hidden-nowhere, hidden-outside}
use Rattle.mls_layout.proofs.used_tiles.find_use.Goals as goal
use Rattle.mls_layout.proofs.used_tiles.find_use.Goals.{then-not-reaches-via-then-not-reaches, then-not-reaches-via-else-not-reaches+then-is_among}

pub returns-in_err-cell-clause-hidden : goal.returns-in_err-cell-clause-hidden
returns-in_err-cell-clause-hidden c = λ none below x y inside.
    hidden-no_cell c.args.workspace.now.pool c.args.shown.now.uses c.args.index c.args.shown.now.number c.index-list-index.result c.requires.index c.index-list-index.is c.in_err-cell.ensures.planes x y below

pub returns-then-not-reaches-clause-hidden : goal.returns-then-not-reaches-clause-hidden
returns-then-not-reaches-clause-hidden c = λ none below x y inside. elim c.then-not-reaches.branch [
  | then-not-reaches-via-then-not-reaches w ↦
      hidden-outside c.args.workspace.now.pool c.args.shown.now.uses c.args.index c.args.shown.now.number c.index-list-index.result c.requires.index c.index-list-index.is c.in_ok-cell.cell.now.planes
      c.in_ok-cell.cell.now.bounds c.in_ok-cell.ensures.planes c.in_ok-cell.ensures.bounds c.requires.cells x y (c.reaches.ensures w.if-not-reaches.true x y inside) below
  | then-not-reaches-via-else-not-reaches+then-is_among w ↦
      let list = c.args.shown.now.uses.list.now in
      let cell_use = c.index-list-index.result in
      let later = drop (c.args.index + 1) list in
      hidden-among c.args.workspace.now.pool c.args.shown.now.uses c.args.index c.args.shown.now.number c.index-list-index.result c.requires.index c.index-list-index.is
      (subst (λ (rest : List CellUse). Contains rest cell_use) (take_all (length list - (c.args.index + 1)) later (omega (arith, length-drop (c.args.index + 1) list)))
      (w.is_among.ensures w.if-is_among.true))
      x y below
]

pub returns-in_err-plane-clause-hidden : goal.returns-in_err-plane-clause-hidden
returns-in_err-plane-clause-hidden c = λ none below x y inside.
    hidden-beyond c.args.workspace.now.pool c.args.shown.now.uses c.args.index c.args.shown.now.number c.index-list-index.result c.requires.index c.index-list-index.is c.in_ok-cell.cell.now.planes
    c.in_ok-cell.cell.now.bounds c.in_ok-cell.ensures.planes c.in_ok-cell.ensures.bounds (omega (arith, c.in_err-plane.ensures.lookup.3, ap length c.planes.ensures)) x y below

pub find_moved-requires : goal.find_moved-requires
find_moved-requires c =
    let pool = c.args.workspace.now.pool in
    let cells = c.args.shown.now.uses.library.now in
    let number = c.args.shown.now.number in
    let lookup = c.in_ok-plane.ensures.lookup in
    let owner = c.in_ok-plane.plane.now in
    let cell_use = c.index-list-index.result in
    let frozen = IsFrozen-found pool cells cell_use.cell c.in_ok-cell.cell.now.planes c.requires.cells c.in_ok-cell.ensures.planes in
    let within : number < length c.in_ok-cell.cell.now.planes = let longs = ap length c.planes.ensures in grind (arith, nat_tests, lookup.0) in
    record { frozen = subst (IsFrozen pool) (ap (λ (list : List ℕ). get_or list number owner) (sym c.planes.ensures) ∙ sym lookup.1) (frozen number owner within) }

pub returns-then-find_moved-clause-found : goal.returns-then-find_moved-clause-found
returns-then-find_moved-clause-found c =
    let lookup = c.in_ok-plane.ensures.lookup in
    let owner = c.in_ok-plane.plane.now in
    let longs = ap length c.planes.ensures in
    let is_owner = lookup.1 ∙ ap (λ (list : List ℕ). get_or list c.args.shown.now.number owner) c.planes.ensures in
    FindsUse-found c.args.workspace.now.pool c.args.shown.now.uses c.args.index c.args.shown.now.number c.index-list-index.result c.requires.index c.index-list-index.is c.in_ok-cell.cell.now.planes
    c.in_ok-cell.cell.now.bounds c.in_ok-cell.ensures.planes c.in_ok-cell.ensures.bounds owner c.args.rect (grind (arith, nat_tests, lookup.0)) is_owner c.requires.legal
    c.find_moved.new.workspace.scratch.tiles (c.find_moved.ensures.found c.if-find_moved.true)

pub returns-else-find_moved-clause-hidden : goal.returns-else-find_moved-clause-hidden
returns-else-find_moved-clause-hidden c = λ none below x y inside.
    let lookup = c.in_ok-plane.ensures.lookup in
    let owner = c.in_ok-plane.plane.now in
    let longs = ap length c.planes.ensures in
    let is_owner = lookup.1 ∙ ap (λ (list : List ℕ). get_or list c.args.shown.now.number owner) c.planes.ensures in
    hidden-nowhere c.args.workspace.now.pool c.args.shown.now.uses c.args.index c.args.shown.now.number c.index-list-index.result c.requires.index c.index-list-index.is c.in_ok-cell.cell.now.planes
    c.in_ok-cell.cell.now.bounds c.in_ok-cell.ensures.planes c.in_ok-cell.ensures.bounds owner c.args.rect (grind (arith, nat_tests, lookup.0)) is_owner c.requires.legal x y inside
    (c.find_moved.ensures.nowhere c.if-find_moved.false x y inside) below
