use Rattle.std.proofs.Common.{refl, arith}
use Rattle.std.proofs.lemmas.Bool.{false≢true}
use Rattle.mls_layout.proofs.UniformRows.{row-found, row-more, row-of-area}
use Rattle.mls_layout.proofs.rows.rows_have_kind.Goals as goal

pub returns-then-not-row_has_kind : goal.returns-then-not-row_has_kind
returns-then-not-row_has_kind c =
    let squares = c.args.squares.now in
    let block = c.args.block.now in
    let area = c.args.area.now in
    let row = c.tested.row in
    let found = row-found squares block area _ row _ _ c.area.view_is c.requires.inside (omega arith) (omega arith) (omega arith) c.place_of-from.ensures.value (omega arith) in (
      λ no. absurd (false≢true no),
      λ all. c.if-not-row_has_kind.ensures.1 (row-of-area squares block area row c.args.kind _ _ found all),
    )

pub tested-preserved : goal.tested-preserved
tested-preserved c =
    let area = c.args.area.now in
    let found = row-found c.args.squares.now c.args.block.now area _ c.tested.row _ _ c.area.view_is c.requires.inside (omega arith) (omega arith) (omega arith)
    c.place_of-from.ensures.value (omega arith) in
    row-more c.args.squares.now c.args.block.now area c.tested.row c.args.kind _ _ found (c.if-not-row_has_kind.ensures.0 refl) c.tested.invariant
