use Rattle.mls_errorplane.proofs.checked.Checked.then.Goals as goal

pub returns : goal.returns
returns c = λ rules layout marks right here.
    let row = c.row_with-row.ensures rules layout marks right.1 here in
    let block = c.block_with-block.ensures rules layout marks right.2 row in
    (here, row, block, c.larger.ensures rules layout marks right.3 block)
