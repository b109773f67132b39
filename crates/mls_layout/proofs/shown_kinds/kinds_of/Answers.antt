use Rattle.std.proofs.Common.{ap, ◌∙◌}
use Rattle.std.proofs.lemmas.List.{take_all}
use Rattle.mls_layout.proofs.CoveredKinds.{kinds_of, kinds_of-cover, kinds_of_more}
use Rattle.mls_layout.proofs.shown_kinds.kinds_of.Goals as goal

pub loop-piece-preserved : goal.loop-piece-preserved
loop-piece-preserved c =
    kinds_of_more c.args.pieces.now c.loop-piece.piece-index c.loop-piece.kinds _ c.piece-item.result c.loop-piece-test.true c.piece-item.is c.loop-piece.invariant c.insert.ensures.set

pub returns : goal.returns
returns c = λ extent picture cover.
    c.loop-piece.invariant ∙ ap kinds_of (take_all c.loop-piece.piece-index c.args.pieces.now c.loop-piece-test.false) ∙ kinds_of-cover extent picture c.args.pieces.now cover
