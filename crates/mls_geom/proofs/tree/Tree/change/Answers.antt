-- The piece is linked into the chains of its nodes, or unlinked from them.
use Rattle.std.proofs.lemmas.Result.{on_ok_weaker}
use Rattle.mls_geom.proofs.TakenPieces.{IsTree-moved}
use Rattle.mls_geom.proofs.tree.Tree.change.Goals as goal

pub returns-clause-tree : goal.returns-clause-tree
returns-clause-tree c = on_ok_weaker c.change_in.result
    (λ changed present tree next. IsTree-moved c.args.step c.args.self.now c.change_in.new.self present c.args.piece tree c.change_in.ensures.segments c.change_in.ensures.width c.change_in.ensures.nodes
    c.requires.known next (changed tree.height tree.sizes.width))
    c.change_in.ensures.changed
