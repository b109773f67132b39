use Rattle.std.proofs.Common.{List, arith, refl, subst, sym}
use Rattle.mls_errorplane.proofs.Common.{DropsAll, Rect}
use Rattle.mls_errorplane.proofs.DroppedRows.{first_piece-DropsAll}
use Rattle.mls_errorplane.proofs.dirty.Dirty.drop_known.Goals as goal

pub returns-clause-known : goal.returns-clause-known
returns-clause-known c =
    let piece = c.in_ok-piece.piece in
    record {
      some = omega arith;
      drops = subst (λ (list : List Rect). DropsAll piece 1 c.args.self.now list) (sym c.drop_piece.ensures)
          (first_piece-DropsAll c.args.self.now piece c.in_ok-piece.ensures.piece c.in_ok-piece.ensures.legal);
      right = λ rules layout marks right. c.if-not-encloses.ensures refl rules layout marks right;
    }
