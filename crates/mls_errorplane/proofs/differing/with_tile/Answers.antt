use Rattle.std.proofs.Common.{sym, arith}
use Rattle.mls_errorplane.proofs.ShownBeside.{within-from_squares}
use Rattle.mls_errorplane.proofs.differing.with_tile.Goals as goal

pub returns-clause-within : goal.returns-clause-within
returns-clause-within c =
    let new = within-from_squares c.args.found.now.rect c.differing_in-differing.result (sym c.if-not-has_squares.ensures) c.differing_in-differing.ensures.inside in
    let old = c.requires.within in
    rw c.joined.ensures (record {
      left = omega (arith, old.left, new.left);
      bottom = omega (arith, old.bottom, new.bottom);
      right = omega (arith, old.right, new.right);
      top = omega (arith, old.top, new.top);
    })
