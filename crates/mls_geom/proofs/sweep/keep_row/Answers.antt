-- The strips that were found number the covered corners, and there are no more than the limit.
use Rattle.mls_geom.proofs.Common.{arith, false≢true}
use Rattle.mls_geom.proofs.Definitions.{laid, world}
use Rattle.mls_geom.proofs.CoveredCounts.{covered_strips_number}
use Rattle.mls_geom.proofs.sweep.keep_row.Goals as goal

pub returns-clause-too_many : goal.returns-clause-too_many
returns-clause-too_many c =
    let count = covered_strips_number world (laid c.args.pieces.now) _ c.in-Ok.ensures.strips in
    (λ none. absurd (false≢true none), λ over. absurd (omega (arith, over, count, c.in-Ok.ensures.within, c.find_strips.new.self.row.strips.ok.0)))
