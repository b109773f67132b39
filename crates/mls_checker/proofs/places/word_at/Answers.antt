use Rattle.std.proofs.Common.{◌/◌, Bool, slice_index, sym, subst, arith}
use Rattle.std.specs.Int.{bit_not, w64}
use Rattle.mls_checker.specs.MarkRuns.{IsWanted}
use Rattle.mls_checker.proofs.PlaceRuns.{wanted-no}
use Rattle.mls_checker.proofs.places.word_at.Goals as goal

pub returns-else-has : goal.returns-else-has
returns-else-has c =
    subst (λ (has : Bool). IsWanted has c.args.map.now c.args.place (bit_not w64 (slice_index c.args.map.now (c.args.place / 64)))) (sym c.if-has.false)
    (wanted-no c.args.map.now c.args.place (omega arith))
