use Rattle.std.proofs.Common.{◌/◌, ◌%◌, not, slice_index, sym, ap, ◌∙◌, arith}
use Rattle.std.specs.Int.{bit_not, w64}
use Rattle.mls_kinds.proofs.BitLemmas.{has_bit-not}
use Rattle.mls_checker.specs.Grids.{has_column}
use Rattle.mls_checker.specs.Marking.{differs}
use Rattle.mls_checker.proofs.PlaceEnds.{word-has, word-there}
use Rattle.mls_checker.proofs.places.word_to.Goals as goal

pub returns-then-has-clause-there : goal.returns-then-has-clause-there
returns-then-has-clause-there c k there = word-there (slice_index c.args.map.now (c.args.last / 64)) c.mask-places.result (c.args.last % 64) k (c.mask-places.ensures k) there

pub returns-then-has-clause-has : goal.returns-then-has-clause-has
returns-then-has-clause-has c k few =
    word-has (slice_index c.args.map.now (c.args.last / 64)) c.mask-places.result (c.args.last % 64) k (c.mask-places.ensures k) few
    ∙ sym (ap (λ h. differs (not h) (has_column c.args.map.now (c.args.last / 64) k)) c.if-has.true)

pub returns-else-has-clause-there : goal.returns-else-has-clause-there
returns-else-has-clause-there c k there =
    word-there (bit_not w64 (slice_index c.args.map.now (c.args.last / 64))) c.mask-places.result (c.args.last % 64) k (c.mask-places.ensures k) there

pub returns-else-has-clause-has : goal.returns-else-has-clause-has
returns-else-has-clause-has c k few =
    word-has (bit_not w64 (slice_index c.args.map.now (c.args.last / 64))) c.mask-places.result (c.args.last % 64) k (c.mask-places.ensures k) few
    ∙ has_bit-not w64 (slice_index c.args.map.now (c.args.last / 64)) k (omega arith) (omega (arith, few))
    ∙ sym (ap (λ h. differs (not h) (has_column c.args.map.now (c.args.last / 64) k)) c.if-has.false)
