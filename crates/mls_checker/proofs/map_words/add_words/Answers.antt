use Rattle.std.proofs.Common.{◌+◌, ◌*◌, ◌/◌, ◌%◌, refl, ap, sym, ◌∙◌, of_calls, arith}
use Rattle.mls_checker.specs.Maps.{has_place}
use Rattle.mls_checker.proofs.MapWords.{all-gained, one-more-on}
use Rattle.mls_checker.proofs.map_words.add_words.Goals as goal

pub loop-row-preserved : goal.loop-row-preserved
loop-row-preserved g c more gives r k below =
    one-more-on c.args.map.now c.loop-row.map c.loop-row.row _ _ r k (more (64 * r + k)) (omega arith) refl
    (λ same. gives c.loop-row.row _ k (omega arith) (search of_calls) below ∙ ap (λ i. more (64 * i + k)) (sym same)) (c.loop-row.invariant more gives r k below)

pub returns : goal.returns
returns g c more gives n within =
    all-gained (has_place c.args.map.now) (has_place c.loop-row.map) more c.loop-row.row n (c.loop-row.invariant more gives (n / 64) (n % 64) (omega arith)) (omega arith)
