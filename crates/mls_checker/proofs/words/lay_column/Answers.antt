use Rattle.std.proofs.Common.{◌+◌, ◌*◌, ◌||◌, ◌&&◌, refl, sym, ap, ◌∙◌, arith}
use Rattle.std.specs.Prelude.{slice_index}
use Rattle.std.proofs.lemmas.Bool.{lt-ltb}
use Rattle.mls_kinds.specs.KindSets.{has_bit}
use Rattle.mls_checker.specs.Grids.{has_column}
use Rattle.mls_checker.proofs.LaidBands.{laid-row}
use Rattle.mls_checker.proofs.WordRows.{set-there}
use Rattle.mls_checker.proofs.words.lay_column.Goals as goal

pub loop-row-preserved : goal.loop-row-preserved
loop-row-preserved c =
    let i = c.loop-row.row in
    let within = c.requires.within i (omega arith) in
    record {
      there = λ row k below.
          laid-row c.args.map.now c.loop-row.map c.args.first c.args.stride i _ (slice_index c.args.words.now i) c.args.columns row k
          (has_column c.args.words.now row k && has_bit c.args.columns k) c.requires.some (omega (arith, within)) refl
          (λ same. ap (λ r. has_column c.args.words.now r k && has_bit c.args.columns k) (sym same)) (c.loop-row.invariant.there row k below);
      others = λ n k far. set-there c.loop-row.map (c.args.first + i * c.args.stride) _ n k (λ same. far i (omega arith) same) ∙ c.loop-row.invariant.others n k far;
    }

pub returns-clause-there : goal.returns-clause-there
returns-clause-there c row k within =
    c.loop-row.invariant.there row k within
    ∙ ap (λ b. has_column c.args.map.now (c.args.first + row * c.args.stride) k || (b && (has_column c.args.words.now row k && has_bit c.args.columns k))) (lt-ltb row c.loop-row.row (omega (arith, within)))
