use Rattle.std.proofs.Common.{◌≡◌, ◌+◌, ◌*◌, ◌==◌, ◌||◌, ◌&&◌, refl, ap, ◌∙◌, arith}
use Rattle.std.proofs.lemmas.Nat.{mul-le}
use Rattle.mls_kinds.specs.KindSets.{has_bit}
use Rattle.mls_checker.specs.Grids.{has_column, is_between}
use Rattle.mls_checker.proofs.MapFrames.{column-row}
use Rattle.mls_checker.proofs.map_frame.fill_column.Goals as goal

pub loop-row-preserved : goal.loop-row-preserved
loop-row-preserved c r o k here =
    let more = mul-le (c.loop-row.row + 1) c.args.words c.args.to c.args.words (omega arith) (omega arith) in
    column-row c.args.map.now c.loop-row.map c.args.words c.args.from c.loop-row.row c.args.word c.args.columns _ r o k (omega (arith, more, c.requires.word, c.requires.within)) (omega arith) here
    c.requires.word refl (c.loop-row.invariant r o k here)

pub returns : goal.returns
returns c r o k here =
    let all : c.loop-row.row ≡ c.args.to = omega arith in
    c.loop-row.invariant r o k here
    ∙ ap (λ n. has_column c.args.map.now (c.args.words * r + o) k || (is_between c.args.from n r && (o == c.args.word && has_bit c.args.columns k))) all
