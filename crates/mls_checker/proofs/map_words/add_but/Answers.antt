use Rattle.std.proofs.Common.{◌-◌, ◌∙◌, ◌||◌, ◌&&◌, not, refl, sym, ap, arith}
use Rattle.std.specs.Prelude.{slice_index}
use Rattle.std.proofs.lemmas.Bool.{lt-ltb}
use Rattle.mls_checker.specs.Grids.{has_column}
use Rattle.mls_checker.proofs.MapWords.{one-more-on}
use Rattle.mls_checker.proofs.WordBits.{clear-bits}
use Rattle.mls_checker.proofs.map_words.add_but.Goals as goal

pub loop-row-preserved : goal.loop-row-preserved
loop-row-preserved c r k on =
    let other = c.args.other.now in
    let but = c.args.but.now in
    one-more-on c.args.map.now c.loop-row.map c.loop-row.row _ _ r k (has_column other (r - c.args.words) k && not (has_column but r k)) (omega arith) refl
    (λ same. clear-bits (slice_index other (c.loop-row.row - c.args.words)) (slice_index but c.loop-row.row) k (omega (arith, c.type_inv.other (c.loop-row.row - c.args.words))) (omega (arith, c.type_inv.but c.loop-row.row))
    ∙ ap (λ i. has_column other (i - c.args.words) k && not (has_column but i k)) (sym same)) (c.loop-row.invariant r k on)

pub returns : goal.returns
returns c r k within on =
    c.loop-row.invariant r k on
    ∙ ap (λ b. has_column c.args.map.now r k || (b && (has_column c.args.other.now (r - c.args.words) k && not (has_column c.args.but.now r k)))) (lt-ltb r c.loop-row.row (omega arith))
