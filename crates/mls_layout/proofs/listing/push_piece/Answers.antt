use Rattle.std.proofs.Common.{◌≢◌, ap, sym, subst, ◌∙◌, arith, rules}
use Rattle.std.specs.Int.{w32}
use Rattle.std.specs.Prelude.{FitsSigned}
use Rattle.std.proofs.lemmas.Int.{to_z-of_z}
use Rattle.mls_geom.specs.Locality.{laid, uncovered}
use Rattle.mls_layout.proofs.LaidPieces.{laid-covered, laid-dumped}
use Rattle.mls_layout.proofs.listing.push_piece.Goals as goal

pub returns-clause-laid : goal.returns-clause-laid
returns-clause-laid c = λ done x y inside.
    let dx = c.args.dx in
    let dy = c.args.dy in
    let along : FitsSigned w32 dx = search rules in
    let up : FitsSigned w32 dy = search rules in
    let part = simp to_z-of_z at c.in-Some.ensures in
    ap (λ pieces. laid pieces x y) c.push_reserved.ensures.items
    ∙ laid-dumped c.args.pieces.now.items c.args.piece.now c.in-Some.part dx dy x y (omega (arith, c.number.ensures.value, c.if-number-eq0.false)) (part.1 x y inside)

pub returns-clause-covered : goal.returns-clause-covered
returns-clause-covered c = λ x y some.
    subst (λ pieces. laid pieces x y ≢ uncovered) (sym c.push_reserved.ensures.items)
    (laid-covered c.args.pieces.now.items (record { rect = c.in-Some.part; kind = c.args.piece.now.kind }) x y (search rules) some)
