use Rattle.std.proofs.Common.{◌<◌, List, inl, inr, map, length, ap, ◌∙◌, refl, sym, subst, arith}
use Rattle.std.proofs.lemmas.Bool.{cases_lt, false≢true}
use Rattle.std.proofs.lemmas.List.{length-map}
use Rattle.mls_errorplane.proofs.Common.{Covers, Piece, covered_count, laid, set_strips, squares_within, world}
use Rattle.mls_errorplane.proofs.Refusals.{IfErr-holds}
use Rattle.mls_errorplane.proofs.SetStrips.{length-set_strips, set_strips-covered}
use Rattle.mls_errorplane.proofs.set_strips.find_strips.Goals as goal
use Rattle.mls_errorplane.proofs.set_strips.find_strips.Goals.{After-fresh_strips}

-- the pieces cover what the areas have of the rectangle
covers : (c : After-fresh_strips) → Covers (laid c.deref.result.now) (squares_within c.args.rect c.args.areas.now)
covers c = subst (λ (list : List Piece). Covers (laid list) (squares_within c.args.rect c.args.areas.now)) (sym c.deref.ensures.value) c.in_ok-pieces.ensures

pub returns-in_err-fresh_strips-clause-too_many : goal.returns-in_err-fresh_strips-clause-too_many
returns-in_err-fresh_strips-clause-too_many c =
    let set = squares_within c.args.rect c.args.areas.now in
    IfErr-holds c.from_residual-in_err-fresh_strips.result (c.args.limit < length (set_strips set))
    (omega (arith, c.in_err-fresh_strips.ensures.too_many.0 refl, length-set_strips set c.deref.result.now (covers (goal.at.returns-in_err-fresh_strips-clause-too_many c).After-fresh_strips)))

pub returns-clause-strips : goal.returns-clause-strips
returns-clause-strips c =
    let covered = covers (goal.at.returns-clause-strips c).After-fresh_strips in
    c.in_ok-strips.ensures ∙ ap (map (λ (piece : Piece). piece.rect)) c.strips.ensures
    ∙ set_strips-covered (squares_within c.args.rect c.args.areas.now) c.deref.result.now c.fresh_strips.new.scratch.strips covered c.in_ok-fresh_strips.ensures.strips

pub returns-clause-within : goal.returns-clause-within
returns-clause-within c =
    let (listed, counted) = c.in_ok-fresh_strips.ensures.count in
    let same = ap length (c.in_ok-strips.ensures ∙ ap (map (λ (piece : Piece). piece.rect)) c.strips.ensures) ∙ length-map c.fresh_strips.new.scratch.strips (λ (piece : Piece). piece.rect) in
    elim (cases_lt c.args.limit (covered_count world (laid c.deref.result.now))) [
      | inl more ↦ absurd (false≢true (c.in_ok-fresh_strips.ensures.too_many.1 more))
      | inr few ↦ omega (arith, few, same, listed, counted)
    ]
