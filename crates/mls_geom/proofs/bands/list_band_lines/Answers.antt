-- The ends of each piece are put in, or are there, and all are sorted at the end.
use Rattle.mls_geom.proofs.Common.{◌≡◌, ℕ, ◌<◌, List, ◌∷◌, ◌++◌, [], take, vec_len, vec_capacity, subst, refl, ap, ◌∙◌, arith, Contains, take_all, Decides-eqb, All-more, Contains-append_right, ends_is}
use Rattle.mls_geom.proofs.Definitions.{uncovered, Rect, IsRectangleIn, world, Piece}
use Rattle.mls_geom.proofs.BandLines.{AreBandLines-ascended, HaveEnds-again, HaveEnds-more}
use Rattle.mls_geom.proofs.bands.list_band_lines.Goals as goal
use Rattle.mls_geom.proofs.bands.list_band_lines.Goals.{then-not-ends_with, else-not-ends_with}

-- the last two lines
held_at_end : (lines front : List ℕ) (bottom top : ℕ) → lines ≡ front ++ bottom ∷ top ∷ [] → Contains lines bottom × Contains lines top
held_at_end lines front bottom top is = rw is (Contains-append_right front _ bottom (0, omega arith, refl), Contains-append_right front _ top (1, omega arith, refl))

pub loop-piece-preserved : goal.loop-piece-preserved
loop-piece-preserved c =
    let pieces = c.args.pieces.now in
    let i = c.loop-piece.piece-index in
    let IsLegal : Piece → Type 0 = λ piece. IsRectangleIn world piece.rect in
    let HasByte : Piece → Type 0 = λ piece. piece.kind < uncovered in
    let piece = c.piece-item in
    let within = c.loop-piece-test.true in
    let legal = c.area-edges.ensures.legal in
    let bottom = ap (λ (e : Rect). e.bottom) (c.edges.view_is ∙ c.area-edges.ensures.value) in
    let top = ap (λ (e : Rect). e.top) (c.edges.view_is ∙ c.area-edges.ensures.value) in
    record {
      legal = All-more IsLegal pieces i piece.result within c.loop-piece.invariant.legal (subst IsLegal piece.is legal);
      kinds = All-more HasByte pieces i piece.result within c.loop-piece.invariant.kinds (subst HasByte piece.is c.area-edges.ensures.kind);
      members = elim c.if-not-ends_with.branch [
        | then-not-ends_with w ↦
            let added = ap (λ lines. lines.items) w.lines-is ∙ (rw w.push_reserved-then-not-ends_with.ensures.items at w.push_reserved-then-not-ends_with-2.ensures.items) in
            rw added (HaveEnds-more world pieces i _ _ _ piece.result within piece.is legal bottom top c.loop-piece.invariant.members)
        | else-not-ends_with w ↦
            let ends = (ends_is Decides-eqb c.loop-piece.lines.items (_ ∷ _ ∷ []) c.ends_with.result (rw c.deref.ensures.value at c.ends_with.ensures.value)).0 w.if-not-ends_with.false in
            let held = held_at_end _ _ _ _ ends in
            rw w.lines-is
            (HaveEnds-again world pieces i _ piece.result within piece.is (subst (Contains _) bottom held.0) (subst (Contains _) top held.1) c.loop-piece.invariant.members)
      ];
      len = elim c.if-not-ends_with.branch [
        | then-not-ends_with w ↦ omega (arith, ap vec_len w.lines-is, w.push_reserved-then-not-ends_with-2.ensures.len, w.push_reserved-then-not-ends_with.ensures.len, c.loop-piece.invariant.len)
        | else-not-ends_with w ↦ omega (arith, ap vec_len w.lines-is, c.loop-piece.invariant.len)
      ];
      room = elim c.if-not-ends_with.branch [
        | then-not-ends_with w ↦ ap vec_capacity w.lines-is ∙ w.push_reserved-then-not-ends_with-2.ensures.capacity ∙ w.push_reserved-then-not-ends_with.ensures.capacity ∙ c.loop-piece.invariant.room
        | else-not-ends_with w ↦ ap vec_capacity w.lines-is ∙ c.loop-piece.invariant.room
      ];
    }

pub returns-clause-lines : goal.returns-clause-lines
returns-clause-lines c =
    let pieces = c.args.pieces.now in
    let all : take c.loop-piece.piece-index pieces ≡ pieces = take_all c.loop-piece.piece-index pieces (omega arith) in
    AreBandLines-ascended world pieces c.loop-piece.lines.items _ (rw all at c.loop-piece.invariant.members) c.sort_dedup.ensures.ascending c.sort_dedup.ensures.members
