-- Where strips end, as the extent grows upward.
use Rattle.mls_geom.proofs.Common.{◌≡◌, ℕ, ◌-◌, ◌<◌, ◌≤◌, inl, inr, le_refl, sym, arith, cases_lt}
use Rattle.mls_geom.proofs.Definitions.{Rect, Picture, up_to, extended, new_strip, IsRun, IsStrip, Piece, Run}
use Rattle.mls_geom.proofs.RowRuns.{AreOneRun, IsRun-extent, IsRun-up_to}

-- a strip whose run the row at the top line doesn't have is one of a higher extent too
pub IsStrip-higher :
    (extent : Rect) {picture : Picture} {piece : Piece} (y z : ℕ) → y ≤ z → IsStrip (up_to y extent) picture piece
    → (piece.rect.top ≡ y → ¬ (IsRun extent picture piece.rect.left piece.rect.right y piece.kind)) → IsStrip (up_to z extent) picture piece
IsStrip-higher extent {picture} {piece} y z up strip ends = record {
  from = strip.from;
  tall = strip.tall;
  to = omega (arith, strip.to);
  rows = λ row above below. IsRun-up_to extent z (IsRun-extent extent y (strip.rows row above below));
  ends_below = λ above run. strip.ends_below above (IsRun-up_to extent y (IsRun-extent extent z run));
  ends_above = λ _ run. elim (cases_lt piece.rect.top y) [
    | inl under ↦ strip.ends_above under (IsRun-up_to extent y (IsRun-extent extent z run))
    | inr reaches ↦
        let top : piece.rect.top ≡ y = omega (arith, strip.to) in
        ends top (rw top at (IsRun-extent extent z run))
  ];
}

-- a strip that reaches up to a line goes on in the rows above that have its run too
pub IsStrip-extended :
    (extent : Rect) {picture : Picture} {piece : Piece} (y z : ℕ) → y < z → IsStrip (up_to y extent) picture piece → piece.rect.top ≡ y
    → ((row : ℕ) → y ≤ row → row < z → IsRun extent picture piece.rect.left piece.rect.right row piece.kind) → IsStrip (up_to z extent) picture (extended z piece)
IsStrip-extended extent y z up strip reaches rows = record {
  from = strip.from;
  tall = omega (arith, strip.tall);
  to = le_refl z;
  rows = λ row above below. elim (cases_lt row y) [
    | inl under ↦ IsRun-up_to extent z (IsRun-extent extent y (strip.rows row above (omega arith)))
    | inr over ↦ IsRun-up_to extent z (rows row over below)
  ];
  ends_below = λ above run. strip.ends_below above (IsRun-up_to extent y (IsRun-extent extent z run));
  ends_above = λ above. absurd (omega arith);
}

-- a run that the row below doesn't have begins a strip
pub IsStrip-new_strip :
    (extent : Rect) {picture : Picture} (run : Run) (y z : ℕ) → extent.bottom ≤ y → y < z
    → ((row : ℕ) → y ≤ row → row < z → IsRun extent picture run.left run.right row run.kind) → (extent.bottom < y → ¬ (IsRun extent picture run.left run.right (y - 1) run.kind))
    → IsStrip (up_to z extent) picture (new_strip y z run)
IsStrip-new_strip extent run y z from up rows begins = record {
  from = from;
  tall = up;
  to = le_refl z;
  rows = λ row above below. IsRun-up_to extent z (rows row above below);
  ends_below = λ above under. begins above (IsRun-extent extent z under);
  ends_above = λ above. absurd (omega arith);
}

-- strips with the same ends, kind and top line have the same bottom line
begins_no_later :
    {extent : Rect} {picture : Picture} {p q : Piece} → IsStrip extent picture p → IsStrip extent picture q
    → AreOneRun p.rect.left p.rect.right p.kind q.rect.left q.rect.right q.kind → p.rect.top ≡ q.rect.top → q.rect.bottom ≤ p.rect.bottom
begins_no_later {p} {q} strip other same top = elim (cases_lt p.rect.bottom q.rect.bottom) [
  | inl before ↦ absurd (other.ends_below (omega (arith, strip.from)) (rw (same.left, same.right, same.kind) at (strip.rows (q.rect.bottom - 1) (omega arith) (omega (arith, other.tall)))))
  | inr holds ↦ holds
]

pub one_bottom :
    {extent : Rect} {picture : Picture} {p q : Piece} → IsStrip extent picture p → IsStrip extent picture q
    → AreOneRun p.rect.left p.rect.right p.kind q.rect.left q.rect.right q.kind → p.rect.top ≡ q.rect.top → p.rect.bottom ≡ q.rect.bottom
one_bottom {p} {q} strip other same top =
    let back : AreOneRun q.rect.left q.rect.right q.kind p.rect.left p.rect.right p.kind = record { left = sym same.left; right = sym same.right; kind = sym same.kind } in
    omega (arith, begins_no_later strip other same top, begins_no_later other strip back (sym top))
