-- The present pieces with one more, and with one less.
use Rattle.mls_geom.proofs.Common.{◌≡◌, ◌≢◌, ℕ, ◌==◌, ◌⊎◌, not, Bool, true, inl, inr, refl, sym, ap, ◌∙◌, ne_eqb, eq-eqb, eqb-true, false≢true, or_cases, and_parts, or_right}
use Rattle.mls_geom.specs.Sweep.Trees.{with_piece, without_piece}

-- with one more all that were present are
pub with-old : (present : ℕ → Bool) (piece i : ℕ) → present i ≡ true → with_piece present piece i ≡ true
with-old present piece i is = rw is refl

-- so is that one
pub with-new : (present : ℕ → Bool) (piece : ℕ) → with_piece present piece piece ≡ true
with-new present piece = or_right (present piece) (piece == piece) (eq-eqb piece piece refl)

-- and no others
pub with-which : (present : ℕ → Bool) (piece i : ℕ) → with_piece present piece i ≡ true → (present i ≡ true) ⊎ (i ≡ piece)
with-which present piece i has = elim (or_cases (present i) (i == piece) has) [
  | inl old ↦ inl old
  | inr new ↦ inr (eqb-true i piece new)
]

-- with one less all others that were present are
pub without-others : (present : ℕ → Bool) (piece i : ℕ) → present i ≡ true → i ≢ piece → without_piece present piece i ≡ true
without-others present piece i is other = rw (is, ne_eqb i piece other) refl

-- and only those
pub without-which : (present : ℕ → Bool) (piece i : ℕ) → without_piece present piece i ≡ true → (present i ≡ true) × (i ≢ piece)
without-which present piece i has =
    let (is, other) = and_parts (present i) (not (i == piece)) has in
    (is, λ same. false≢true (sym (ap not (eq-eqb i piece same)) ∙ other))
