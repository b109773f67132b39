-- Room for a text that is appended piece by piece: where a piece has no room, the text of all pieces has none.
use Rattle.std.proofs.Common.{◌≡◌, ℕ, ◌+◌, ◌<◌, ◌≤◌, List, ◌∷◌, ◌++◌, length, get_or, take, ap, ◌∙◌, arith, length-append}
use Rattle.std.proofs.lemmas.List.Folds.{length-flat_map-take}
use Rattle.std.specs.List.{flat_map}

-- the pieces before the i-th are there, and the i-th has no room
pub piece_lacks : {X : Type 0} (f : X → List ℕ) (all : List X) (i : ℕ) (x d : X) (old now : List ℕ) {capacity grown len length_now : ℕ} → i < length all → x ≡ get_or all i d
    → now ≡ old ++ flat_map f (take i all) → len ≡ length old → length_now ≡ length now → capacity ≤ grown → grown < length_now + length (f x)
    → capacity < len + length (flat_map f all)
piece_lacks f all i x d old now within here appended before after grows lacks =
    omega (
      arith,
      within,
      ap (λ piece. length (f piece)) here,
      ap length appended ∙ length-append old (flat_map f (take i all)),
      length-flat_map-take f all i d within,
      before,
      after,
      grows,
      lacks,
    )

-- the pieces that are left are this one and others, and it has no room
pub next_piece_lacks : {X : Type 0} (f : X → List ℕ) (all left rest : List X) (x : X) (old now : List ℕ) {capacity grown len length_now : ℕ} → left ≡ x ∷ rest
    → now ++ flat_map f left ≡ old ++ flat_map f all → len ≡ length old → length_now ≡ length now → capacity ≤ grown → grown < length_now + length (f x)
    → capacity < len + length (flat_map f all)
next_piece_lacks f all left rest x old now next appended before after grows lacks =
    omega (
      arith,
      ap (λ pieces. length (flat_map f pieces)) next,
      ap length appended ∙ length-append old (flat_map f all),
      length-append now (flat_map f left),
      length-append (f x) (flat_map f rest),
      before,
      after,
      grows,
      lacks,
    )
