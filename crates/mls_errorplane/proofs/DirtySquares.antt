-- The squares of areas as the list changes.
use Rattle.std.proofs.Common.{◌≡◌, ℕ, Bool, ◌||◌, true, false, cond, List, [], ◌∷◌, ◌++◌, length, ap, ◌∙◌, inl, inr, nat_lt}
use Rattle.std.proofs.lemmas.Bool.{or_cases, or_left}
use Rattle.std.proofs.Math.Bool.{or-false}
use Rattle.std.proofs.lemmas.List.Folds.{list_any-append}
use Rattle.mls_errorplane.proofs.Common.{Rect, added, holds, joined, most_areas, round_all, squares_of, united}
use Rattle.mls_geom.proofs.JoinedRects.{holds-joined_one, holds-joined_other}

-- the rectangle round all has the squares of all
round_all-first : (first : Rect) (rest : List Rect) (x y : ℕ) → holds first x y ≡ true → holds (round_all first rest) x y ≡ true
round_all-first first [] x y inside = inside
round_all-first first (next ∷ rest) x y inside = round_all-first (joined first next) rest x y (holds-joined_one first next x y inside)

round_all-rest : (first : Rect) (rest : List Rect) (x y : ℕ) → squares_of rest x y ≡ true → holds (round_all first rest) x y ≡ true
round_all-rest first [] x y inside = absurd (cc)
round_all-rest first (next ∷ rest) x y inside = elim (or_cases (holds next x y) (squares_of rest x y) inside) [
  | inl here ↦ round_all-first (joined first next) rest x y (holds-joined_other first next x y here)
  | inr there ↦ round_all-rest (joined first next) rest x y there
]

squares_of-united : (areas : List Rect) (x y : ℕ) → squares_of areas x y ≡ true → squares_of (united areas) x y ≡ true
squares_of-united [] x y inside = inside
squares_of-united (first ∷ rest) x y inside =
    or_left _ _
    (elim (or_cases (holds first x y) (squares_of rest x y) inside) [
      | inl here ↦ round_all-first first rest x y here
      | inr there ↦ round_all-rest first rest x y there
    ])

collapsed_squares : (areas : List Rect) (many : Bool) (x y : ℕ) → squares_of areas x y ≡ true → squares_of (cond many (united areas) areas) x y ≡ true
collapsed_squares areas true x y inside = squares_of-united areas x y inside
collapsed_squares areas false x y inside = inside

-- no square is lost where an area is added
pub squares_of-added : (areas : List Rect) (area : Rect) (x y : ℕ) → (squares_of areas x y || holds area x y) ≡ true → squares_of (added areas area) x y ≡ true
squares_of-added areas area x y inside =
    let joined = list_any-append (λ (e : Rect). holds e x y) areas (area ∷ []) in
    let alone = or-false (holds area x y) in
    collapsed_squares (areas ++ area ∷ []) (nat_lt most_areas (length (areas ++ area ∷ []))) x y
    (joined ∙ ap (λ b. squares_of areas x y || b) alone ∙ inside)
