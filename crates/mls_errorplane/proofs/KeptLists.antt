-- Adding an area and dropping a piece keep what every list is like.
use Rattle.std.proofs.Common.{◌≡◌, ◌<◌, Bool, true, false, cond, List, [], ◌∷◌, ◌++◌, length, All, refl, inl, inr, subst, sym, arith}
use Rattle.std.proofs.lemmas.Bool.{cases_lt}
use Rattle.std.proofs.lemmas.List.Elements.{All-append, All-cons, All-head, All-nil, All-tail}
use Rattle.mls_errorplane.proofs.Common.{IsDirtyList, IsRectangleIn, Rect, dropped, has_squares, joined, most_areas, rest_above, rest_beside, round_all, united, world}
use Rattle.mls_geom.proofs.Holds.{has_squares_lines}
use Rattle.mls_geom.proofs.JoinedRects.{joined-IsRectangleIn}

-- the rests of an area lie where it lies
beside_in : (extent area : Rect) → IsRectangleIn extent area → has_squares (rest_beside area) ≡ true → IsRectangleIn extent (rest_beside area)
beside_in extent area legal some =
    let lines = has_squares_lines (rest_beside area) some in
    record {
      left_in = omega (arith, legal.left_in, legal.wide);
      wide = lines.0;
      right_in = legal.right_in;
      bottom_in = legal.bottom_in;
      tall = lines.1;
      top_in = omega (arith, legal.top_in);
    }

above_in : (extent area : Rect) → IsRectangleIn extent area → has_squares (rest_above area) ≡ true → IsRectangleIn extent (rest_above area)
above_in extent area legal some =
    let lines = has_squares_lines (rest_above area) some in
    record {
      left_in = legal.left_in;
      wide = lines.0;
      right_in = legal.right_in;
      bottom_in = omega (arith, legal.bottom_in, legal.tall);
      tall = lines.1;
      top_in = legal.top_in;
    }

-- the rectangle round rectangles of an extent is one
pub round_all_in : (extent first : Rect) (rest : List Rect) → IsRectangleIn extent first → All (IsRectangleIn extent) rest → IsRectangleIn extent (round_all first rest)
round_all_in extent first [] one others = one
round_all_in extent first (next ∷ rest) one others =
    round_all_in extent (joined first next) rest (joined-IsRectangleIn extent first next one (All-head (IsRectangleIn extent) next rest others)) (All-tail (IsRectangleIn extent) next rest others)

-- a list of one area is kept
one_area : (area : Rect) → IsRectangleIn world area → IsDirtyList (area ∷ [])
one_area area legal = record {
  legal = All-cons (IsRectangleIn world) area [] legal (All-nil (IsRectangleIn world));
  few = omega arith;
  low = λ more. absurd (omega arith);
}

united_kept : (areas : List Rect) → All (IsRectangleIn world) areas → IsDirtyList (united areas)
united_kept [] legal = record { legal = legal; few = omega arith; low = λ more. absurd (omega arith) }
united_kept (first ∷ rest) legal =
    one_area (round_all first rest) (round_all_in world first rest (All-head (IsRectangleIn world) first rest legal) (All-tail (IsRectangleIn world) first rest legal))

-- so the rectangle round all areas, and one more, is a list that is kept
pub IsDirtyList-united :
    (areas more : List Rect) (area : Rect) → IsDirtyList areas → IsRectangleIn world area → more ≡ areas ++ area ∷ [] → IsDirtyList (united more)
IsDirtyList-united areas more area kept legal is =
    let one = All-cons (IsRectangleIn world) area [] legal (All-nil (IsRectangleIn world)) in
    subst (λ list. IsDirtyList (united list)) (sym is) (united_kept (areas ++ area ∷ []) (All-append (IsRectangleIn world) areas (area ∷ []) kept.legal one))

-- what is left of a list without its first piece is kept
rests_kept :
    (first : Rect) (rest : List Rect) (beside above : Bool) → IsDirtyList (first ∷ rest) → has_squares (rest_beside first) ≡ beside → has_squares (rest_above first) ≡ above
    → IsDirtyList (cond beside (rest_beside first ∷ cond above (rest_above first ∷ []) []) (cond above (rest_above first ∷ []) []) ++ rest)
rests_kept first rest true true kept one other =
    let legal = All-head (IsRectangleIn world) first rest kept.legal in
    let lines = has_squares_lines (rest_above first) other in
    let few : length rest < most_areas = elim (cases_lt (length rest) most_areas) [
      | inl few ↦ few
      | inr many ↦ absurd (omega (arith, lines.1, kept.low (omega (arith, many))))
    ] in
    record {
      legal = All-cons (IsRectangleIn world) (rest_beside first) (rest_above first ∷ rest) (beside_in world first legal one)
          (All-cons (IsRectangleIn world) (rest_above first) rest (above_in world first legal other) (All-tail (IsRectangleIn world) first rest kept.legal));
      few = omega (arith, few);
      low = λ _. omega arith;
    }
rests_kept first rest true false kept one other =
    let legal = All-head (IsRectangleIn world) first rest kept.legal in
    record {
      legal = All-cons (IsRectangleIn world) (rest_beside first) rest (beside_in world first legal one) (All-tail (IsRectangleIn world) first rest kept.legal);
      few = kept.few;
      low = λ _. omega arith;
    }
rests_kept first rest false true kept one other =
    let legal = All-head (IsRectangleIn world) first rest kept.legal in
    let lines = has_squares_lines (rest_above first) other in
    record {
      legal = All-cons (IsRectangleIn world) (rest_above first) rest (above_in world first legal other) (All-tail (IsRectangleIn world) first rest kept.legal);
      few = kept.few;
      low = λ more. absurd (omega (arith, lines.1, kept.low more));
    }
rests_kept first rest false false kept one other = record {
  legal = All-tail (IsRectangleIn world) first rest kept.legal;
  few = omega (arith, kept.few);
  low = λ more. absurd (omega (arith, kept.few, more));
}

pub IsDirtyList-dropped : (areas : List Rect) → IsDirtyList areas → IsDirtyList (dropped areas)
IsDirtyList-dropped [] kept = kept
IsDirtyList-dropped (first ∷ rest) kept = rests_kept first rest (has_squares (rest_beside first)) (has_squares (rest_above first)) kept refl refl
