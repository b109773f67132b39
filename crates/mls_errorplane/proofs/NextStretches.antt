-- The first pieces of an area are the next ones of the list.
use Rattle.std.proofs.Common.{◌≡◌, ℕ, ◌+◌, ◌-◌, ◌*◌, ◌<◌, ◌≤◌, min, nat_lt, Bool, true, false, true≢false, cond, if◌then◌else◌, List, [], ◌∷◌, ◌++◌, length, get_or, Option, Some, None, refl, sym, ap, subst, ◌∙◌, arith, option_to_list}
use Rattle.std.proofs.Math.Nat.{one-le-mul}
use Rattle.mls_errorplane.proofs.Common.{DropsAll, IsNext, IsRectangleIn, Rect, Stretch, has_squares, piece_side, world}
use Rattle.mls_errorplane.proofs.DroppedRows.{from_column, from_row, row-DropsAll, rows-DropsAll, with_area}

-- what holds of the first area's list holds of the list
pub next-first :
    (areas : List Rect) (first : Rect) (stretch : Stretch) → true ≡ nat_lt 0 (length areas) → first ≡ get_or areas 0 first → ((others : List Rect) → IsNext (first ∷ others) stretch) → IsNext areas stretch
next-first [] first stretch some is next = absurd (true≢false some)
next-first (area ∷ others) first stretch some is next = subst (λ (e : Rect). IsNext (e ∷ others) stretch) is (next others)

listed : (e : Rect) (some : Bool) (others : List Rect) → option_to_list (cond some (Some e) None) ++ others ≡ cond some (e ∷ others) others
listed e true others = refl
listed e false others = refl

-- what is left of an area, and the others
with_rest-area :
    (e from : Rect) (rest : Option Rect) (others : List Rect) → e ≡ from → rest ≡ (if has_squares e then Some e else None) → with_area from others ≡ option_to_list rest ++ others
with_rest-area e from rest others is left =
    sym (ap (λ r. option_to_list r ++ others) left ∙ listed e (has_squares e) others ∙ ap (λ (r : Rect). with_area r others) is)

-- rectangles that are one have the same sides
pub same_sides : (e f : Rect) → e ≡ f → (e.left ≡ f.left) × (e.bottom ≡ f.bottom) × (e.right ≡ f.right) × (e.top ≡ f.top)
same_sides e f same =
    (ap (λ (r : Rect). r.left) same, ap (λ (r : Rect). r.bottom) same, ap (λ (r : Rect). r.right) same, ap (λ (r : Rect). r.top) same)

-- pieces of the only row
pub row-IsNext :
    (area rect from : Rect) (others : List Rect) (rest : Option Rect) (pieces count right : ℕ) → IsRectangleIn world area → area.top ≤ area.bottom + piece_side
    → piece_side * pieces < (area.right - area.left) + piece_side → right ≡ min area.right (area.left + pieces * piece_side)
    → rect ≡ record { left = area.left; bottom = area.bottom; right = right; top = area.top } → from ≡ record area { left = right }
    → rest ≡ (if has_squares from then Some from else None) → count ≡ pieces → 0 < pieces → (0 < count) × DropsAll rect count (area ∷ others) (option_to_list rest ++ others)
row-IsNext area rect from others rest pieces count right legal low fits to is is_from left is_count some =
    let same : right ≡ min area.right (area.left + piece_side * pieces) = omega (arith, to) in
    let (lefts, bottoms, rights, tops) = same_sides _ _ is in
    let here = with_rest-area from (from_column area (min area.right (area.left + piece_side * pieces))) rest others (is_from ∙ ap (from_column area) same) left in
    subst (λ n. (0 < n) × DropsAll rect n (area ∷ others) (option_to_list rest ++ others)) (sym is_count) (
      some,
      subst (DropsAll rect pieces (area ∷ others)) here
          (row-DropsAll rect area others pieces legal.wide legal.tall low fits lefts (rights ∙ same) bottoms tops),
    )

-- whole rows
pub rows-IsNext :
    (area rect from : Rect) (others : List Rect) (rest : Option Rect) (columns rows count top : ℕ) → IsRectangleIn world area
    → area.right - area.left ≤ piece_side * columns → piece_side * columns < (area.right - area.left) + piece_side → piece_side * rows < (area.top - area.bottom) + piece_side
    → top ≡ min area.top (area.bottom + rows * piece_side) → rect ≡ record { left = area.left; bottom = area.bottom; right = area.right; top = top }
    → from ≡ record area { bottom = top } → rest ≡ (if has_squares from then Some from else None) → count ≡ columns * rows → 0 < columns → 0 < rows
    → (0 < count) × DropsAll rect count (area ∷ others) (option_to_list rest ++ others)
rows-IsNext area rect from others rest columns rows count top legal enough fits fit to is is_from left is_count some some' =
    let same : top ≡ min area.top (area.bottom + piece_side * rows) = omega (arith, to) in
    let (lefts, bottoms, rights, tops) = same_sides _ _ is in
    let here = with_rest-area from (from_row area (min area.top (area.bottom + piece_side * rows))) rest others (is_from ∙ ap (from_row area) same) left in
    subst (λ n. (0 < n) × DropsAll rect n (area ∷ others) (option_to_list rest ++ others)) (sym is_count) (
      one-le-mul some some',
      subst (DropsAll rect (columns * rows) (area ∷ others)) here
          (rows-DropsAll rect area others columns rows legal.wide legal.tall fits (omega (arith, enough, legal.wide)) fit lefts rights bottoms (tops ∙ same)),
    )
