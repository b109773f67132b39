-- Rows of a block whose squares are of one kind.
use Rattle.std.proofs.Common.{◌≡◌, ℕ, ◌+◌, ◌-◌, ◌<◌, ◌≤◌, inl, inr, Bool, true, List, length, get_or, take, drop, refl, sym, ap, subst, ◌∙◌, arith}
use Rattle.std.specs.Prelude.{slice_index, IsTrue, ◌↔◌}
use Rattle.std.proofs.lemmas.List.{get_or-take, get_or-drop, length-take, length-drop}
use Rattle.std.proofs.lemmas.Bool.{cases_lt}
use Rattle.mls_geom.specs.Rects.{Rect, IsRectangleIn, holds}
use Rattle.mls_geom.proofs.Holds.{holds_between, between_holds}
use Rattle.mls_layout.specs.Grids.{IsBlock, IsRunFrom, grid_kind, grid_picture, place_in_block}
use Rattle.mls_layout.proofs.Places.{area-inside, grid-inside, rows_to}

-- the elements of a part of a list
part-element : (list : List ℕ) (from to k : ℕ) → k < to - from → get_or (take (to - from) (drop from list)) k 0 ≡ get_or list (from + k) 0
part-element list from to k within = get_or-take (to - from) (drop from list) k 0 within ∙ get_or-drop from list k 0

part-length : (list : List ℕ) (from to : ℕ) → to ≤ length list → length (take (to - from) (drop from list)) ≡ to - from
part-length list from to within = length-take (to - from) (drop from list) ∙ omega (arith, length-drop from list)

-- a row of an area of the block, and the places of its squares
pub record IsRowOf (squares : List ℕ) (block area : Rect) (row from to : ℕ) : Type 0 where
  pub legal : IsRectangleIn block area
  pub on : area.bottom ≤ row
  pub before : row < area.top
  pub within : to ≤ length squares
  pub first : from ≡ place_in_block block area.left row
  pub last : to ≡ from + (area.right - area.left)

-- as it is found by what was lent of the area
pub row-found :
    (squares : List ℕ) (block area lent : Rect) (row from to : ℕ) → lent ≡ area → IsRectangleIn block area → lent.bottom ≤ row → row < lent.top
    → from + (block.right - lent.left) ≤ length squares → from ≡ place_in_block block lent.left row → to ≡ from + (lent.right - lent.left) → IsRowOf squares block area row from to
row-found squares block area lent row from to is legal on before room first last =
    subst (λ (e : Rect). IsRectangleIn block e → IsRowOf squares block e row from to) is
    (λ legal. record { legal = legal; on = on; before = before; within = omega (arith, room, last, legal.right_in, legal.wide); first = first; last = last }) legal

module _ (squares : List ℕ) (block area : Rect) (row kind from to : ℕ) (is_row : IsRowOf squares block area row from to) where
  -- the rows before a line are of a kind, and the next one is
  pub row-more :
      ((k : ℕ) → k < length (take (to - from) (drop from squares)) → slice_index (take (to - from) (drop from squares)) k ≡ kind)
      → ((x y : ℕ) → holds (rows_to row area) x y ≡ true → grid_kind squares block x y ≡ kind)
      → (x y : ℕ) → holds (rows_to (row + 1) area) x y ≡ true → grid_kind squares block x y ≡ kind
  row-more each so_far x y inside =
      let lines = holds_between (rows_to (row + 1) area) x y inside in
      elim (cases_lt y row) [
        | inl below ↦ so_far x y (between_holds (rows_to row area) x y lines.0 lines.1 lines.2 below)
        | inr above ↦
            let k = x - area.left in
            let few : k < to - from = omega (arith, lines, is_row.last) in
            let place : from + k ≡ place_in_block block x y = omega (arith, lines, is_row.first, is_row.legal.left_in) in
            ap (λ n. get_or squares n 0) (sym place) ∙ sym (part-element squares from to k few) ∙ each k (omega (arith, part-length squares from to is_row.within))
      ]

  -- an area of a kind has its rows of that kind
  pub row-of-area :
      ((x y : ℕ) → holds area x y ≡ true → grid_kind squares block x y ≡ kind)
      → (k : ℕ) → k < length (take (to - from) (drop from squares)) → slice_index (take (to - from) (drop from squares)) k ≡ kind
  row-of-area all k inside =
      let few : k < to - from = omega (arith, part-length squares from to is_row.within) in
      let place : from + k ≡ place_in_block block (area.left + k) row = omega (arith, is_row.first, is_row.legal.left_in) in
      part-element squares from to k few ∙ ap (λ n. get_or squares n 0) place
      ∙ all (area.left + k) row (between_holds area (area.left + k) row (omega arith) (omega (arith, is_row.last)) is_row.on is_row.before)

-- the answer says whether all squares of the area are of the kind
abbrev pub TellsKind : List ℕ → Rect → Rect → ℕ → Bool → Type 0
TellsKind squares block area kind result = IsTrue result ↔ ((x y : ℕ) → holds area x y ≡ true → grid_kind squares block x y ≡ kind)

pub tells-picture : (squares : List ℕ) (block area : Rect) (kind : ℕ) (result : Bool) → IsRectangleIn block area → TellsKind squares block area kind result
    → IsTrue result ↔ ((x y : ℕ) → holds area x y ≡ true → grid_picture squares block x y ≡ kind)
tells-picture squares block area kind result legal told = (
  λ yes x y inside. grid-inside squares block x y (area-inside block area x y legal inside) ∙ told.0 yes x y inside,
  λ all. told.1 (λ x y inside. sym (grid-inside squares block x y (area-inside block area x y legal inside)) ∙ all x y inside),
)

-- a run of places of one kind is a run of squares
pub run-found :
    (squares : List ℕ) (block : Rect) (left row from «end» : ℕ) (rect : Rect) → IsBlock block → holds block left row ≡ true → from ≡ place_in_block block left row → from < «end»
    → «end» ≤ from + (block.right - left) → rect ≡ record { left = left; bottom = row; right = left + («end» - from); top = row + 1 }
    → ((place : ℕ) → from ≤ place → place < «end» → slice_index squares place ≡ slice_index squares from)
    → IsRunFrom block (grid_picture squares block) left row (record { rect = rect; kind = slice_index squares from })
run-found squares block left row from «end» rect is_block inside is_from some few is alike =
    let lines = holds_between block left row inside in
    let run : Rect = record { left = left; bottom = row; right = left + («end» - from); top = row + 1 } in
    let legal : IsRectangleIn block run = record {
      left_in = lines.0;
      wide = omega arith;
      right_in = omega (arith, few, lines.1);
      bottom_in = lines.2;
      tall = omega arith;
      top_in = omega (arith, lines.3);
    } in
    subst (λ (e : Rect). IsRunFrom block (grid_picture squares block) left row (record { rect = e; kind = slice_index squares from })) (sym is) (record {
      from = refl;
      below = refl;
      above = refl;
      legal = legal;
      shown = λ x y here.
          let at = holds_between run x y here in
          grid-inside squares block x y (area-inside block run x y legal here)
          ∙ alike (place_in_block block x y) (omega (arith, at, lines.0, is_from)) (omega (arith, at, lines.0, is_from));
    })
