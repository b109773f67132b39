-- The marks of a rectangle, as pieces and as strips.
use Rattle.std.proofs.Common.{◌≡◌, ℕ, suc, ◌<◌, ◌≤◌, ◌==◌, ◌&&◌, ◌||◌, Bool, not, true, false, cond, if◌then◌else◌, true≢false, inl, inr, All, List, [], ◌∷◌, ◌++◌, ◌+◌, length, take, Option, Some, None, get_or, refl, sym, ap, subst, ◌∙◌, arith, IfSome, IsSome, filter_map, option_map}
use Rattle.std.specs.List.{cons_option, list_any}
use Rattle.std.proofs.Math.Path.{fun_ext}
use Rattle.std.proofs.lemmas.Bool.{and_from, and_parts, cases_Bool}
use Rattle.std.proofs.lemmas.List.Elements.{All-cons, All-head, All-nil, All-tail, filter_map-append}
use Rattle.std.proofs.lemmas.List.{take_more}
use Rattle.std.proofs.lemmas.List.Folds.{Any-from_list_any, list_any-from_Any}
use Rattle.mls_errorplane.proofs.Common.{AreCoveredStrips, AreInArea, HasPlane, HaveKinds, IsRectangleIn, LaidTile, MeetArea, Picture, Piece, Pool, Rect, block_at, common, empty_picture, has_squares, holds, is_marked, laid, marks_picture, overlaid, painted, picture_in, picture_of, strips_of, tiles_of, uncovered, world}
use Rattle.mls_geom.proofs.Holds.{has_squares_lines, holds_common, square_has_squares}
use Rattle.mls_geom.proofs.StripLists.{strips_are_listed}
use Rattle.mls_geom.proofs.WholePlanes.{AreStrips-on_space, space}
use Rattle.mls_checker.proofs.Copying.{found-HasPiece}
use Rattle.mls_errorplane.specs.ErrorsIn.{areas_in, marked_part, squares_in}

-- ---- what the pieces show
-- the tile marks the square
abbrev marks_square : LaidTile → ℕ → ℕ → Bool
marks_square tile x y = not (tile.piece.kind == 0) && holds tile.piece.rect x y

-- one piece more, which is painted before the others
piece-step : (in_rect others here : Bool) (below : ℕ) → cond (in_rect && others) 1 (cond (here && in_rect) 1 below) ≡ cond (in_rect && (here || others)) 1 below
piece-step true true true below = refl
piece-step true true false below = refl
piece-step true false true below = refl
piece-step true false false below = refl
piece-step false true true below = refl
piece-step false true false below = refl
piece-step false false true below = refl
piece-step false false false below = refl

-- no piece, where the part has no square
no-part : (in_rect others here : Bool) (below : ℕ) → (here && in_rect) ≡ false → cond (in_rect && others) 1 below ≡ cond (in_rect && (here || others)) 1 below
no-part true others true below none = absurd (true≢false none)
no-part true others false below none = refl
no-part false others here below none = refl

-- what marks a part, unless it is of space or has no square
abbrev piece_of : Bool → Bool → Rect → Option Piece
piece_of space some part = if space then None else option_map (λ r. record { rect = r; kind = 1 }) (if some then Some part else None)

one_more : (part : Rect) (in_rect others here space some : Bool) (below : Picture) (rest : List Piece) (x y : ℕ)
    → ((picture : Picture) → overlaid picture rest x y ≡ cond (in_rect && others) 1 (picture x y)) → holds part x y ≡ (here && in_rect) → (some ≡ false → (here && in_rect) ≡ false)
    → overlaid below (cons_option (piece_of space some part) rest) x y ≡ cond (in_rect && ((not space && here) || others)) 1 (below x y)
one_more part in_rect others here true some below rest x y each held none = each below
one_more part in_rect others here false true below rest x y each held none =
    each (painted below (record { rect = part; kind = 1 })) ∙ ap (λ b. cond (in_rect && others) 1 (cond b 1 (below x y))) held ∙ piece-step in_rect others here (below x y)
one_more part in_rect others here false false below rest x y each held none = each below ∙ no-part in_rect others here (below x y) (none refl)

module _ (rect : Rect) (x y : ℕ) where
  no_others : (in_rect : Bool) (below : ℕ) → below ≡ cond (in_rect && false) 1 below
  no_others true below = refl
  no_others false below = refl

  no_square : (part : Rect) → has_squares part ≡ false → holds part x y ≡ false
  no_square part none = elim (cases_Bool (holds part x y)) [
    | inl here ↦ absurd (true≢false (sym (square_has_squares part x y here) ∙ none))
    | inr outside ↦ outside
  ]

  -- the parts of tiles show a mark where a tile that has one lies in the rectangle
  overlaid-parts : (below : Picture) (tiles : List LaidTile)
      → overlaid below (filter_map (marked_part rect) tiles) x y ≡ cond (holds rect x y && list_any (λ tile. marks_square tile x y) tiles) 1 (below x y)
  overlaid-parts below [] = no_others (holds rect x y) (below x y)
  overlaid-parts below (tile ∷ tiles) =
      let part = common tile.piece.rect rect in
      let held = holds_common tile.piece.rect rect x y in
      one_more part (holds rect x y) (list_any (λ t. marks_square t x y) tiles) (holds tile.piece.rect x y) (tile.piece.kind == 0) (has_squares part) below
      (filter_map (marked_part rect) tiles) x y (λ picture. overlaid-parts picture tiles) held (λ none. sym held ∙ no_square part none)

-- each has a kind
module _ (rect : Rect) where
  with-kind : (space some : Bool) (part : Rect) (rest : List Piece) → HaveKinds rest → HaveKinds (cons_option (piece_of space some part) rest)
  with-kind true some part rest kinds = kinds
  with-kind false true part rest kinds = All-cons (λ piece. piece.kind < uncovered) (record { rect = part; kind = 1 }) rest (omega arith) kinds
  with-kind false false part rest kinds = kinds

  HaveKinds-parts : (tiles : List LaidTile) → HaveKinds (filter_map (marked_part rect) tiles)
  HaveKinds-parts [] = All-nil (λ piece. piece.kind < uncovered)
  HaveKinds-parts (tile ∷ tiles) =
      with-kind (tile.piece.kind == 0) (has_squares (common tile.piece.rect rect)) (common tile.piece.rect rect) (filter_map (marked_part rect) tiles) (HaveKinds-parts tiles)

-- ---- the tiles that were found
abbrev mark_of : Bool → ℕ
mark_of b = cond b 1 0

module _ (pool : Pool) (owner : ℕ) (rect : Rect) (found : List LaidTile) (plane : HasPlane pool owner) (are : AreInArea (block_at (tiles_of pool owner)) rect found) where
  abbrev shown : Picture
  shown = picture_in pool owner

  meet : MeetArea (block_at (tiles_of pool owner)) rect found
  meet = record { each = are.each; whole = are.whole }

  -- each shows its kind
  tile-shown : (k : ℕ) (tile : LaidTile) (x y : ℕ) → k < length found → tile ≡ get_or found k tile → holds tile.piece.rect x y ≡ true → shown x y ≡ tile.piece.kind
  tile-shown k tile x y within is held = found-HasPiece pool owner rect found found k tile plane meet refl within is x y held

  marked-there : (x y : ℕ) → holds rect x y ≡ true → list_any (λ tile. marks_square tile x y) found ≡ is_marked shown x y
  marked-there x y here = elim (cases_Bool (list_any (λ tile. marks_square tile x y) found)) [
    | inl some ↦ (let (k, tile, within, is, marks) = Any-from_list_any (λ (tile : LaidTile). marks_square tile x y) found some in
        let both = and_parts (not (tile.piece.kind == 0)) (holds tile.piece.rect x y) marks in
        some ∙ sym (ap (λ n. not (n == 0)) (tile-shown k tile x y within (sym is) both.1) ∙ both.0))
    | inr none ↦ (let (k, tile, within, is, held) = are.whole x y here in
        none ∙ sym (ap (λ n. not (n == 0)) (tile-shown k tile x y within (sym is) held) ∙ unmarked k tile within is held none))
  ]
    where
      unmarked : (k : ℕ) (tile : LaidTile) → k < length found → get_or found k tile ≡ tile → holds tile.piece.rect x y ≡ true
          → list_any (λ (t : LaidTile). marks_square t x y) found ≡ false → not (tile.piece.kind == 0) ≡ false
      unmarked k tile within is held none = elim (cases_Bool (not (tile.piece.kind == 0))) [
        | inl marked ↦ absurd (true≢false (sym (list_any-from_Any (λ (t : LaidTile). marks_square t x y) found (k, tile, within, is, and_from _ _ marked held)) ∙ none))
        | inr space ↦ space
      ]

  in_rect-marked : (x y : ℕ) → mark_of (holds rect x y && list_any (λ tile. marks_square tile x y) found) ≡ mark_of (squares_in rect (is_marked shown) x y)
  in_rect-marked x y = by (holds rect x y) refl
    where
      by : (here : Bool) → holds rect x y ≡ here → mark_of (here && list_any (λ (tile : LaidTile). marks_square tile x y) found) ≡ mark_of (here && is_marked shown x y)
      by true at = ap mark_of (marked-there x y at)
      by false at = refl

  parts-show : picture_of (filter_map (marked_part rect) found) ≡ marks_picture (squares_in rect (is_marked shown))
  parts-show = fun_ext (λ x. fun_ext (λ y. overlaid-parts rect x y empty_picture found ∙ in_rect-marked x y))

  -- so the strips of what they cover, with the world's space below them, are those of the marks in the rectangle
  pub strips-parts : (pieces strips : List Piece) → pieces ≡ space world ∷ filter_map (marked_part rect) found → AreCoveredStrips world (laid pieces) strips
      → strips ≡ strips_of world (marks_picture (squares_in rect (is_marked shown)))
  strips-parts pieces strips listed covered =
      let parts = filter_map (marked_part rect) found in
      let are_strips = AreStrips-on_space world parts (HaveKinds-parts rect found) strips (subst (λ (list : List Piece). AreCoveredStrips world (laid list) strips) listed covered) in
      strips_are_listed world (picture_of parts) strips are_strips ∙ ap (strips_of world) parts-show

-- ---- how many they are
with_option-few : {Y : Type 0} (made : Option Y) (rest : List Y) (n : ℕ) → length rest ≤ n → length (cons_option made rest) ≤ suc n
with_option-few None rest n few = omega (arith, few)
with_option-few (Some y) rest n few = omega (arith, few)

pub filter_map-few : {X Y : Type 0} (h : X → Option Y) (xs : List X) → length (filter_map h xs) ≤ length xs
filter_map-few h [] = omega arith
filter_map-few h (x ∷ xs) = with_option-few (h x) (filter_map h xs) (length xs) (filter_map-few h xs)

-- one more
pub filter_map-more : {X Y : Type 0} (h : X → Option Y) (xs : List X) (i : ℕ) (x : X) (made : Option Y) → i < length xs → x ≡ get_or xs i x → made ≡ h x
    → filter_map h (take (i + 1) xs) ≡ filter_map h (take i xs) ++ cons_option made []
filter_map-more {X = X} {Y = Y} h xs i x made within is same =
    ap (filter_map h) (take_more xs i x within) ∙ filter_map-append h (take i xs) (get_or xs i x ∷ [])
    ∙ ap (λ (y : X). filter_map h (take i xs) ++ cons_option (h y) []) (sym is) ∙ ap (λ (y : Option Y). filter_map h (take i xs) ++ cons_option y []) (sym same)

-- what fits below a reserve fits where the reserve does
pub under_room : (room : Option ℕ) (count capacity : ℕ) → IsSome room → IfSome room (λ r. count ≤ r) → IfSome room (λ r. r < capacity) → count < capacity
under_room None count capacity live fewer fits = absurd (cc live)
under_room (Some r) count capacity live fewer fits = omega (arith, fewer, fits)

-- ---- the areas
part-legal : (rect area : Rect) → IsRectangleIn world area → has_squares (common area rect) ≡ true → IsRectangleIn world (common area rect)
part-legal rect area legal some =
    let lines = has_squares_lines (common area rect) some in
    record {
      left_in = omega (arith, legal.left_in);
      wide = lines.0;
      right_in = omega (arith, legal.right_in);
      bottom_in = omega (arith, legal.bottom_in);
      tall = lines.1;
      top_in = omega (arith, legal.top_in);
    }

with-part : (some : Bool) (part : Rect) (rest : List Rect) → (some ≡ true → IsRectangleIn world part) → All (IsRectangleIn world) rest
    → All (IsRectangleIn world) (cons_option (if some then Some part else None) rest)
with-part true part rest legal others = All-cons (IsRectangleIn world) part rest (legal refl) others
with-part false part rest legal others = others

-- parts of areas of the world are such areas
pub areas_in-legal : (rect : Rect) (areas : List Rect) → All (IsRectangleIn world) areas → All (IsRectangleIn world) (areas_in rect areas)
areas_in-legal rect [] legal = All-nil (IsRectangleIn world)
areas_in-legal rect (area ∷ areas) legal =
    with-part (has_squares (common area rect)) (common area rect) (areas_in rect areas) (part-legal rect area (All-head (IsRectangleIn world) area areas legal))
    (areas_in-legal rect areas (All-tail (IsRectangleIn world) area areas legal))
