-- What paints over a plane may take the place of the tiles that it touches: the strips of the squares that these tiles and the painted pieces cover.
use Rattle.std.proofs.Common.{◌≡◌, ◌≢◌, ◌↔◌, ℕ, zero, suc, ◌<◌, max, true, List, [], ◌∷◌, map, ◌++◌, get_or, All, AllPairs, Any, Option, Some, IsSome, IsSomeAnd, IsTrue, inl, inr, refl, ap, subst, ◌∙◌, sym, is_some, suc-le-suc, le_of_suc-le-suc, arith}
use Rattle.mls_stitch.proofs.Common.{length-map, get_or-map, All-append, All-cons, All-map, nat_tests, same_Some, AreCoveredStrips, HaveKinds, laid, uncovered, Picture, Rect, Point, IsRectangleIn, common, grown, holds, IsStrip, comes_before, AreLegal, world, Piece, AllPairs-map, holds_between, between_holds, overlaid_outside, holds_outer, Tile, AreInArea, comes_first, keys_of, AreDisjoint, IsHeld, TakePlace, HoldsAt, AreBlocks, IsPlane, block_at, LaidTile}
use Rattle.mls_geom.proofs.JoinedLists.{Any-append_left, Any-append_cases}
use Rattle.mls_geom.proofs.StripPictures.{kind-IsStrip}
use Rattle.mls_geom.proofs.TouchedStrips.{holder, one_strip, overlaid_covered}

-- the rectangles and kinds of the listed tiles
abbrev pub pieces_of : List LaidTile → List Piece
pieces_of tiles = map (λ tile. tile.piece) tiles

-- the square lies in one of the listed tiles
abbrev pub IsInside : List LaidTile → ℕ → ℕ → Type 0
IsInside tiles x y = Any (λ tile. holds tile.piece.rect x y ≡ true) tiles

-- the listed tiles are laid as these blocks, each once, and the pieces lie in them
pub record AreTouched (blocks : ℕ → Option Piece) (touched : List LaidTile) (over : List Piece) : Type 0 where
  pub each : All (λ tile. blocks tile.id ≡ Some tile.piece) touched
  pub once : AllPairs (λ p q. p.id ≢ q.id) touched
  pub legal : AreLegal (pieces_of touched)
  pub kinds : HaveKinds (pieces_of touched ++ over)
  pub inside : All (λ piece. (x y : ℕ) → holds piece.rect x y ≡ true → IsInside touched x y) over

-- an element with a property, through a map
Any-map : {X Y : Type 0} (P : Y → Type 0) (f : X → Y) (xs : List X) → Any (λ x. P (f x)) xs → Any P (map f xs)
Any-map P f xs (k, x, within, is, here) = (k, f x, omega (arith, length-map xs f), get_or-map f xs k x (f x) within ∙ ap f is, here)

Any-from_map : {X Y : Type 0} (P : Y → Type 0) (f : X → Y) (xs : List X) → Any P (map f xs) → Any (λ x. P (f x)) xs
Any-from_map P f [] (k, y, within, is, here) = absurd (omega arith)
Any-from_map P f (x ∷ xs) (zero, y, within, is, here) = (0, x, omega arith, refl, subst P (sym is) here)
Any-from_map P f (x ∷ xs) (suc k, y, within, is, here) =
    let (j, z, within', is', here') = Any-from_map P f xs (k, y, le_of_suc-le-suc within, is, here) in
    (suc j, z, suc-le-suc within', is', here')

-- a strip is a rectangle of its extent
pub IsRectangleIn-IsStrip : (extent : Rect) (picture : Picture) (strip : Piece) → IsStrip extent picture strip → IsRectangleIn extent strip.rect
IsRectangleIn-IsStrip extent picture strip is =
    let run = is.rows strip.rect.bottom (omega arith) is.tall in
    record { left_in = run.from; wide = run.wide; right_in = run.to; bottom_in = is.from; tall = is.tall; top_in = is.to }

-- strips in order share no square
pub strips_apart :
    (extent : Rect) (picture : Picture) (p q : Piece) → IsStrip extent picture p → IsStrip extent picture q → IsTrue (comes_before p q) → AreDisjoint p q
strips_apart extent picture p q is other before at here there =
    let same = one_strip extent picture p q at.x at.y is other here there in
    let itself : comes_before q q ≡ true = subst (λ r. comes_before r q ≡ true) same before in
    grind (arith, nat_tests)

-- a square that some piece covers is one of the touched tiles'
covered_inside :
    (blocks : ℕ → Option Piece) (touched : List LaidTile) (over : List Piece) (x y : ℕ) → AreTouched blocks touched over
    → laid (pieces_of touched ++ over) x y ≢ uncovered → IsInside touched x y
covered_inside blocks touched over x y under covered = elim (holder (pieces_of touched ++ over) x y) [
  | inl some ↦
      elim (Any-append_cases (λ piece. holds piece.rect x y ≡ true) (pieces_of touched) over some) [
        | inl front ↦ Any-from_map (λ piece. holds piece.rect x y ≡ true) (λ tile. tile.piece) touched front
        | inr (k, piece, within, is, here) ↦ (rw is at (under.inside k piece within)) x y here
      ]
  | inr none ↦ absurd (covered (overlaid_outside (λ x y. uncovered) (pieces_of touched ++ over) x y none))
]

-- and a square of a touched tile is covered
inside_covered :
    (blocks : ℕ → Option Piece) (touched : List LaidTile) (over : List Piece) (x y : ℕ) → AreTouched blocks touched over → IsInside touched x y
    → laid (pieces_of touched ++ over) x y ≢ uncovered
inside_covered blocks touched over x y under inside bare =
    let held = Any-map (λ piece. holds piece.rect x y ≡ true) (λ tile. tile.piece) touched inside in
    let both = Any-append_left (λ piece. holds piece.rect x y ≡ true) (pieces_of touched) over held in
    omega (arith, overlaid_covered (λ x y. uncovered) (pieces_of touched ++ over) x y under.kinds both, bare)

-- a square of a touched tile is one of the world
inside_world :
    (blocks : ℕ → Option Piece) (touched : List LaidTile) (over : List Piece) (x y : ℕ) → AreTouched blocks touched over → IsInside touched x y
    → holds world x y ≡ true
inside_world blocks touched over x y under inside =
    let (k, piece, within, is, here) = Any-map (λ piece. holds piece.rect x y ≡ true) (λ tile. tile.piece) touched inside in
    holds_outer world piece.rect x y (rw is at (under.legal k piece within)) here

-- the square lies in a listed tile just if one of their keys has it
inside_held :
    (blocks : ℕ → Option Piece) (touched : List LaidTile) (over : List Piece) (at : Point) → AreTouched blocks touched over
    → IsInside touched at.x at.y ↔ IsHeld blocks (keys_of touched) at
inside_held blocks touched over at under = (
  λ inside.
      let (k, tile, within, is, here) = inside in
      let block = rw is at (under.each k tile within) in
      let held : HoldsAt blocks tile.id at = subst (λ o. IsSomeAnd o (λ block. IsTrue (holds block.rect at.x at.y))) (sym block) here in
      Any-map (λ key. HoldsAt blocks key at) (λ tile. tile.id) touched (k, tile, within, is, held),
  λ some.
      let (k, tile, within, is, held) = Any-from_map (λ key. HoldsAt blocks key at) (λ tile. tile.id) touched some in
      let block = rw is at (under.each k tile within) in
      (k, tile, within, is, subst (λ o. IsSomeAnd o (λ block. IsTrue (holds block.rect at.x at.y))) block held),
)

-- the strips of what touched tiles and pieces in them cover take the place of those tiles
pub TakePlace-strips :
    (blocks : ℕ → Option Piece) (touched : List LaidTile) (over fresh : List Piece) → AreTouched blocks touched over
    → AreCoveredStrips world (laid (pieces_of touched ++ over)) fresh → TakePlace blocks (keys_of touched) fresh
TakePlace-strips blocks touched over fresh under covered =
    let picture = laid (pieces_of touched ++ over) in
    record {
      there = All-map (λ key. IsSome (blocks key)) (λ tile. tile.id) touched (λ k d within. ap is_some (under.each k d within));
      once = AllPairs-map (λ a b. a ≢ b) (λ tile. tile.id) touched under.once;
      legal = λ k d within. IsRectangleIn-IsStrip world picture (get_or fresh k d) (covered.each k d within).0;
      apart = λ i j d before within.
          strips_apart world picture (get_or fresh i d) (get_or fresh j d) (covered.each i d (omega arith)).0 (covered.each j d within).0 (covered.ordered i j d before within);
      same = λ at. (
        λ held.
            let inside = (inside_held blocks touched over at under).1 held in
            covered.whole at.x at.y (inside_world blocks touched over at.x at.y under inside) (inside_covered blocks touched over at.x at.y under inside),
        λ some.
            let (k, strip, within, is, here) = some in
            let found = rw is at (covered.each k strip within) in
            let known = λ (bare : picture at.x at.y ≡ uncovered). found.1 (kind-IsStrip world picture strip at.x at.y found.0 here ∙ bare) in
            (inside_held blocks touched over at under).0 (covered_inside blocks touched over at.x at.y under known),
      );
    }

-- a tile does not come before itself
one_tile_not_first : (area : Rect) (p q : LaidTile) → p.piece ≡ q.piece → comes_first area p q ≡ true → ⊥
one_tile_not_first area p q same first =
    let bottoms = ap (λ r. max r.rect.bottom area.bottom) same in
    let lefts = ap (λ r. r.rect.left) same in
    grind (arith, nat_tests)

-- the tiles of an area are touched by pieces that lie in it
pub AreTouched-area :
    (blocks : ℕ → Option Piece) (area : Rect) (touched : List LaidTile) (over : List Piece) → AreBlocks blocks → AreInArea blocks area touched
    → HaveKinds (pieces_of touched ++ over) → AreLegal over → All (λ piece. (x y : ℕ) → holds piece.rect x y ≡ true → holds area x y ≡ true) over
    → AreTouched blocks touched over
AreTouched-area blocks area touched over tiling found kinds legal within_area = record {
  each = λ k d within. (found.each k d within).laid;
  once = λ i j d before within same.
      let p = get_or touched i d in
      let q = get_or touched j d in
      let is_p : blocks p.id ≡ Some p.piece = (found.each i d (omega arith)).laid in
      let is_q : blocks q.id ≡ Some q.piece = (found.each j d within).laid in
      let first : comes_first area p q ≡ true = found.ordered i j d before within in
      one_tile_not_first area p q (same_Some p.piece q.piece (sym is_p ∙ ap blocks same ∙ is_q)) first;
  legal = All-map (λ piece. IsRectangleIn world piece.rect) (λ tile. tile.piece) touched
      (λ k d within. rw (found.each k d within).laid at (tiling.legal (get_or touched k d).id));
  kinds = kinds;
  inside = λ k d within x y here. found.whole x y (within_area k d within x y here);
}

-- a rectangle lies in itself grown, clipped to what it lies in
inside_grown : (outer rect : Rect) (x y : ℕ) → IsRectangleIn outer rect → holds rect x y ≡ true → holds (common (grown 1 rect) outer) x y ≡ true
inside_grown outer rect x y legal here =
    let lines = holds_between rect x y here in
    between_holds (common (grown 1 rect) outer) x y (omega (arith, lines.0, legal.left_in)) (omega (arith, lines.1, legal.right_in))
    (omega (arith, lines.2, legal.bottom_in)) (omega (arith, lines.3, legal.top_in))

-- so the strips of what a piece and the tiles of the area round it cover take the place of those tiles
pub TakePlace-area :
    (tiles : List (ℕ × Tile)) (piece : Piece) (found : List LaidTile) (fresh : List Piece) → IsPlane tiles
    → AreInArea (block_at tiles) (common (grown 1 piece.rect) world) found → HaveKinds (pieces_of found) → piece.kind < uncovered → IsRectangleIn world piece.rect
    → AreCoveredStrips world (laid (pieces_of found ++ piece ∷ [])) fresh → TakePlace (block_at tiles) (keys_of found) fresh
TakePlace-area tiles piece found fresh plane in_area kinds kind legal covered =
    let area = common (grown 1 piece.rect) world in
    let over = piece ∷ [] in
    let one = λ (P : Piece → Type 0) (of_it : P piece). All-cons P piece [] of_it (λ k d within. absurd (omega arith)) in
    let touched =
    AreTouched-area (block_at tiles) area found over plane.tiling in_area (All-append (λ p. p.kind < uncovered) (pieces_of found) over kinds (one (λ p. p.kind < uncovered) kind))
    (one (λ p. IsRectangleIn world p.rect) legal)
    (one (λ p. (x y : ℕ) → holds p.rect x y ≡ true → holds area x y ≡ true) (λ x y here. inside_grown world piece.rect x y legal here)) in
    TakePlace-strips (block_at tiles) found over fresh touched covered
