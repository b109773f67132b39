-- Bounds, and the tiles that a search or a scan of an area found.
use Rattle.std.proofs.Common.{◌≡◌, ◌⊎◌, ℕ, ◌+◌, ◌<◌, take, Bool, ◌&&◌, true, false, IsTrue, List, [], ◌∷◌, ◌++◌, length, get_or, Option, Some, None, All, Any, Contains, filter, inl, inr, refl, sym, ap, ◌∙◌, subst, arith}
use Rattle.mls_stitch.proofs.Common.{IfSome, IsSome, both_ways, cases_eq, cond-false, ne_eqb, take_more, All-contains, All-filter, All-push, Contains-append_left, Contains-append_right, filter_passes, same_Some, touches, Rect, Point, IsRectangleIn, IsWithin, grown, holds, joined, meets, world, Piece, Contains-filter, Contains-first, Contains-map, between_holds, holds_between, holds_outer, tile_in, Tile, IsFound, MeetArea, IsListedTo, AreMet, keys_of, AreBlocks, IsLaid, LaidTile}
use Rattle.mls_geom.proofs.JoinedRects.{IsWithin-joined}
use Rattle.mls_geom.proofs.KindsShown.{common_square, meets_by_square}
use Rattle.mls_stitch.proofs.FreshTiles.{entry-keys_of}
use Rattle.mls_stitch.proofs.Listings.{MeetArea-listed}
use Rattle.mls_stitch.proofs.ReplacedStitches.{Any-contained}
use Rattle.mls_stitch.proofs.Sides.{HoldsAt-block, there-IsSomeAnd}

-- bounds that are joined with one more have one more within them
pub within_next :
    {X : Type 0} (P : Rect → X → Type 0) (bounds rect result : Rect) (xs : List X) (i : ℕ) (x : X) → result ≡ joined bounds rect → i < length xs → x ≡ get_or xs i x
    → ((y : X) → P bounds y → P (joined bounds rect) y) → P (joined bounds rect) x → All (P bounds) (take i xs) → All (P result) (take (i + 1) xs)
within_next P bounds rect result xs i x is_joined within is grows here so_far =
    rw (is_joined, take_more xs i x within ∙ ap (λ y. take i xs ++ y ∷ []) (sym is))
    (All-push (P (joined bounds rect)) (take i xs) x (λ k d less. grows (get_or (take i xs) k d) (so_far k d less)) here)

pub grows_blocks : (blocks : ℕ → Option Piece) (a b : Rect) (key : ℕ) → IfSome (blocks key) (λ block. IsWithin a block.rect) → IfSome (blocks key) (λ block. IsWithin (joined a b) block.rect)
grows_blocks blocks a b key inside = go (blocks key) inside where
  go : (block : Option Piece) → IfSome block (λ p. IsWithin a p.rect) → IfSome block (λ p. IsWithin (joined a b) p.rect)
  go None none = none
  go (Some p) within = IsWithin-joined a b p.rect within

-- two laid tiles with one square have one key
met_key :
    (blocks : ℕ → Option Piece) (key : ℕ) (block : Piece) (list : List LaidTile) (x y : ℕ) → AreBlocks blocks → blocks key ≡ Some block → holds block.rect x y ≡ true
    → All (IsLaid blocks) list → Any (λ tile. IsTrue (holds tile.piece.rect x y)) list → Contains (keys_of list) key
met_key blocks key block list x y tiling here inside laid (k, tile, within, is, held) =
    let there : blocks tile.id ≡ Some tile.piece = All-contains (IsLaid blocks) list tile laid (k, within, is) in
    let one : tile.id ≡ key = tiling.apart tile.id key (record { x = x; y = y }) (HoldsAt-block blocks tile.id tile.piece (record { x = x; y = y }) there held) (HoldsAt-block blocks key block (record { x = x; y = y }) here inside) in
    subst (Contains (keys_of list)) one (Contains-map (λ t. t.id) list tile (k, within, is))

-- tiles that have each square of an area are all that have one of it
pub AreMet-MeetArea : (blocks : ℕ → Option Piece) (area : Rect) (list : List LaidTile) → AreBlocks blocks → MeetArea blocks area list → AreMet blocks area list
AreMet-MeetArea blocks area list tiling found = record {
  each = found.each;
  whole = λ key block here met.
      let (x, y, in_block, in_area) = common_square block.rect area met in
      met_key blocks key block list x y tiling here in_block (λ k d within. (found.each k d within).laid) (found.whole x y in_area);
}

-- once all parents are passed, area search has found the tiles of the area
pub AreMet-listed :
    (blocks : ℕ → Option Piece) (area : Rect) (list : List LaidTile) → AreBlocks blocks → IsRectangleIn world area → IsListedTo blocks area list (length list) world.top
    → AreMet blocks area list
AreMet-listed blocks area list tiling inside listed = AreMet-MeetArea blocks area list tiling (MeetArea-listed blocks area tiling inside list listed)

-- a rectangle has the squares of those in it
pub held_inside : (outer e : Rect) (x y : ℕ) → IsWithin outer e → holds e x y ≡ true → holds outer x y ≡ true
held_inside outer e x y inside held =
    let lines = holds_between e x y held in
    between_holds outer x y (omega (arith, lines.0, inside.left)) (omega (arith, lines.1, inside.right)) (omega (arith, lines.2, inside.bottom)) (omega (arith, lines.3, inside.top))

-- of the tiles of an area those that meet a smaller one are all of its
pub AreMet-meeting :
    (blocks : ℕ → Option Piece) (area inner : Rect) (list : List LaidTile) → AreBlocks blocks → MeetArea blocks area list → IsWithin area inner
    → AreMet blocks inner (filter (λ (tile : LaidTile). meets tile.piece.rect inner) list)
AreMet-meeting blocks area inner list tiling met within =
    let meeting = λ (tile : LaidTile). meets tile.piece.rect inner in
    let laid = All-filter meeting (IsLaid blocks) list (λ k d less. (met.each k d less).laid) in
    record {
      each = λ k d less. record { laid = laid k d less; met = filter_passes meeting list k d less };
      whole = λ key block here touched.
          let (x, y, in_block, in_inner) = common_square block.rect inner touched in
          let (k, tile, less, is, held) = met.whole x y (held_inside area inner x y within in_inner) in
          let listed = Contains-filter meeting list tile (k, less, is) (meets_by_square tile.piece.rect inner x y held in_inner) in
          met_key blocks key block (filter meeting list) x y tiling here in_block laid
          (Any-contained (λ (t : LaidTile). IsTrue (holds t.piece.rect x y)) (filter meeting list) tile listed held);
    }

-- a listed tile has each square of the world that lies in the area
pub met_square :
    (blocks : ℕ → Option Piece) (area : Rect) (list : List LaidTile) (at : Point) → AreBlocks blocks → AreMet blocks area list → holds area at.x at.y ≡ true → holds world at.x at.y ≡ true
    → (tile : LaidTile) × Contains list tile × (blocks tile.id ≡ Some tile.piece) × (holds tile.piece.rect at.x at.y ≡ true)
met_square blocks area list at tiling met in_area in_world =
    let (key, held) = tiling.whole at in_world in
    let (block, here, inside) = there-IsSomeAnd (blocks key) (λ b. holds b.rect at.x at.y ≡ true) held in
    let (tile, listed, is_key) = entry-keys_of list key (met.whole key block here (meets_by_square block.rect area at.x at.y inside in_area)) in
    let there : blocks tile.id ≡ Some tile.piece = (All-contains (IsFound blocks area) list tile met.each listed).laid in
    let same : block ≡ tile.piece = same_Some block tile.piece (sym here ∙ ap blocks (sym is_key) ∙ there) in
    (tile, listed, there, subst (λ p. holds p.rect at.x at.y ≡ true) same inside)

-- the area has the squares of the world in the bounds and next to them
abbrev pub IsRound : Rect → Rect → Type 0
IsRound bounds area = (x y : ℕ) → holds area x y ≡ (holds (grown 1 bounds) x y && holds world x y)

-- grown by one, a rectangle has the squares of those in it, grown by one
pub grown_outer : (outer e : Rect) (x y : ℕ) → IsWithin outer e → holds (grown 1 e) x y ≡ true → holds (grown 1 outer) x y ≡ true
grown_outer outer e x y inside held =
    let lines = holds_between (grown 1 e) x y held in
    between_holds (grown 1 outer) x y (omega (arith, inside.left, lines.0)) (omega (arith, inside.right, lines.1)) (omega (arith, inside.bottom, lines.2)) (omega (arith, inside.top, lines.3))

-- a block that a piece touches has a square of the area round the bounds of the piece
pub touched_met :
    (outer : Rect) (piece block : Piece) (area : Rect) → IsWithin outer piece.rect → IsRectangleIn world block.rect
    → ((x y : ℕ) → holds (grown 1 outer) x y ≡ true → holds world x y ≡ true → holds area x y ≡ true) → touches piece.rect block.rect ≡ true → meets block.rect area ≡ true
touched_met outer piece block area inside legal squares near =
    let (x, y, in_grown, in_block) = common_square (grown 1 piece.rect) block.rect near in
    let in_area = squares x y (grown_outer outer piece.rect x y inside in_grown) (holds_outer world block.rect x y legal in_block) in
    meets_by_square block.rect area x y in_block in_area

-- each tile of the area is listed, or is yet to be looked at
abbrev pub AreMetBefore : (ℕ → Option Piece) → Rect → List LaidTile → List (ℕ × Tile) → Type 0
AreMetBefore blocks area list rest = (key : ℕ) (block : Piece) → blocks key ≡ Some block → meets block.rect area ≡ true → Contains (keys_of list) key ⊎ IsSome (tile_in rest key)

next_or_rest : (id key : ℕ) (tile : Tile) (rest : List (ℕ × Tile)) → IsSome (tile_in ((id, tile) ∷ rest) key) → (id ≡ key) ⊎ IsSome (tile_in rest key)
next_or_rest id key tile rest there = elim (cases_eq id key) [
  | inl same ↦ inl same
  | inr differs ↦ inr (subst IsSome (cond-false _ (Some tile) (tile_in rest key) (ne_eqb id key differs)) there)
]

-- one more tile was looked at, and listed
pub scan_listed :
    (blocks : ℕ → Option Piece) (area : Rect) (list : List LaidTile) (id : ℕ) (held : Tile) (rest : List (ℕ × Tile)) (tile : LaidTile) → AreMetBefore blocks area list ((id, held) ∷ rest)
    → tile.id ≡ id → AreMetBefore blocks area (list ++ tile ∷ []) rest
scan_listed blocks area list id held rest tile before is key block here met = elim (before key block here met) [
  | inl listed ↦
      let (t, there, is_key) = entry-keys_of list key listed in
      inl (subst (Contains (keys_of (list ++ tile ∷ []))) is_key (Contains-map (λ t. t.id) (list ++ tile ∷ []) t (Contains-append_left list (tile ∷ []) t there)))
  | inr later ↦ elim (next_or_rest id key held rest later) [
    | inl now ↦
        inl (subst (Contains (keys_of (list ++ tile ∷ []))) (is ∙ now)
        (Contains-map (λ t. t.id) (list ++ tile ∷ []) tile (Contains-append_right list (tile ∷ []) tile (Contains-first tile tile [] refl))))
    | inr rest_has ↦ inr rest_has
  ]
]

-- one more was looked at that is not in the area
pub scan_skipped :
    (blocks : ℕ → Option Piece) (area : Rect) (list : List LaidTile) (id : ℕ) (held : Tile) (rest : List (ℕ × Tile)) → AreMetBefore blocks area list ((id, held) ∷ rest)
    → ((block : Piece) → blocks id ≡ Some block → meets block.rect area ≡ false) → AreMetBefore blocks area list rest
scan_skipped blocks area list id held rest before outside key block here met = elim (before key block here met) [
  | inl listed ↦ inl listed
  | inr later ↦ elim (next_or_rest id key held rest later) [
    | inl now ↦ absurd (both_ways _ (outside block (ap blocks now ∙ here)) met)
    | inr rest_has ↦ inr rest_has
  ]
]

-- once all were looked at
pub AreMet-scanned :
    (blocks : ℕ → Option Piece) (area : Rect) (list : List LaidTile) → All (IsFound blocks area) list → AreMetBefore blocks area list [] → AreMet blocks area list
AreMet-scanned blocks area list each before = record {
  each = each;
  whole = λ key block here met. elim (before key block here met) [
    | inl listed ↦ listed
    | inr later ↦ cc
  ];
}

-- in both
pub both_true : {a b : Bool} → a ≡ true → b ≡ true → (a && b) ≡ true
both_true {a} {b} p q = rw (p, q) refl
