-- Building: the strips of a picture, laid under keys of their own, are the blocks of a plane.
use Rattle.std.proofs.Common.{◌≡◌, ◌≢◌, ℕ, true, List, [], map, get_or, Some, IsTrue, All, AllPairs, Contains, inl, inr, refl, sym, ap, ◌∙◌, subst, subst₂, le_refl}
use Rattle.mls_stitch.proofs.Common.{IfSome, cases_Bool, All-contains, All-map, All-nil, Contains-get_or, Rect, IsRectangleIn, Point, holds, AreUnorderedStrips, Picture, picture_of, IsStrip, world, Piece, Contains-map, tile_in, Tile, fresh_at, AwaitStitches, IsRightOrListed, keys_of, GiveWay, unstitched, HoldsAt, LeadsTo, beyond, AreBlocks, AreTiledAs, ArePlaced, IsMaximal, block_at, shown, IsLaid, LaidTile, Stitch}
use Rattle.mls_geom.proofs.TouchedStrips.{one_strip}
use Rattle.mls_stitch.proofs.DistinctNumbers.{cases_Contains}
use Rattle.mls_stitch.proofs.FreshTiles.{AllPairs-either, AllPairs-from_map, Contains-from_map, IfSome-each, entry-keys_of, fresh_at-absent, fresh_at-entry, fresh_at-listed, keys_of-listed, nothing_in_nil}
use Rattle.mls_stitch.proofs.MaximalTiles.{IsMaximal-strips, shown-strips}
use Rattle.mls_stitch.proofs.ReplacedBlocks.{piece_of}
use Rattle.mls_stitch.proofs.ReplacedStitches.{Any-contained, ArePlaced-unstitched, no_stitch}
use Rattle.mls_stitch.proofs.ShownTiles.{KeysDiffer}
use Rattle.mls_stitch.proofs.Sides.{HoldsAt-block, IsPlane-AreTiledAs, block_at-AreTiledAs, there-IsSomeAnd}

-- a strip is a rectangle of its extent
pub legal-IsStrip : (extent : Rect) (picture : Picture) (piece : Piece) → IsStrip extent picture piece → IsRectangleIn extent piece.rect
legal-IsStrip extent picture piece strip =
    let run = strip.rows piece.rect.bottom (le_refl piece.rect.bottom) strip.tall in
    record { left_in = run.from; wide = run.wide; right_in = run.to; bottom_in = strip.from; tall = strip.tall; top_in = strip.to }

module _ (picture : Picture) (laid : List LaidTile) (strips : AreUnorderedStrips world picture (map piece_of laid)) (once : AllPairs (λ p q. p.id ≢ q.id) laid) where
  -- a listed tile is a strip
  strip_entry : (entry : LaidTile) → Contains laid entry → IsStrip world picture entry.piece
  strip_entry entry found = All-contains (IsStrip world picture) (map piece_of laid) entry.piece strips.each (Contains-map piece_of laid entry found)

  -- a square of the world is in one of them
  entry_with : (x y : ℕ) → holds world x y ≡ true → (entry : LaidTile) × Contains laid entry × (holds entry.piece.rect x y ≡ true)
  entry_with x y inside =
      let (k, piece, within, is, in_piece) = strips.whole x y inside in
      let (entry, found, is_piece) = Contains-from_map piece_of laid piece (k, within, is) in
      (entry, found, ap (λ p. holds p.rect x y) is_piece ∙ in_piece)

  legal : (key : ℕ) → IfSome (fresh_at laid key) (λ block. IsRectangleIn world block.rect)
  legal key =
      IfSome-each (fresh_at laid key) (λ block. IsRectangleIn world block.rect)
      (λ piece is. legal-IsStrip world picture piece (strip_entry (record { id = key; piece = piece }) (fresh_at-listed laid key piece is)))

  whole : (at : Point) → IsTrue (holds world at.x at.y) → (key : ℕ) × HoldsAt (fresh_at laid) key at
  whole at inside =
      let (entry, found, in_entry) = entry_with at.x at.y inside in
      (entry.id, HoldsAt-block (fresh_at laid) entry.id entry.piece at (fresh_at-entry laid entry once found) in_entry)

  apart : (a b : ℕ) (at : Point) → HoldsAt (fresh_at laid) a at → HoldsAt (fresh_at laid) b at → a ≡ b
  apart a b at held_a held_b =
      let (p, is_p, in_p) = there-IsSomeAnd (fresh_at laid a) (λ block. IsTrue (holds block.rect at.x at.y)) held_a in
      let (q, is_q, in_q) = there-IsSomeAnd (fresh_at laid b) (λ block. IsTrue (holds block.rect at.x at.y)) held_b in
      let e : LaidTile = record { id = a; piece = p } in
      let f : LaidTile = record { id = b; piece = q } in
      let found_e = fresh_at-listed laid a p is_p in
      let found_f = fresh_at-listed laid b q is_q in
      let same : p ≡ q = one_strip world picture p q at.x at.y (strip_entry e found_e) (strip_entry f found_f) in_p in_q in
      elim (AllPairs-either (λ s t. s.piece ≢ t.piece) laid e f (AllPairs-from_map (λ s t. s ≢ t) piece_of laid strips.once) found_e found_f) [
        | inl one ↦ ap (λ s. s.id) one
        | inr (inl differ) ↦ absurd (differ same)
        | inr (inr differ) ↦ absurd (differ (sym same))
      ]

  -- the strips have each square of the world just once
  pub AreBlocks-strips : AreBlocks (fresh_at laid)
  AreBlocks-strips = record { legal = legal; whole = whole; apart = apart }

  module _ (tiles : List (ℕ × Tile)) (ways : GiveWay [] tiles [] laid) where
    placed : (key : ℕ) → ArePlaced (tile_in tiles key) (fresh_at laid key)
    placed key = elim (cases_Contains (keys_of laid) key) [
      | inl listed ↦
          let (entry, found, is) = entry-keys_of laid key listed in
          subst (λ k. ArePlaced (tile_in tiles k) (fresh_at laid k)) is
          (ArePlaced-unstitched (tile_in tiles entry.id) (fresh_at laid entry.id) entry.piece
          (All-contains (λ e. tile_in tiles e.id ≡ Some (unstitched e.piece)) laid entry ways.placed found) (fresh_at-entry laid entry once found))
      | inr unlisted ↦ subst₂ ArePlaced (sym (ways.kept key (nothing_in_nil key) unlisted)) (sym (fresh_at-absent laid key unlisted)) refl
    ]

    pending-entry :
        (entry : LaidTile) (tile : Tile) (stitch : Stitch) → Contains laid entry → tile_in tiles entry.id ≡ Some tile
        → IsRightOrListed (fresh_at laid) [] laid entry.id tile entry.piece stitch
    pending-entry entry tile stitch found is =
        let at = beyond stitch entry.piece.rect in
        let none = no_stitch tiles laid entry tile stitch ways.placed found is in
        elim (cases_Bool (holds world at.x at.y)) [
          | inl inside ↦
              let (other, there, in_other) = entry_with at.x at.y inside in
              inr (inl (keys_of-listed laid entry found, Any-contained (λ e. IsTrue (holds e.piece.rect at.x at.y)) laid other there in_other))
          | inr outside ↦ inl (subst (λ s. LeadsTo (fresh_at laid) s at) (sym none) outside)
        ]

    -- so their tiles wait for their stitches
    pub AwaitStitches-strips : AwaitStitches tiles (fresh_at laid) [] laid
    AwaitStitches-strips = record {
      place = record { tiling = AreBlocks-strips; placed = placed };
      laid_around = All-nil (IsLaid (fresh_at laid));
      laid_fresh = λ k d within. fresh_at-entry laid (get_or laid k d) once (Contains-get_or laid k d within);
      pending = λ key tile block stitch is_tile is_block. pending-entry (record { id = key; piece = block }) tile stitch (fresh_at-listed laid key block is_block) is_tile;
    }

-- tiles that are laid and stitched as these strips have them as their blocks
pub laid-strips : (tiles : List (ℕ × Tile)) (laid : List LaidTile) → AllPairs (λ p q. p.id ≢ q.id) laid → AreTiledAs tiles (fresh_at laid)
    → All (λ piece. (key : ℕ) × (block_at tiles key ≡ Some piece)) (map piece_of laid)
laid-strips tiles laid once tiled =
    All-map (λ piece. (key : ℕ) × (block_at tiles key ≡ Some piece)) piece_of laid
    (λ k d within. let entry = get_or laid k d in
    (entry.id, block_at-AreTiledAs tiles (fresh_at laid) tiled entry.id ∙ fresh_at-entry laid entry once (Contains-get_or laid k d within)))

-- so they show the strips' picture, and are maximal
pub shown-built :
    (tiles : List (ℕ × Tile)) (laid : List LaidTile) → AreUnorderedStrips world (picture_of (map piece_of laid)) (map piece_of laid) → AllPairs (λ p q. p.id ≢ q.id) laid
    → AreTiledAs tiles (fresh_at laid) → KeysDiffer tiles → shown tiles ≡ picture_of (map piece_of laid)
shown-built tiles laid strips once tiled differ =
    shown-strips tiles (map piece_of laid) (IsPlane-AreTiledAs tiles (fresh_at laid) tiled) differ (laid-strips tiles laid once tiled) strips

pub IsMaximal-built :
    (tiles : List (ℕ × Tile)) (laid : List LaidTile) → AreUnorderedStrips world (picture_of (map piece_of laid)) (map piece_of laid) → AllPairs (λ p q. p.id ≢ q.id) laid
    → AreTiledAs tiles (fresh_at laid) → KeysDiffer tiles → IsMaximal tiles
IsMaximal-built tiles laid strips once tiled differ =
    IsMaximal-strips tiles (map piece_of laid) (IsPlane-AreTiledAs tiles (fresh_at laid) tiled) differ (laid-strips tiles laid once tiled) strips
