-- Blocks after replacement: each square of the world is again in just one.
use Rattle.std.proofs.Common.{◌≡◌, ◌≢◌, ◌⊎◌, ℕ, true, ◌==◌, IsTrue, List, map, Option, Some, None, inl, inr, refl, sym, ap, ◌∙◌, subst}
use Rattle.mls_stitch.proofs.Common.{AllPairs, Contains, list_any, IfSome, option_or, cond-false, cond-true, All-contains, none-some, IsRectangleIn, Point, holds, world, Piece, Contains-map, MayReplace, fresh_at, replaced, untouched, keys_of, AreDisjoint, IsHeld, HoldsAt, AreBlocks, LaidTile}
use Rattle.mls_stitch.proofs.DistinctNumbers.{cases_Contains}
use Rattle.mls_stitch.proofs.FreshTiles.{AllPairs-either, AllPairs-from_map, Contains-from_map, IfSome-each, cases_Option, entry-keys_of, fresh_at-absent, fresh_at-entry, fresh_at-listed, list_any-Contains, list_any-absent}
use Rattle.mls_stitch.proofs.Sides.{HoldsAt-block, legal-AreBlocks, there-IsSomeAnd}

-- a listed tile's piece
abbrev pub piece_of : LaidTile → Piece
piece_of entry = entry.piece

-- a listed tile has its piece
pub replaced-entry :
    (blocks : ℕ → Option Piece) (touched : List ℕ) (laid : List LaidTile) (entry : LaidTile) → AllPairs (λ p q. p.id ≢ q.id) laid → Contains laid entry
    → replaced blocks touched laid entry.id ≡ Some entry.piece
replaced-entry blocks touched laid entry once found = ap (λ o. option_or o (untouched blocks touched entry.id)) (fresh_at-entry laid entry once found)

-- a key that is not listed has what is untouched
unlisted : (blocks : ℕ → Option Piece) (touched : List ℕ) (laid : List LaidTile) (key : ℕ) → fresh_at laid key ≡ None → replaced blocks touched laid key ≡ untouched blocks touched key
unlisted blocks touched laid key none = ap (λ o. option_or o (untouched blocks touched key)) none

untouched-there : (blocks : ℕ → Option Piece) (touched : List ℕ) (key : ℕ) → Contains touched key → untouched blocks touched key ≡ None
untouched-there blocks touched key found = cond-true (list_any (λ k. k == key) touched) None (blocks key) (list_any-Contains touched key found)

untouched-absent : (blocks : ℕ → Option Piece) (touched : List ℕ) (key : ℕ) → ¬ (Contains touched key) → untouched blocks touched key ≡ blocks key
untouched-absent blocks touched key absent = cond-false (list_any (λ k. k == key) touched) None (blocks key) (list_any-absent touched key absent)

-- a key that is neither listed nor touched has its block, and a touched key that is not listed has none
pub replaced-kept :
    (blocks : ℕ → Option Piece) (touched : List ℕ) (laid : List LaidTile) (key : ℕ) → ¬ (Contains touched key) → ¬ (Contains (keys_of laid) key)
    → replaced blocks touched laid key ≡ blocks key
replaced-kept blocks touched laid key kept absent = unlisted blocks touched laid key (fresh_at-absent laid key absent) ∙ untouched-absent blocks touched key kept

pub replaced-gone :
    (blocks : ℕ → Option Piece) (touched : List ℕ) (laid : List LaidTile) (key : ℕ) → Contains touched key → ¬ (Contains (keys_of laid) key)
    → replaced blocks touched laid key ≡ None
replaced-gone blocks touched laid key found absent = unlisted blocks touched laid key (fresh_at-absent laid key absent) ∙ untouched-there blocks touched key found

-- a block is that of a listed tile, or of an untouched one
pub replaced_cases :
    (blocks : ℕ → Option Piece) (touched : List ℕ) (laid : List LaidTile) (key : ℕ) (piece : Piece) → replaced blocks touched laid key ≡ Some piece
    → Contains laid (record { id = key; piece = piece }) ⊎ ((¬ (Contains touched key)) × (blocks key ≡ Some piece))
replaced_cases blocks touched laid key piece is = elim (cases_Option (fresh_at laid key)) [
  | inl none ↦ elim (cases_Contains touched key) [
    | inl found ↦ absurd (none-some piece (sym (unlisted blocks touched laid key none ∙ untouched-there blocks touched key found) ∙ is))
    | inr absent ↦ inr (absent, sym (unlisted blocks touched laid key none ∙ untouched-absent blocks touched key absent) ∙ is)
  ]
  | inr (fresh, fresh_is) ↦
      let whole : replaced blocks touched laid key ≡ Some fresh = ap (λ o. option_or o (untouched blocks touched key)) fresh_is in
      inl (fresh_at-listed laid key piece (fresh_is ∙ sym whole ∙ is))
]

module _ (blocks : ℕ → Option Piece) (touched : List ℕ) (laid : List LaidTile) (may : MayReplace blocks touched laid) where
  -- an untouched tile has a key that is not listed
  pub kept-unlisted : (key : ℕ) (piece : Piece) → ¬ (Contains touched key) → blocks key ≡ Some piece → ¬ (Contains (keys_of laid) key)
  kept-unlisted key piece kept is found =
      let (entry, there, is_key) = entry-keys_of laid key found in
      elim (All-contains (λ e. Contains touched e.id ⊎ (blocks e.id ≡ None)) laid entry may.unused there) [
        | inl touched_key ↦ kept (subst (Contains touched) is_key touched_key)
        | inr none ↦ none-some piece (sym none ∙ ap blocks is_key ∙ is)
      ]

  -- and stays
  pub replaced-stays : (key : ℕ) (piece : Piece) → ¬ (Contains touched key) → blocks key ≡ Some piece → replaced blocks touched laid key ≡ Some piece
  replaced-stays key piece kept is = replaced-kept blocks touched laid key kept (kept-unlisted key piece kept is) ∙ is

  pub HoldsAt-stays : (key : ℕ) (at : Point) → ¬ (Contains touched key) → HoldsAt blocks key at → HoldsAt (replaced blocks touched laid) key at
  HoldsAt-stays key at kept held =
      let (piece, is, inside) = there-IsSomeAnd (blocks key) (λ block. IsTrue (holds block.rect at.x at.y)) held in
      HoldsAt-block (replaced blocks touched laid) key piece at (replaced-stays key piece kept is) inside

  -- a listed tile has the squares of its piece
  pub HoldsAt-entry : (entry : LaidTile) (at : Point) → Contains laid entry → holds entry.piece.rect at.x at.y ≡ true → HoldsAt (replaced blocks touched laid) entry.id at
  HoldsAt-entry entry at found inside = HoldsAt-block (replaced blocks touched laid) entry.id entry.piece at (replaced-entry blocks touched laid entry may.once found) inside

  -- what holds a square is a listed tile or an untouched one
  pub HoldsAt-cases :
      (key : ℕ) (at : Point) → HoldsAt (replaced blocks touched laid) key at
      → ((entry : LaidTile) × Contains laid entry × (entry.id ≡ key) × (holds entry.piece.rect at.x at.y ≡ true)) ⊎ ((¬ (Contains touched key)) × HoldsAt blocks key at)
  HoldsAt-cases key at held =
      let (piece, is, inside) = there-IsSomeAnd (replaced blocks touched laid key) (λ block. IsTrue (holds block.rect at.x at.y)) held in
      elim (replaced_cases blocks touched laid key piece is) [
        | inl found ↦ inl (record { id = key; piece = piece }, found, refl, inside)
        | inr (kept, is_kept) ↦ inr (kept, HoldsAt-block blocks key piece at is_kept inside)
      ]

  -- a square of a touched tile is one of a listed tile
  pub entry-held : (at : Point) → IsHeld blocks touched at → (entry : LaidTile) × Contains laid entry × (holds entry.piece.rect at.x at.y ≡ true)
  entry-held at held =
      let (k, piece, within, is, inside) = (may.takes.same at).0 held in
      let (entry, there, is_piece) = Contains-from_map piece_of laid piece (k, within, is) in
      (entry, there, ap (λ p. holds p.rect at.x at.y) is_piece ∙ inside)

  -- and the other way round
  pub held-entry : (entry : LaidTile) (at : Point) → Contains laid entry → holds entry.piece.rect at.x at.y ≡ true → IsHeld blocks touched at
  held-entry entry at found inside =
      let (k, within, is) = Contains-map piece_of laid entry found in
      (may.takes.same at).1 (k, entry.piece, within, is, inside)

  -- listed tiles are rectangles of the world
  pub legal-entry : (entry : LaidTile) → Contains laid entry → IsRectangleIn world entry.piece.rect
  legal-entry entry found = All-contains (λ p. IsRectangleIn world p.rect) (map piece_of laid) entry.piece may.takes.legal (Contains-map piece_of laid entry found)

  -- and two of them that share a square are one
  pub one_entry :
      (p q : LaidTile) (at : Point) → Contains laid p → Contains laid q → holds p.piece.rect at.x at.y ≡ true → holds q.piece.rect at.x at.y ≡ true → p ≡ q
  one_entry p q at found_p found_q in_p in_q =
      elim (AllPairs-either (λ e f. AreDisjoint e.piece f.piece) laid p q (AllPairs-from_map AreDisjoint piece_of laid may.takes.apart) found_p found_q) [
        | inl same ↦ same
        | inr (inl apart) ↦ absurd (apart at in_p in_q)
        | inr (inr apart) ↦ absurd (apart at in_q in_p)
      ]

  module _ (tiling : AreBlocks blocks) where
    -- a square of a touched tile is in no other tile
    pub held-touched : (key : ℕ) (at : Point) → IsHeld blocks touched at → HoldsAt blocks key at → Contains touched key
    held-touched key at (k, other, within, is, held_other) held = subst (Contains touched) (tiling.apart other key at held_other held) (k, within, is)

    legal_at : (key : ℕ) (piece : Piece) → replaced blocks touched laid key ≡ Some piece → IsRectangleIn world piece.rect
    legal_at key piece is = elim (replaced_cases blocks touched laid key piece is) [
      | inl found ↦ legal-entry (record { id = key; piece = piece }) found
      | inr (kept, is_kept) ↦ legal-AreBlocks blocks key piece tiling is_kept
    ]

    legal : (key : ℕ) → IfSome (replaced blocks touched laid key) (λ block. IsRectangleIn world block.rect)
    legal key = IfSome-each (replaced blocks touched laid key) (λ block. IsRectangleIn world block.rect) (legal_at key)

    whole : (at : Point) → IsTrue (holds world at.x at.y) → (key : ℕ) × HoldsAt (replaced blocks touched laid) key at
    whole at inside =
        let (key, held) = tiling.whole at inside in
        elim (cases_Contains touched key) [
          | inl (k, within, is) ↦ let (entry, found, there) = entry-held at (k, key, within, is, held) in (entry.id, HoldsAt-entry entry at found there)
          | inr kept ↦ (key, HoldsAt-stays key at kept held)
        ]

    apart : (a b : ℕ) (at : Point) → HoldsAt (replaced blocks touched laid) a at → HoldsAt (replaced blocks touched laid) b at → a ≡ b
    apart a b at held_a held_b = elim (HoldsAt-cases a at held_a) [
      | inl (p, found_p, is_a, in_p) ↦ elim (HoldsAt-cases b at held_b) [
        | inl (q, found_q, is_b, in_q) ↦ sym is_a ∙ ap (λ e. e.id) (one_entry p q at found_p found_q in_p in_q) ∙ is_b
        | inr (kept, old_b) ↦ absurd (kept (held-touched b at (held-entry p at found_p in_p) old_b))
      ]
      | inr (kept, old_a) ↦ elim (HoldsAt-cases b at held_b) [
        | inl (q, found_q, is_b, in_q) ↦ absurd (kept (held-touched a at (held-entry q at found_q in_q) old_a))
        | inr (kept_b, old_b) ↦ tiling.apart a b at old_a old_b
      ]
    ]

    -- so they are blocks again
    pub AreBlocks-replaced : AreBlocks (replaced blocks touched laid)
    AreBlocks-replaced = record { legal = legal; whole = whole; apart = apart }
