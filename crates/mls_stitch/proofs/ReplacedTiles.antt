-- Replacement as a whole: tiles that are laid and stitched as the new blocks have replaced the touched ones.
use Rattle.std.proofs.Common.{◌≡◌, ◌≢◌, ◌⊎◌, ℕ, ◌+◌, ◌<◌, true, false, List, [], ◌∷◌, length, map, get_or, slice_get, Option, Some, None, All, Contains, inl, inr, refl, sym, ap, ◌∙◌, subst}
use Rattle.mls_stitch.proofs.Common.{AllZip, option_map, both_ways, false_from_ne_true, All-head, All-map, All-tail, Contains-get_or, none-some, Point, holds, overlaid, world, Piece, AllPairs-map, Contains-map, Agrees, overlaid_agreed, overlaid_outside, holds_outer, tile_in, Tile, MayReplace, replaced, keys_of, IsKept, Replaces, AreTiledAs, ArePlaced, IsPlane, block_at, block_of, shown, LaidTile}
use Rattle.mls_stitch.proofs.KeptStitches.{IsKept-block}
use Rattle.mls_stitch.proofs.ReplacedBlocks.{held-entry, held-touched, legal-entry, one_entry, piece_of, replaced-entry, replaced-gone, replaced-kept, replaced-stays, replaced_cases}
use Rattle.mls_stitch.proofs.ShownTiles.{KeysDiffer, shown-inside, shown-outside, shown_same}
use Rattle.mls_stitch.proofs.Sides.{HoldsAt-block, IsPlane-AreTiledAs, block_at-AreTiledAs, placed_block, placed_tile}

-- images of the elements of one list, place by place
pub AllZip-maps :
    {X A B : Type 0} (R : A → B → Type 0) (f : X → A) (g : X → B) (xs : List X) → All (λ x. R (f x) (g x)) xs → AllZip R (map f xs) (map g xs)
AllZip-maps R f g [] all = tt
AllZip-maps R f g (x ∷ xs) all = (All-head (λ x. R (f x) (g x)) x xs all, AllZip-maps R f g xs (All-tail (λ x. R (f x) (g x)) x xs all))

-- where there is no block there is no tile
pub no_tile : (slot : Option Tile) (block : Option Piece) → ArePlaced slot block → block ≡ None → slot ≡ None
no_tile None block placed none = refl
no_tile (Some tile) block (piece, is, placed) none = absurd (none-some piece (sym none ∙ is))

-- no tile lies under a key without a block
no_tile_at : (tiles : List (ℕ × Tile)) (key : ℕ) → block_at tiles key ≡ None → tile_in tiles key ≡ None
no_tile_at tiles key none = unmade (tile_in tiles key) none
  where
    unmade : (slot : Option Tile) → option_map (block_of tiles) slot ≡ None → slot ≡ None
    unmade None made = refl
    unmade (Some tile) made = absurd (none-some (block_of tiles tile) (sym made))

module _ (old new : List (ℕ × Tile)) (touched : List ℕ) (laid : List LaidTile) (plane : IsPlane old) (may : MayReplace (block_at old) touched laid)
    (tiled : AreTiledAs new (replaced (block_at old) touched laid)) where
  -- the new blocks lie under the new keys
  new_block : (key : ℕ) → block_at new key ≡ replaced (block_at old) touched laid key
  new_block key = block_at-AreTiledAs new (replaced (block_at old) touched laid) tiled key

  laid_blocks : All (λ entry. block_at new entry.id ≡ Some entry.piece) laid
  laid_blocks k d within =
      new_block (get_or laid k d).id ∙ replaced-entry (block_at old) touched laid (get_or laid k d) may.once (Contains-get_or laid k d within)

  -- each tile that is not touched is kept
  kept : (key : ℕ) (tile : Tile) → tile_in old key ≡ Some tile → ¬ (Contains touched key) → (after : Tile) × (tile_in new key ≡ Some after) × IsKept touched tile after
  kept key tile is untouched =
      let blocks = replaced (block_at old) touched laid in
      let stays = λ (other : ℕ) (b : Piece) (absent : ¬ (Contains touched other)) (here : block_at old other ≡ Some b). replaced-stays (block_at old) touched laid may other b absent here in
      let (block, here, _) = placed_block old (block_at old) key tile (plane.placed key) is in
      let here_after = stays key block untouched here in
      let (after, is_after, _) = placed_tile new blocks key block (tiled.placed key) here_after in
      (after, is_after, IsKept-block old new (block_at old) blocks touched key block tile after plane tiled stays here here_after is is_after)

  unused : All (λ key. Contains touched key ⊎ (tile_in old key ≡ None)) (keys_of laid)
  unused =
      All-map (λ key. Contains touched key ⊎ (tile_in old key ≡ None)) (λ (e : LaidTile). e.id) laid
      (λ k d within. elim (may.unused k d within) [
        | inl found ↦ inl found
        | inr none ↦ inr (no_tile_at old (get_or laid k d).id none)
      ])

  gone : (key : ℕ) → Contains touched key → ¬ (Contains (keys_of laid) key) → tile_in new key ≡ None
  gone key found unlisted =
      no_tile (tile_in new key) (replaced (block_at old) touched laid key) (tiled.placed key) (replaced-gone (block_at old) touched laid key found unlisted)

  module _ (differ : KeysDiffer old) (differ_after : KeysDiffer new) where
    -- the squares of a fresh tile show its kind
    fresh-shown : (entry : LaidTile) (at : Point) → Contains laid entry → holds entry.piece.rect at.x at.y ≡ true → overlaid (shown old) (map piece_of laid) at.x at.y ≡ entry.piece.kind
    fresh-shown entry at found inside =
        let (k, within, is) = Contains-map piece_of laid entry found in
        overlaid_agreed (shown old) (map piece_of laid) at.x at.y entry.piece.kind
        (All-map (Agrees at.x at.y entry.piece.kind) piece_of laid
        (λ j d in_list in_other.
        ap (λ e. e.piece.kind) (one_entry (block_at old) touched laid may (get_or laid j d) entry at (Contains-get_or laid j d in_list) found in_other inside)))
        (k, entry.piece, within, is, inside)

    -- and those of an untouched one show its own
    kept-shown :
        (key : ℕ) (block : Piece) (at : Point) → ¬ (Contains touched key) → block_at old key ≡ Some block → holds block.rect at.x at.y ≡ true
        → overlaid (shown old) (map piece_of laid) at.x at.y ≡ block.kind
    kept-shown key block at untouched here inside =
        overlaid_outside (shown old) (map piece_of laid) at.x at.y
        (All-map (λ p. holds p.rect at.x at.y ≡ false) piece_of laid
        (λ j d in_list. false_from_ne_true _ (λ in_entry.
        untouched (held-touched (block_at old) touched laid may plane.tiling key at
        (held-entry (block_at old) touched laid may (get_or laid j d) at (Contains-get_or laid j d in_list) in_entry) (HoldsAt-block (block_at old) key block at here inside)))))
        ∙ shown-inside old key block at.x at.y plane differ here inside

    each-shown : (key : ℕ) (block : Piece) (x y : ℕ) → block_at new key ≡ Some block → holds block.rect x y ≡ true → overlaid (shown old) (map piece_of laid) x y ≡ block.kind
    each-shown key block x y here inside = elim (replaced_cases (block_at old) touched laid key block (sym (new_block key) ∙ here)) [
      | inl found ↦ fresh-shown (record { id = key; piece = block }) (record { x = x; y = y }) found inside
      | inr (untouched, before) ↦ kept-shown key block (record { x = x; y = y }) untouched before inside
    ]

    space-shown : (x y : ℕ) → holds world x y ≡ false → overlaid (shown old) (map piece_of laid) x y ≡ 0
    space-shown x y outside =
        overlaid_outside (shown old) (map piece_of laid) x y
        (All-map (λ p. holds p.rect x y ≡ false) piece_of laid
        (λ j d in_list. false_from_ne_true _ (λ in_entry.
        both_ways (holds world x y) outside
        (holds_outer world (get_or laid j d).piece.rect x y (legal-entry (block_at old) touched laid may (get_or laid j d) (Contains-get_or laid j d in_list)) in_entry))))
        ∙ shown-outside old x y plane differ outside

    -- so the tiles show the pieces over what they showed
    pub shown-replaced : shown new ≡ overlaid (shown old) (map piece_of laid)
    shown-replaced =
        shown_same new (overlaid (shown old) (map piece_of laid)) (IsPlane-AreTiledAs new (replaced (block_at old) touched laid) tiled) differ_after each-shown space-shown

    -- and have replaced the touched ones
    Replaces-map :
        ((i : ℕ) → i < length touched → i < length (map piece_of laid) → slice_get (keys_of laid) i ≡ slice_get touched i)
        → length new + length touched ≡ length old + length (map piece_of laid) → Replaces old new touched (map piece_of laid)
    Replaces-map again count = record {
      keys = keys_of laid;
      laid = AllZip-maps (λ key piece. block_at new key ≡ Some piece) (λ (e : LaidTile). e.id) piece_of laid laid_blocks;
      again = again;
      kept = kept;
      blocks = λ key untouched unlisted. new_block key ∙ replaced-kept (block_at old) touched laid key untouched unlisted;
      unused = unused;
      gone = gone;
      once = AllPairs-map (λ a b. a ≢ b) (λ (e : LaidTile). e.id) laid may.once;
      plane = IsPlane-AreTiledAs new (replaced (block_at old) touched laid) tiled;
      picture = shown-replaced;
      count = count;
    }

    pub Replaces-replaced :
        (fresh : List Piece) → map (λ (e : LaidTile). e.piece) laid ≡ fresh
        → ((i : ℕ) → i < length touched → i < length fresh → slice_get (keys_of laid) i ≡ slice_get touched i)
        → length new + length touched ≡ length old + length fresh → Replaces old new touched fresh
    Replaces-replaced fresh pieces again count =
        subst (λ ps. ((i : ℕ) → i < length touched → i < length ps → slice_get (keys_of laid) i ≡ slice_get touched i)
        → length new + length touched ≡ length old + length ps → Replaces old new touched ps) pieces Replaces-map again count
