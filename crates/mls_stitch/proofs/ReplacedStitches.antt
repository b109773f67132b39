-- Stitches after replacement: each is right, or leads from a listed tile to a listed tile.
use Rattle.std.proofs.Common.{◌≡◌, ◌≢◌, ◌⊎◌, ℕ, true, false, cond, IsTrue, List, ◌++◌, map, get_or, Option, Some, None, inl, inr, refl, sym, ap, ◌∙◌, subst, subst₂}
use Rattle.mls_stitch.proofs.Common.{All, AllPairs, Any, Contains, both_ways, cases_Bool, false_from_ne_true, All-contains, Contains-append_left, Contains-append_right, Contains-get_or, none-some, same_Some, Point, holds, world, Piece, holds_outer, tile_in, Tile, MayReplace, replaced, AreListed, AwaitStitches, IsRightOrListed, keys_of, AreClose, GiveWay, Surround, inside_only, moved_tile, placed_at, unstitched, IsHeld, TakePlace, HoldsAt, LeadsTo, beyond, stitch_of, AreTiledAs, ArePlaced, IsLaid, LaidTile, Stitch, Lb, Bl, Tr, Rt}
use Rattle.mls_stitch.proofs.CloseSquares.{beyond_moved, close_back, corner_close, corner_square}
use Rattle.mls_stitch.proofs.DistinctNumbers.{cases_Contains}
use Rattle.mls_stitch.proofs.FreshTiles.{AllPairs-either, cases_Option, entry-keys_of, keys_of-listed}
use Rattle.mls_stitch.proofs.ReplacedBlocks.{AreBlocks-replaced, HoldsAt-entry, HoldsAt-stays, entry-held, held-entry, held-touched, kept-unlisted, legal-entry, one_entry, replaced-entry, replaced-gone, replaced-kept, replaced-stays, replaced_cases}
use Rattle.mls_stitch.proofs.Sides.{HoldsAt-block, holds-HoldsAt, legal-AreBlocks, placed_block, there-IsSomeAnd}

-- a fresh tile has no stitch
pub stitch_of-unstitched : (stitch : Stitch) (piece : Piece) → stitch_of stitch (unstitched piece) ≡ None
stitch_of-unstitched Lb piece = refl
stitch_of-unstitched Bl piece = refl
stitch_of-unstitched Tr piece = refl
stitch_of-unstitched Rt piece = refl

pub no_stitch :
    (tiles : List (ℕ × Tile)) (laid : List LaidTile) (entry : LaidTile) (tile : Tile) (stitch : Stitch) → All (λ e. tile_in tiles e.id ≡ Some (unstitched e.piece)) laid
    → Contains laid entry → tile_in tiles entry.id ≡ Some tile → stitch_of stitch tile ≡ None
no_stitch tiles laid entry tile stitch placed found is =
    let fresh = All-contains (λ e. tile_in tiles e.id ≡ Some (unstitched e.piece)) laid entry placed found in
    ap (stitch_of stitch) (same_Some tile (unstitched entry.piece) (sym is ∙ fresh)) ∙ stitch_of-unstitched stitch entry.piece

-- one that moves has those that lead into the world
stitch_of-moved : (stitch : Stitch) (piece : Piece) (tile : Tile) → stitch_of stitch (moved_tile piece tile) ≡ inside_only (beyond stitch piece.rect) (stitch_of stitch tile)
stitch_of-moved Lb piece tile = refl
stitch_of-moved Bl piece tile = refl
stitch_of-moved Tr piece tile = refl
stitch_of-moved Rt piece tile = refl

-- each lies where its piece does
ArePlaced-moved : (slot : Option Tile) (block : Option Piece) (piece : Piece) (tile : Tile) → slot ≡ Some (moved_tile piece tile) → block ≡ Some piece → ArePlaced slot block
ArePlaced-moved slot block piece tile slot_is block_is =
    subst₂ ArePlaced (sym slot_is) (sym block_is) (piece, refl, record { left = refl; bottom = refl; kind = refl })

pub ArePlaced-unstitched : (slot : Option Tile) (block : Option Piece) (piece : Piece) → slot ≡ Some (unstitched piece) → block ≡ Some piece → ArePlaced slot block
ArePlaced-unstitched slot block piece slot_is block_is =
    subst₂ ArePlaced (sym slot_is) (sym block_is) (piece, refl, record { left = refl; bottom = refl; kind = refl })

-- where there is no tile there is no block
none_placed : (slot : Option Tile) (block : Option Piece) → ArePlaced slot block → slot ≡ None → block ≡ None
none_placed None block placed none = placed
none_placed (Some tile) block placed none = absurd (none-some tile (sym none))

-- an element that has a fact makes it a fact of some element
pub Any-contained : {X : Type 0} (P : X → Type 0) (xs : List X) (x : X) → Contains xs x → P x → Any P xs
Any-contained P xs x (k, within, is) here = (k, x, within, is, here)

-- either lies where its piece does
ArePlaced-placed_at : (slot : Option Tile) (block : Option Piece) (piece : Piece) (before : Option Tile) → slot ≡ Some (placed_at piece before) → block ≡ Some piece → ArePlaced slot block
ArePlaced-placed_at slot block piece None slot_is block_is = ArePlaced-unstitched slot block piece slot_is block_is
ArePlaced-placed_at slot block piece (Some tile) slot_is block_is = ArePlaced-moved slot block piece tile slot_is block_is

-- tiles that were laid in place of the touched ones may replace them
pub MayReplace-GiveWay :
    (old new : List (ℕ × Tile)) (blocks : ℕ → Option Piece) (touched : List ℕ) (laid : List LaidTile) → ((key : ℕ) → ArePlaced (tile_in old key) (blocks key))
    → TakePlace blocks touched (map (λ (e : LaidTile). e.piece) laid) → GiveWay old new touched laid → MayReplace blocks touched laid
MayReplace-GiveWay old new blocks touched laid placed takes ways = record {
  takes = takes;
  once = ways.once;
  unused = λ k d within. elim (ways.unused k d within) [
    | inl found ↦ inl found
    | inr none ↦ inr (none_placed (tile_in old (get_or laid k d).id) (blocks (get_or laid k d).id) (placed (get_or laid k d).id) none)
  ];
}

-- a touched tile has the square, and no piece that is laid under its key does
pub record IsLostBy (blocks : ℕ → Option Piece) (touched : List ℕ) (laid : List LaidTile) (at : Point) : Type 0 where
  pub key : ℕ
  pub touches : Contains touched key
  pub held : HoldsAt blocks key at
  pub outside : (entry : LaidTile) → Contains laid entry → entry.id ≡ key → holds entry.piece.rect at.x at.y ≡ false

-- listed tiles with one key are one
entry_same : (laid : List LaidTile) (a b : LaidTile) → AllPairs (λ p q. p.id ≢ q.id) laid → Contains laid a → Contains laid b → a.id ≡ b.id → a ≡ b
entry_same laid a b once found_a found_b same = elim (AllPairs-either (λ (p q : LaidTile). p.id ≢ q.id) laid a b once found_a found_b) [
  | inl is ↦ is
  | inr (inl differ) ↦ absurd (differ same)
  | inr (inr differ) ↦ absurd (differ (sym same))
]

module _ (old new : List (ℕ × Tile)) (blocks : ℕ → Option Piece) (touched : List ℕ) (laid around : List LaidTile) (tiled : AreTiledAs old blocks) (may : MayReplace blocks touched laid)
    (ways : GiveWay old new touched laid) (round : Surround blocks touched (IsLostBy blocks touched laid) around)
  where
    -- the tile of a laid piece
    placed-tile : (entry : LaidTile) → Contains laid entry → tile_in new entry.id ≡ Some (placed_at entry.piece (tile_in old entry.id))
    placed-tile entry found = All-contains (λ (e : LaidTile). tile_in new e.id ≡ Some (placed_at e.piece (tile_in old e.id))) laid entry ways.placed found

    -- each tile lies as its block
    placed-entry : (entry : LaidTile) → Contains laid entry → ArePlaced (tile_in new entry.id) (replaced blocks touched laid entry.id)
    placed-entry entry found =
        ArePlaced-placed_at (tile_in new entry.id) (replaced blocks touched laid entry.id) entry.piece (tile_in old entry.id) (placed-tile entry found) (replaced-entry blocks touched laid entry may.once found)

    pub placed-replaced : (key : ℕ) → ArePlaced (tile_in new key) (replaced blocks touched laid key)
    placed-replaced key = elim (cases_Contains (keys_of laid) key) [
      | inl listed ↦
          let (entry, found, is) = entry-keys_of laid key listed in
          subst (λ k. ArePlaced (tile_in new k) (replaced blocks touched laid k)) is (placed-entry entry found)
      | inr unlisted ↦ elim (cases_Contains touched key) [
        | inl found ↦ subst₂ ArePlaced (sym (ways.gone key found unlisted)) (sym (replaced-gone blocks touched laid key found unlisted)) refl
        | inr kept ↦ subst₂ ArePlaced (sym (ways.kept key kept unlisted)) (sym (replaced-kept blocks touched laid key kept unlisted)) (tiled.placed key)
      ]
    ]

    -- a listed tile has its piece
    laid-around : All (IsLaid (replaced blocks touched laid)) around
    laid-around k d within = replaced-stays blocks touched laid may (get_or around k d).id (get_or around k d).piece (round.apart k d within) (round.each k d within)

    laid-fresh : All (IsLaid (replaced blocks touched laid)) laid
    laid-fresh k d within = replaced-entry blocks touched laid (get_or laid k d) may.once (Contains-get_or laid k d within)

    -- a square of a touched tile is one of a laid tile
    covered : (at : Point) → IsHeld blocks touched at → (entry : LaidTile) × Contains laid entry × IsTrue (holds entry.piece.rect at.x at.y)
    covered at held = entry-held blocks touched laid may at held

    -- a tile that waits for its stitch to the square finds it
    found-listed :
        (entry : LaidTile) (at : Point) → Contains laid entry → IsHeld blocks touched at ⊎ Any (λ e. IsTrue (holds e.piece.rect at.x at.y)) around → AreListed around laid entry.id at
    found-listed entry at found place =
        let here = keys_of-listed laid entry found in
        elim place [
          | inl held ↦
              let (other, there, inside) = covered at held in
              inl (here, Any-contained (λ e. IsTrue (holds e.piece.rect at.x at.y)) (around ++ laid) other (Contains-append_right around laid other there) inside)
          | inr (k, tile, within, same, in_tile) ↦
              inl (here, Any-contained (λ e. IsTrue (holds e.piece.rect at.x at.y)) (around ++ laid) tile (Contains-append_left around laid tile (k, within, same)) in_tile)
        ]

    -- a square of a laid piece was the tile's under its key, or is lost
    lost-entry :
        (entry : LaidTile) (p : Point) → Contains laid entry → holds entry.piece.rect p.x p.y ≡ true → ¬ (HoldsAt blocks entry.id p) → IsLostBy blocks touched laid p
    lost-entry entry p found inside not_own =
        let (k, key, within, is, held) = held-entry blocks touched laid may entry p found inside in
        record {
          key = key;
          touches = (k, within, is);
          held = held;
          outside = λ other there same. false_from_ne_true _ (λ in_other.
              let one : other ≡ entry = one_entry blocks touched laid may other entry p there found in_other inside in
              not_own (subst (λ n. HoldsAt blocks n p) (sym same ∙ ap (λ (e : LaidTile). e.id) one) held));
        }

    -- the stitch of a tile with a new key waits, if it is to lead anywhere
    pending-new :
        (entry : LaidTile) (tile : Tile) (stitch : Stitch) → Contains laid entry → tile_in old entry.id ≡ None → stitch_of stitch tile ≡ None
        → IsRightOrListed (replaced blocks touched laid) around laid entry.id tile entry.piece stitch
    pending-new entry tile stitch found unused none =
        let at = beyond stitch entry.piece.rect in
        let no_block : blocks entry.id ≡ None = none_placed (tile_in old entry.id) (blocks entry.id) (tiled.placed entry.id) unused in
        elim (cases_Bool (holds world at.x at.y)) [
          | inl inside ↦
              let p : Point = corner_square stitch entry.piece.rect in
              let (in_piece, close) = corner_close stitch world entry.piece.rect (legal-entry blocks touched laid may entry found) in
              let not_own : ¬ (HoldsAt blocks entry.id p) = λ held. let (block, is, in_block) = there-IsSomeAnd (blocks entry.id) (λ b. holds b.rect p.x p.y ≡ true) held in none-some block (sym no_block ∙ is) in
              inr (found-listed entry at found (round.whole p at (lost-entry entry p found in_piece not_own) close inside))
          | inr outside ↦ inl (subst (λ s. LeadsTo (replaced blocks touched laid) s at) (sym none) outside)
        ]

    -- a stitch that leads where it did stays right, or waits if its square was touched
    pending-same :
        (entry : LaidTile) (slot : Option ℕ) (at : Point) → Contains laid entry → LeadsTo blocks slot at
        → LeadsTo (replaced blocks touched laid) slot at ⊎ AreListed around laid entry.id at
    pending-same entry None at found leads = inl leads
    pending-same entry (Some other) at found leads = elim (cases_Contains touched other) [
      | inl (k, within, same) ↦ inr (found-listed entry at found (inl (k, other, within, same, leads)))
      | inr kept ↦ inl (HoldsAt-stays blocks touched laid may other at kept leads)
    ]

    -- a square of the tile under a laid piece's key that the piece doesn't have is lost
    lost-own :
        (entry : LaidTile) (p : Point) → Contains laid entry → Contains touched entry.id → HoldsAt blocks entry.id p → holds entry.piece.rect p.x p.y ≡ false → IsLostBy blocks touched laid p
    lost-own entry p found touches held out = record {
      key = entry.id;
      touches = touches;
      held = held;
      outside = λ other there same. subst (λ (e : LaidTile). holds e.piece.rect p.x p.y ≡ false) (sym (entry_same laid other entry may.once there found same)) out;
    }

    -- the stitch that a tile had as it moves to a piece stays right, or waits, if it is to lead anywhere
    pending-inside :
        (entry : LaidTile) (block : Piece) (stitch : Stitch) (slot : Option ℕ) → Contains laid entry → blocks entry.id ≡ Some block → LeadsTo blocks slot (beyond stitch block.rect)
        → holds world (beyond stitch entry.piece.rect).x (beyond stitch entry.piece.rect).y ≡ true
        → LeadsTo (replaced blocks touched laid) slot (beyond stitch entry.piece.rect)
        ⊎ AreListed around laid entry.id (beyond stitch entry.piece.rect)
    pending-inside entry block stitch slot found here leads inside =
        let e = entry.piece.rect in
        let at = beyond stitch e in
        let legal = legal-entry blocks touched laid may entry found in
        let p : Point = corner_square stitch e in
        let (in_piece, close) = corner_close stitch world e legal in
        let touches : Contains touched entry.id = elim (All-contains (λ t. Contains touched t.id ⊎ (blocks t.id ≡ None)) laid entry may.unused found) [
          | inl there ↦ there
          | inr none ↦ absurd (none-some block (sym none ∙ here))
        ] in
        elim (cases_Bool (holds block.rect p.x p.y)) [
          | inr out ↦
              let not_own : ¬ (HoldsAt blocks entry.id p) = λ held. both_ways _ out (holds-HoldsAt blocks entry.id block p here held) in
              inr (found-listed entry at found (round.whole p at (lost-entry entry p found in_piece not_own) close inside))
          | inl own ↦ elim (cases_Bool (holds block.rect at.x at.y)) [
            | inl held ↦ inr (found-listed entry at found (inl (Any-contained (λ k. HoldsAt blocks k at) touched entry.id touches (HoldsAt-block blocks entry.id block at here held))))
            | inr beyond_it ↦ elim (beyond_moved stitch block.rect e legal own beyond_it) [
              | inl same ↦ pending-same entry slot at found (subst (LeadsTo blocks slot) (sym same) leads)
              | inr beside ↦
                  let lost = lost-own entry beside.square found touches (HoldsAt-block blocks entry.id block beside.square here beside.inside) beside.outside in
                  inr (found-listed entry at found (round.whole beside.square at lost beside.close inside))
            ]
          ]
        ]

    -- so does each of its stitches
    pending-moved :
        (entry : LaidTile) (tile before : Tile) (block : Piece) (stitch : Stitch) → Contains laid entry → blocks entry.id ≡ Some block
        → LeadsTo blocks (stitch_of stitch before) (beyond stitch block.rect) → stitch_of stitch tile ≡ inside_only (beyond stitch entry.piece.rect) (stitch_of stitch before)
        → IsRightOrListed (replaced blocks touched laid) around laid entry.id tile entry.piece stitch
    pending-moved entry tile before block stitch found here leads is =
        let at = beyond stitch entry.piece.rect in
        elim (cases_Bool (holds world at.x at.y)) [
          | inl inside ↦
              let kept : stitch_of stitch tile ≡ stitch_of stitch before = is ∙ ap (λ b. cond b (stitch_of stitch before) None) inside in
              subst (λ slot. LeadsTo (replaced blocks touched laid) slot at ⊎ AreListed around laid entry.id at) (sym kept)
              (pending-inside entry block stitch (stitch_of stitch before) found here leads inside)
          | inr outside ↦
              let none : stitch_of stitch tile ≡ None = is ∙ ap (λ b. cond b (stitch_of stitch before) None) outside in
              inl (subst (λ slot. LeadsTo (replaced blocks touched laid) slot at) (sym none) outside)
        ]

    -- so does that of each laid tile
    pending-laid :
        (entry : LaidTile) (tile : Tile) (stitch : Stitch) → Contains laid entry → tile_in new entry.id ≡ Some tile
        → IsRightOrListed (replaced blocks touched laid) around laid entry.id tile entry.piece stitch
    pending-laid entry tile stitch found is_tile = elim (cases_Option (tile_in old entry.id)) [
      | inl unused ↦
          let is : tile ≡ unstitched entry.piece = same_Some tile (unstitched entry.piece) (sym is_tile ∙ placed-tile entry found ∙ ap (λ o. Some (placed_at entry.piece o)) unused) in
          pending-new entry tile stitch found unused (ap (stitch_of stitch) is ∙ stitch_of-unstitched stitch entry.piece)
      | inr (before, there) ↦
          let is : tile ≡ moved_tile entry.piece before = same_Some tile (moved_tile entry.piece before) (sym is_tile ∙ placed-tile entry found ∙ ap (λ o. Some (placed_at entry.piece o)) there) in
          let (block, here, placed) = placed_block old blocks entry.id before (tiled.placed entry.id) there in
          pending-moved entry tile before block stitch found here (tiled.stitched entry.id before block stitch there here) (ap (stitch_of stitch) is ∙ stitch_of-moved stitch entry.piece before)
    ]

    -- an untouched tile that has a square close to one that is lost is listed
    listed-close :
        (key : ℕ) (block : Piece) (p q : Point) → ¬ (Contains touched key) → blocks key ≡ Some block → holds block.rect q.x q.y ≡ true → AreClose p q → IsLostBy blocks touched laid p
        → Contains (keys_of around) key
    listed-close key block p q kept is inside close lost =
        let held_here = HoldsAt-block blocks key block q is inside in
        elim (round.whole p q lost close (holds_outer world block.rect q.x q.y (legal-AreBlocks blocks key block tiled.tiling is) inside)) [
          | inl touched_here ↦ absurd (kept (held-touched blocks touched laid may tiled.tiling key q touched_here held_here))
          | inr (k, tile, within, same, in_tile) ↦
              let tile_is = All-contains (λ e. blocks e.id ≡ Some e.piece) around tile round.each (k, within, same) in
              let key_is : tile.id ≡ key = tiled.tiling.apart tile.id key q (HoldsAt-block blocks tile.id tile.piece q tile_is in_tile) held_here in
              subst (Contains (keys_of around)) key_is (keys_of-listed around tile (k, within, same))
        ]

    -- a square of a touched tile is lost, or the piece under its key has it
    lost_or_kept : (other : ℕ) (at : Point) → Contains touched other → HoldsAt blocks other at → IsLostBy blocks touched laid at ⊎ HoldsAt (replaced blocks touched laid) other at
    lost_or_kept other at touches held = elim (cases_Contains (keys_of laid) other) [
      | inl listed ↦
          let (entry, found, is) = entry-keys_of laid other listed in
          elim (cases_Bool (holds entry.piece.rect at.x at.y)) [
            | inl inside ↦ inr (subst (λ n. HoldsAt (replaced blocks touched laid) n at) is (HoldsAt-entry blocks touched laid may entry at found inside))
            | inr out ↦ inl (lost-own entry at found (subst (Contains touched) (sym is) touches) (subst (λ n. HoldsAt blocks n at) (sym is) held) out)
          ]
      | inr unlisted ↦ inl (record {
        key = other;
        touches = touches;
        held = held;
        outside = λ entry found same. absurd (unlisted (subst (Contains (keys_of laid)) same (keys_of-listed laid entry found)));
      })
    ]

    -- an untouched tile's stitch stays right, unless its square is lost
    pending-stitch :
        (key : ℕ) (block : Piece) (stitch : Stitch) (slot : Option ℕ) → ¬ (Contains touched key) → blocks key ≡ Some block → LeadsTo blocks slot (beyond stitch block.rect)
        → LeadsTo (replaced blocks touched laid) slot (beyond stitch block.rect)
        ⊎ AreListed around laid key (beyond stitch block.rect)
    pending-stitch key block stitch None kept is leads = inl leads
    pending-stitch key block stitch (Some other) kept is leads = elim (cases_Contains touched other) [
      | inl (k, within, same) ↦
          let at = beyond stitch block.rect in
          let held : IsHeld blocks touched at = (k, other, within, same, leads) in
          elim (lost_or_kept other at (k, within, same) leads) [
            | inl lost ↦
                let p : Point = corner_square stitch block.rect in
                let (in_block, close) = corner_close stitch world block.rect (legal-AreBlocks blocks key block tiled.tiling is) in
                let (entry, found, inside) = covered at held in
                inr (inr (
                  listed-close key block at p kept is in_block (close_back p at close) lost,
                  Any-contained (λ e. IsTrue (holds e.piece.rect at.x at.y)) laid entry found inside,
                ))
            | inr stays ↦ inl stays
          ]
      | inr other_kept ↦ inl (HoldsAt-stays blocks touched laid may other (beyond stitch block.rect) other_kept leads)
    ]

    pending :
        (key : ℕ) (tile : Tile) (block : Piece) (stitch : Stitch) → tile_in new key ≡ Some tile → replaced blocks touched laid key ≡ Some block
        → IsRightOrListed (replaced blocks touched laid) around laid key tile block stitch
    pending key tile block stitch is_tile is_block = elim (replaced_cases blocks touched laid key block is_block) [
      | inl found ↦ pending-laid (record { id = key; piece = block }) tile stitch found is_tile
      | inr (kept, is_kept) ↦
          let old_tile : tile_in old key ≡ Some tile = sym (ways.kept key kept (kept-unlisted blocks touched laid may key block kept is_kept)) ∙ is_tile in
          pending-stitch key block stitch (stitch_of stitch tile) kept is_kept (tiled.stitched key tile block stitch old_tile is_kept)
    ]

    -- so the tiles wait for their stitches
    pub AwaitStitches-replaced : AwaitStitches new (replaced blocks touched laid) around laid
    AwaitStitches-replaced = record {
      place = record { tiling = AreBlocks-replaced blocks touched laid may tiled.tiling; placed = placed-replaced };
      laid_around = laid-around;
      laid_fresh = laid-fresh;
      pending = pending;
    }
