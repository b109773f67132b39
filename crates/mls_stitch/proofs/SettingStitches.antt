-- What one stitch that is set changes.
use Rattle.std.proofs.Common.{◌≡◌, ◌≢◌, ◌⊎◌, ℕ, List, get_or, All, Option, Some, IfSome, IsSome, sym, refl, subst, ◌∙◌, arith, inl, inr}
use Rattle.mls_stitch.proofs.Common.{IsPermutation, cases_order, All-permutation, same_Some, Piece, Pool, Changes, tile_at, tile_in, tiles_of, Tile, AreInPlace, AreLed, IsLed, IsStitchedAt, KeepStitches, HoldsAt, beyond, stitch_of, with_stitch, ArePlaced, ChangesOnly, IsPlaced, LaidTile, Stitch, Lb, Bl, Tr, Rt}
use Rattle.mls_stitch.proofs.PoolChanges.{ChangesOnly-one}
use Rattle.mls_stitch.proofs.Sides.{placed_tile}

-- the stitch that is set, and the others
stitch_of-with_stitch : (stitch : Stitch) (to : Option ℕ) (tile : Tile) → stitch_of stitch (with_stitch stitch to tile) ≡ to
stitch_of-with_stitch Lb to tile = refl
stitch_of-with_stitch Bl to tile = refl
stitch_of-with_stitch Tr to tile = refl
stitch_of-with_stitch Rt to tile = refl

with_stitch_cases : (stitch other : Stitch) (to : Option ℕ) (tile : Tile) → (other ≡ stitch) ⊎ (stitch_of other (with_stitch stitch to tile) ≡ stitch_of other tile)
with_stitch_cases Lb Lb to tile = inl refl
with_stitch_cases Lb Bl to tile = inr refl
with_stitch_cases Lb Tr to tile = inr refl
with_stitch_cases Lb Rt to tile = inr refl
with_stitch_cases Bl Lb to tile = inr refl
with_stitch_cases Bl Bl to tile = inl refl
with_stitch_cases Bl Tr to tile = inr refl
with_stitch_cases Bl Rt to tile = inr refl
with_stitch_cases Tr Lb to tile = inr refl
with_stitch_cases Tr Bl to tile = inr refl
with_stitch_cases Tr Tr to tile = inl refl
with_stitch_cases Tr Rt to tile = inr refl
with_stitch_cases Rt Lb to tile = inr refl
with_stitch_cases Rt Bl to tile = inr refl
with_stitch_cases Rt Tr to tile = inr refl
with_stitch_cases Rt Rt to tile = inl refl

-- the tile stays in its place
IsPlaced-with_stitch : (stitch : Stitch) (to : Option ℕ) (tile : Tile) (block : Piece) → IsPlaced tile block → IsPlaced (with_stitch stitch to tile) block
IsPlaced-with_stitch Lb to tile block placed = record { left = placed.left; bottom = placed.bottom; kind = placed.kind }
IsPlaced-with_stitch Bl to tile block placed = record { left = placed.left; bottom = placed.bottom; kind = placed.kind }
IsPlaced-with_stitch Tr to tile block placed = record { left = placed.left; bottom = placed.bottom; kind = placed.kind }
IsPlaced-with_stitch Rt to tile block placed = record { left = placed.left; bottom = placed.bottom; kind = placed.kind }

-- one stitch of the tile under one key is set
pub record IsSet (stitch : Stitch) (old new : List (ℕ × Tile)) (key to : ℕ) (tile : Tile) : Type 0 where
  pub was : tile_in old key ≡ Some tile
  pub set : tile_in new key ≡ Some (with_stitch stitch (Some to) tile)
  pub others : (other : ℕ) → other ≢ key → tile_in new other ≡ tile_in old other

-- any fact of each key is one of this key, and of the others
by_key : (P : ℕ → Type 0) (key : ℕ) → P key → ((other : ℕ) → other ≢ key → P other) → (other : ℕ) → P other
by_key P key here elsewhere other = elim (cases_order other key) [
  | inl same ↦ subst P (sym same) here
  | inr (inl less) ↦ elsewhere other (λ same. omega (arith, less, same))
  | inr (inr more) ↦ elsewhere other (λ same. omega (arith, more, same))
]

-- the tiles stay in their places
placed_after :
    {stitch : Stitch} {old new : List (ℕ × Tile)} {key to : ℕ} {tile : Tile} (blocks : ℕ → Option Piece) → IsSet stitch old new key to tile
    → ((other : ℕ) → ArePlaced (tile_in old other) (blocks other)) → (other : ℕ) → ArePlaced (tile_in new other) (blocks other)
placed_after {stitch} {old} {new} {key} {to} {tile} blocks change placed =
    by_key (λ other. ArePlaced (tile_in new other) (blocks other)) key
    (rw change.set (let (block, is, here) = rw change.was at (placed key) in (block, is, IsPlaced-with_stitch stitch (Some to) tile block here)))
    (λ other differs. rw (change.others other differs) (placed other))

-- each stitch that is right is still right
stitched_after :
    {stitch : Stitch} {old new : List (ℕ × Tile)} {key to : ℕ} {tile : Tile} (blocks : ℕ → Option Piece) (block : Piece) → IsSet stitch old new key to tile
    → blocks key ≡ Some block → HoldsAt blocks to (beyond stitch block.rect)
    → (other : Stitch) (k : ℕ) → IsStitchedAt old blocks other k → IsStitchedAt new blocks other k
stitched_after {stitch} {old} {new} {key} {to} {tile} blocks block change laid held other =
    by_key (λ k. IsStitchedAt old blocks other k → IsStitchedAt new blocks other k) key
    (λ right now shape is laid_too.
    let now_is : with_stitch stitch (Some to) tile ≡ now = same_Some (with_stitch stitch (Some to) tile) now (sym change.set ∙ is) in
    let shape_is : block ≡ shape = same_Some block shape (sym laid ∙ laid_too) in
    elim (with_stitch_cases stitch other (Some to) tile) [
      | inl one ↦ rw (← now_is, ← shape_is, one, stitch_of-with_stitch) held
      | inr apart ↦ rw (← now_is, apart) (right tile shape change.was laid_too)
    ])
    (λ k differs right now shape is. right now shape (sym (change.others k differs) ∙ is))

-- and the stitch that is set is right
pub set_is_right :
    {stitch : Stitch} {old new : List (ℕ × Tile)} {key to : ℕ} {tile : Tile} (blocks : ℕ → Option Piece) (block : Piece) → IsSet stitch old new key to tile
    → blocks key ≡ Some block → HoldsAt blocks to (beyond stitch block.rect) → IsStitchedAt new blocks stitch key
set_is_right {stitch} {to} {tile} blocks block change laid held = λ now shape is laid_too.
    let now_is : with_stitch stitch (Some to) tile ≡ now = same_Some (with_stitch stitch (Some to) tile) now (sym change.set ∙ is) in
    let shape_is : block ≡ shape = same_Some block shape (sym laid ∙ laid_too) in
    rw (← now_is, ← shape_is, stitch_of-with_stitch) held

-- the tiles lie in place still
pub KeepStitches-set :
    {stitch : Stitch} {old new : List (ℕ × Tile)} {key to : ℕ} {tile : Tile} {blocks : ℕ → Option Piece} (block : Piece) → IsSet stitch old new key to tile
    → blocks key ≡ Some block → HoldsAt blocks to (beyond stitch block.rect) → AreInPlace old blocks → KeepStitches old new blocks
KeepStitches-set {blocks} block change laid held place = record {
  place = record { tiling = place.tiling; placed = placed_after blocks change place.placed };
  kept = λ other key. stitched_after blocks block change laid held other key;
}

pub KeepStitches-refl : {tiles : List (ℕ × Tile)} {blocks : ℕ → Option Piece} → AreInPlace tiles blocks → KeepStitches tiles tiles blocks
KeepStitches-refl place = record { place = place; kept = λ stitch key right. right }

pub KeepStitches-trans : {a b c : List (ℕ × Tile)} {blocks : ℕ → Option Piece} → KeepStitches a b blocks → KeepStitches b c blocks → KeepStitches a c blocks
KeepStitches-trans first second = record { place = second.place; kept = λ stitch key right. second.kept stitch key (first.kept stitch key right) }

-- tiles that lead where they are to lead do so still, and their order is free
pub AreLed-later :
    {old new : List (ℕ × Tile)} {blocks : ℕ → Option Piece} {from from' to to' : List LaidTile} (stitch : Stitch) → KeepStitches old new blocks → IsPermutation from from' → IsPermutation to to'
    → AreLed old blocks stitch from to → AreLed new blocks stitch from' to'
AreLed-later {old} {new} {blocks} {from} {from'} {to} {to'} stitch keeps moved moved_to led =
    All-permutation (λ tile. All (λ other. IsLed new blocks stitch tile other) to') from from' moved
    (λ k d within. All-permutation (λ other. IsLed new blocks stitch (get_or from k d) other) to to' moved_to
    (λ i e inside leads. keeps.kept stitch (get_or from k d).id (led k d within i e inside leads)))

-- a listed tile is there
pub laid_there : {tiles : List (ℕ × Tile)} {blocks : ℕ → Option Piece} (key : ℕ) (block : Piece) → AreInPlace tiles blocks → blocks key ≡ Some block → IsSome (tile_in tiles key)
laid_there {tiles} {blocks} key block place laid = let (tile, there, here) = placed_tile tiles blocks key block (place.placed key) laid in rw there refl

-- so its stitch is set, and nothing of other owners changes
pub set_there :
    {old new : Pool} {owner key to : ℕ} {blocks : ℕ → Option Piece} (stitch : Stitch) (block : Piece) → AreInPlace (tiles_of old owner) blocks → blocks key ≡ Some block
    → IfSome (tile_at old owner key) (λ tile. Changes old new owner key (Some (with_stitch stitch (Some to) tile)))
    → (tile : Tile) × IsSet stitch (tiles_of old owner) (tiles_of new owner) key to tile × ChangesOnly old new owner
set_there {old} {owner} {key} {blocks} stitch block place laid changes =
    let (tile, there, here) = placed_tile (tiles_of old owner) blocks key block (place.placed key) laid in
    let change = rw there at changes in
    (tile, record { was = there; set = change.changed; others = change.kept }, ChangesOnly-one change)
