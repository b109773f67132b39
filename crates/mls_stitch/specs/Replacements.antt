-- Replacement: some tiles of a plane give way to pieces over exactly the same squares. This project's own; split and join (Ousterhout 1984) are
-- two cases of it.
use Rattle.std.specs.Prelude.{◌≡◌, ◌≢◌, ◌⊎◌, ◌↔◌, ℕ, ◌+◌, ◌<◌, IsTrue, IsSome, List, length, Option, Some, None, slice_get}
use Rattle.std.specs.List.{All, Any, AllPairs, AllZip, Contains}
use Rattle.mls_geom.specs.Rects.{Point, IsRectangleIn, holds}
use Rattle.mls_geom.specs.World.{world}
use Rattle.mls_geom.specs.Pictures.{overlaid}
use Rattle.mls_geom.specs.declared.piece.Piece.{Piece}
use Rattle.mls_tilepool.specs.Pools.{tile_in}
use Rattle.mls_tilepool.specs.declared.tile.Tile.{Tile}
use Rattle.mls_stitch.specs.Stitches.{HoldsAt, stitch_of}
use Rattle.mls_stitch.specs.Tilings.{IsPlane, block_at, shown}
use Rattle.mls_stitch.specs.declared.stitch.Stitch.{Stitch}

-- the rectangles share no square
abbrev pub AreDisjoint : Piece → Piece → Type 0
AreDisjoint p q = (at : Point) → IsTrue (holds p.rect at.x at.y) → IsTrue (holds q.rect at.x at.y) → ⊥

-- a key of the list has a block with the square
abbrev pub IsHeld : (ℕ → Option Piece) → List ℕ → Point → Type 0
IsHeld blocks keys at = Any (λ key. HoldsAt blocks key at) keys

-- the pieces have exactly the squares of the tiles under these keys, each once
pub record TakePlace (blocks : ℕ → Option Piece) (touched : List ℕ) (fresh : List Piece) : Type 0 where
  pub there : All (λ key. IsSome (blocks key)) touched
  pub once : AllPairs (λ a b. a ≢ b) touched
  pub legal : All (λ piece. IsRectangleIn world piece.rect) fresh
  pub apart : AllPairs AreDisjoint fresh
  pub same : (at : Point) → IsHeld blocks touched at ↔ Any (λ piece. IsTrue (holds piece.rect at.x at.y)) fresh

-- the stitch is as it was, or led to one of these keys
abbrev pub IsKeptUnless : List ℕ → Option ℕ → Option ℕ → Type 0
IsKeptUnless touched old new = (new ≡ old) ⊎ ((key : ℕ) × (old ≡ Some key) × Contains touched key)

-- a tile keeps its corner, its kind, and each stitch that did not lead to one of these keys
pub record IsKept (touched : List ℕ) (old new : Tile) : Type 0 where
  pub corner : new.corner ≡ old.corner
  pub kind : new.kind ≡ old.kind
  pub stitches : (stitch : Stitch) → IsKeptUnless touched (stitch_of stitch old) (stitch_of stitch new)

-- the tiles under the touched keys have given way to the pieces, and all other tiles stay
pub record Replaces (old new : List (ℕ × Tile)) (touched : List ℕ) (fresh : List Piece) : Type 0 where
  -- the keys of the pieces, one for each; the touched keys serve again as far as they go
  pub keys : List ℕ
  pub laid : AllZip (λ key piece. block_at new key ≡ Some piece) keys fresh
  pub again : (i : ℕ) → i < length touched → i < length fresh → slice_get keys i ≡ slice_get touched i
  -- every other tile stays where it is, with each stitch that did not lead into these squares
  pub kept : (key : ℕ) (tile : Tile) → tile_in old key ≡ Some tile → ¬ (Contains touched key) → (after : Tile) × (tile_in new key ≡ Some after) × IsKept touched tile after
  pub blocks : (key : ℕ) → ¬ (Contains touched key) → ¬ (Contains keys key) → block_at new key ≡ block_at old key
  pub unused : All (λ key. Contains touched key ⊎ (tile_in old key ≡ None)) keys
  pub gone : (key : ℕ) → Contains touched key → ¬ (Contains keys key) → tile_in new key ≡ None
  pub once : AllPairs (λ a b. a ≢ b) keys
  -- so the tiles are a plane again, with the pieces painted over it
  pub plane : IsPlane new
  pub picture : shown new ≡ overlaid (shown old) fresh
  pub count : length new + length touched ≡ length old + length fresh
