-- Tiles that are laid before their stitches lead where they are to lead, and the tiles around them. No public contract names these.
use Rattle.std.specs.Prelude.{◌≡◌, ◌≢◌, ◌⊎◌, ℕ, ◌+◌, ◌<◌, ◌≤◌, ◌==◌, not, false, if◌then◌else◌, filter, List, ◌++◌, length, map, slice_get, Option, Some, None, IsTrue, IfSome}
use Rattle.std.specs.List.{All, Any, AllPairs, Contains, list_any}
use Rattle.mls_geom.specs.Rects.{Point, holds}
use Rattle.mls_geom.specs.World.{world}
use Rattle.mls_geom.specs.declared.piece.Piece.{Piece}
use Rattle.mls_tilepool.specs.Pools.{tile_in}
use Rattle.mls_tilepool.specs.declared.tile.Tile.{Tile}
use Rattle.mls_stitch.specs.Pending.{keys_of}
use Rattle.mls_stitch.specs.Replacements.{IsHeld}
use Rattle.mls_stitch.specs.Stitches.{HoldsAt, beyond}
use Rattle.mls_stitch.specs.declared.laid_tile.LaidTile.{LaidTile}
use Rattle.mls_stitch.specs.declared.stitch.Stitch.TheVariants.{Lb, Bl, Tr, Rt}

-- the tile of a piece, with no stitch
abbrev pub unstitched : Piece → Tile
unstitched piece = record { corner = record { x = piece.rect.left; y = piece.rect.bottom }; kind = piece.kind; lb = None; bl = None; tr = None; rt = None }

-- the stitch, where its square lies in the world
abbrev pub inside_only : Point → Option ℕ → Option ℕ
inside_only at to = if holds world at.x at.y then to else None

-- the tile with the corner and the kind of a piece, and with those of its stitches that lead into the world from there
abbrev pub moved_tile : Piece → Tile → Tile
moved_tile piece tile = record {
  corner = record { x = piece.rect.left; y = piece.rect.bottom };
  kind = piece.kind;
  lb = inside_only (beyond Lb piece.rect) tile.lb;
  bl = inside_only (beyond Bl piece.rect) tile.bl;
  tr = inside_only (beyond Tr piece.rect) tile.tr;
  rt = inside_only (beyond Rt piece.rect) tile.rt;
}

-- the tile of a piece under a key: the one that was there has moved to it, and where there was none it has no stitch
abbrev pub placed_at : Piece → Option Tile → Tile
placed_at piece None = unstitched piece
placed_at piece (Some tile) = moved_tile piece tile

-- the tiles under the touched keys have given way to these, each of which lies where its piece does; all others are as they were
pub record GiveWay (old new : List (ℕ × Tile)) (touched : List ℕ) (laid : List LaidTile) : Type 0 where
  pub placed : All (λ entry. tile_in new entry.id ≡ Some (placed_at entry.piece (tile_in old entry.id))) laid
  pub once : AllPairs (λ p q. p.id ≢ q.id) laid
  pub unused : All (λ entry. Contains touched entry.id ⊎ (tile_in old entry.id ≡ None)) laid
  pub gone : (key : ℕ) → Contains touched key → ¬ (Contains (keys_of laid) key) → tile_in new key ≡ None
  pub kept : (key : ℕ) → ¬ (Contains touched key) → ¬ (Contains (keys_of laid) key) → tile_in new key ≡ tile_in old key
  pub count : length new + length touched ≡ length old + length laid

-- the tiles under the touched keys have given way to the fresh pieces, whose tiles have been added to a list; the touched keys serve again as far as
-- they go
pub record Lays (old new : List (ℕ × Tile)) (touched : List ℕ) (fresh : List Piece) (before after : List LaidTile) : Type 0 where
  pub laid : List LaidTile
  pub listed : after ≡ before ++ laid
  pub pieces : map (λ entry. entry.piece) laid ≡ fresh
  pub ways : GiveWay old new touched laid
  pub again : (i : ℕ) → i < length touched → i < length fresh → slice_get (keys_of laid) i ≡ slice_get touched i

-- the found tiles whose keys aren't listed
abbrev pub unlisted_of : List ℕ → List LaidTile → List LaidTile
unlisted_of keys found = filter (λ tile. not (list_any (λ key. key == tile.id) keys)) found

-- the list has tiles of the other one, and each key of it
pub record KeepsKeys (before after : List LaidTile) : Type 0 where
  pub tiles : All (Contains before) after
  pub keys : All (λ tile. Contains (keys_of after) tile.id) before

-- the squares are one, or share a side or a corner
pub record AreClose (p q : Point) : Type 0 where
  pub left : p.x ≤ q.x + 1
  pub right : q.x ≤ p.x + 1
  pub below : p.y ≤ q.y + 1
  pub above : q.y ≤ p.y + 1

-- the touched tile at this place has the square, and the piece to which its key goes doesn't
pub record IsLost (blocks : ℕ → Option Piece) (touched : List ℕ) (fresh : List Piece) (at : Point) : Type 0 where
  pub place : ℕ
  pub key : ℕ
  pub there : slice_get touched place ≡ Some key
  pub held : HoldsAt blocks key at
  pub outside : IfSome (slice_get fresh place) (λ piece. holds piece.rect at.x at.y ≡ false)

-- the list has tiles other than the touched ones, and among them each that has a square close to one of these
pub record Surround (blocks : ℕ → Option Piece) (touched : List ℕ) (squares : Point → Type 0) (list : List LaidTile) : Type 0 where
  pub each : All (λ tile. blocks tile.id ≡ Some tile.piece) list
  pub apart : All (λ tile. ¬ (Contains touched tile.id)) list
  pub whole : (p at : Point) → squares p → AreClose p at → IsTrue (holds world at.x at.y)
      → IsHeld blocks touched at ⊎ Any (λ tile. IsTrue (holds tile.piece.rect at.x at.y)) list
