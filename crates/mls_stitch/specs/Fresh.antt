-- Blocks by replacement. No public contract names these.
use Rattle.std.specs.Prelude.{◌≡◌, ◌≢◌, ◌⊎◌, ℕ, ◌==◌, if◌then◌else◌, List, [], ◌∷◌, map, Option, Some, None}
use Rattle.std.specs.List.{All, AllPairs, Contains, list_any}
use Rattle.std.specs.Option.{option_or}
use Rattle.mls_geom.specs.declared.piece.Piece.{Piece}
use Rattle.mls_stitch.specs.Replacements.{TakePlace}
use Rattle.mls_stitch.specs.declared.laid_tile.LaidTile.{LaidTile}

-- the piece of the listed tile with this key
abbrev pub fresh_at : List LaidTile → ℕ → Option Piece
fresh_at [] key = None
fresh_at (entry ∷ laid) key = if entry.id == key then Some entry.piece else fresh_at laid key

-- a key's block, unless the key is touched
abbrev pub untouched : (ℕ → Option Piece) → List ℕ → ℕ → Option Piece
untouched blocks touched key = if list_any (λ k. k == key) touched then None else blocks key

-- the blocks after the touched tiles have given way to the listed ones
abbrev pub replaced : (ℕ → Option Piece) → List ℕ → List LaidTile → ℕ → Option Piece
replaced blocks touched laid key = option_or (fresh_at laid key) (untouched blocks touched key)

-- the listed tiles may take the places of the touched ones: their pieces have exactly the same squares, and each has a key of its own that is touched
-- or unused
pub record MayReplace (blocks : ℕ → Option Piece) (touched : List ℕ) (laid : List LaidTile) : Type 0 where
  pub takes : TakePlace blocks touched (map (λ entry. entry.piece) laid)
  pub once : AllPairs (λ p q. p.id ≢ q.id) laid
  pub unused : All (λ entry. Contains touched entry.id ⊎ (blocks entry.id ≡ None)) laid
