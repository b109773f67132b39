-- What changes where strips take the place of tiles: a tile that is itself one of the strips stays. No public contract names these.
use Rattle.std.specs.Prelude.{◌≡◌, ◌≢◌, ℕ, ◌+◌, Bool, ◌&&◌, not, ◌==◌, false, List, ◌++◌, filter, length, map}
use Rattle.std.specs.List.{AllPairs, Contains, list_any}
use Rattle.std.specs.List.Sorted.{IsPermutation}
use Rattle.mls_geom.specs.Locality.{AreCoveredStrips, HaveKinds, laid}
use Rattle.mls_geom.specs.Strips.{comes_before}
use Rattle.mls_geom.specs.World.{AreLegal, world}
use Rattle.mls_geom.specs.declared.piece.Piece.{Piece}
use Rattle.mls_stitch.specs.declared.laid_tile.LaidTile.{LaidTile}
use Rattle.mls_paint.specs.declared.changes.SortKey.{SortKey}

-- by what a piece is sorted: where it begins
abbrev pub sort_key_of : Piece → SortKey
sort_key_of piece = record { bottom = piece.rect.bottom; left = piece.rect.left }

-- the pieces have one rectangle and one kind
abbrev pub is_same : Piece → Piece → Bool
is_same p q =
    (p.rect.left == q.rect.left && (p.rect.bottom == q.rect.bottom && (p.rect.right == q.rect.right && p.rect.top == q.rect.top))) && p.kind == q.kind

-- the piece is one of these
abbrev pub is_among : List Piece → Piece → Bool
is_among pieces piece = list_any (λ other. is_same piece other) pieces

-- no two of the pieces have one lower-left corner
abbrev pub CornersDiffer : List Piece → Type 0
CornersDiffer pieces = AllPairs (λ p q. sort_key_of p ≢ sort_key_of q) pieces

-- the pieces stand by bottom and then left, and those with one lower-left corner are one
pub record AreInOrder (pieces : List Piece) : Type 0 where
  pub ordered : AllPairs (λ p q. comes_before q p ≡ false) pieces
  pub alike : (p q : Piece) → Contains pieces p → Contains pieces q → p.rect.left ≡ q.rect.left → p.rect.bottom ≡ q.rect.bottom → p ≡ q

-- the tiles that are none of the strips
abbrev pub gone_of : List LaidTile → List Piece → List LaidTile
gone_of tiles strips = filter (λ tile. not (is_among strips tile.piece)) tiles

-- the strips that are none of the pieces
abbrev pub put_of : List Piece → List Piece → List Piece
put_of strips pieces = filter (λ strip. not (is_among pieces strip)) strips

-- these are the names of the tiles that give way, and the strips that are put, in any order
pub record AreChanges (tiles : List LaidTile) (strips : List Piece) (names : List ℕ) (put : List Piece) : Type 0 where
  pub named : IsPermutation (map (λ tile. tile.id) (gone_of tiles strips)) names
  pub moved : IsPermutation (put_of strips (map (λ tile. tile.piece) tiles)) put

-- tiles of these names give way to the strips that are put where pieces are painted over the tiles
pub record IsWorkedOut (tiles : List LaidTile) (over : List Piece) (names : List ℕ) (put : List Piece) : Type 0 where
  pub kinds : HaveKinds (map (λ tile. tile.piece) tiles ++ over)
  pub legal : AreLegal over
  pub strips : List Piece
  pub covered : AreCoveredStrips world (laid (map (λ tile. tile.piece) tiles ++ over)) strips
  pub changes : AreChanges tiles strips names put
  pub number : length put + length tiles ≡ length strips + length names
