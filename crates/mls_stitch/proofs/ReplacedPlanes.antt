-- Fresh tiles laid in place of touched ones, and stitched with those around them.
use Rattle.std.proofs.Common.{◌≡◌, ◌≢◌, ℕ, ◌<◌, ◌≤◌, true, false, List, ◌++◌, drop, length, map, take, get_or, Option, Some, None, IsSome, All, AllPairs, Contains, slice_get, refl, sym, ap, ◌∙◌, subst, subst₂, arith}
use Rattle.mls_stitch.proofs.Common.{option_map, get_or_default, length-map, none-some, same_Some, slice_get-get_or, slice_get-map, slice_get_within, Point, holds, Piece, Contains-map, tile_in, Tile, MayReplace, replaced, AwaitStitches, keys_of, IsLost, Lays, Surround, Replaces, TakePlace, AreTiledAs, IsPlane, block_at, block_of, laid_at, LaidTile}
use Rattle.std.proofs.Math.Seq.{drop-append_seam, take-append_seam}
use Rattle.mls_tilepool.proofs.TileLists.{tile_in_contains}
use Rattle.mls_stitch.proofs.AroundTiles.{Surround-fewer}
use Rattle.mls_stitch.proofs.DistinctNumbers.{length-le-AllPairs}
use Rattle.mls_stitch.proofs.FreshTiles.{IfSome-each}
use Rattle.mls_stitch.proofs.Laying.{Lays-count}
use Rattle.mls_stitch.proofs.ReplacedStitches.{AwaitStitches-replaced, IsLostBy, MayReplace-GiveWay}
use Rattle.mls_stitch.proofs.ReplacedTiles.{Replaces-replaced}
use Rattle.mls_stitch.proofs.ShownTiles.{KeysDiffer}

-- nothing is not something
no_value : false ≡ true → ⊥
no_value e = cc

-- where there is a block there is a tile
there-block : (tiles : List (ℕ × Tile)) (slot : Option Tile) → IsSome (option_map (block_of tiles) slot) → (tile : Tile) × (slot ≡ Some tile)
there-block tiles None there = absurd (no_value there)
there-block tiles (Some tile) there = (tile, refl)

abbrev named : ℕ → Piece → LaidTile
named key piece = record { id = key; piece = piece }

there-laid : (key : ℕ) (block : Option Piece) → IsSome block → IsSome (option_map (named key) block)
there-laid key None there = absurd (no_value there)
there-laid key (Some p) there = refl

there-tile : (tiles : List (ℕ × Tile)) (slot : Option Tile) → IsSome slot → IsSome (option_map (block_of tiles) slot)
there-tile tiles None there = absurd (no_value there)
there-tile tiles (Some tile) there = refl

-- and a tile is there to be read
pub laid_there : (tiles : List (ℕ × Tile)) (key : ℕ) → IsSome (tile_in tiles key) → IsSome (laid_at tiles key)
laid_there tiles key there = there-laid key (block_at tiles key) (there-tile tiles (tile_in tiles key) there)

read_of : (key : ℕ) (block : Option Piece) (tile : LaidTile) → option_map (named key) block ≡ Some tile → (tile.id ≡ key) × (block ≡ Some tile.piece)
read_of key None tile is = absurd (none-some tile is)
read_of key (Some p) tile is =
    let same : named key p ≡ tile = same_Some (named key p) tile is in
    (sym (ap (λ (t : LaidTile). t.id) same), ap (λ (t : LaidTile). Some t.piece) same)

pub laid_as : (tiles : List (ℕ × Tile)) (key : ℕ) (tile : LaidTile) → laid_at tiles key ≡ Some tile → (tile.id ≡ key) × (block_at tiles key ≡ Some tile.piece)
laid_as tiles key tile is = read_of key (block_at tiles key) tile is

-- each of these keys has a tile
pub tiles_there : (tiles : List (ℕ × Tile)) (keys : List ℕ) → All (λ key. IsSome (block_at tiles key)) keys → All (λ key. IsSome (tile_in tiles key)) keys
tiles_there tiles keys there k d within = let (tile, is) = there-block tiles (tile_in tiles (get_or keys k d)) (there k d within) in rw is refl

-- so there are at most as many as tiles
pub touched_few : (tiles : List (ℕ × Tile)) (keys : List ℕ) → All (λ key. IsSome (block_at tiles key)) keys → AllPairs (λ a b. a ≢ b) keys → length keys ≤ length tiles
touched_few tiles keys there once =
    let firsts = map (λ (entry : ℕ × Tile). entry.0) tiles in
    let found : All (Contains firsts) keys = λ k d within.
    let (tile, is) = there-block tiles (tile_in tiles (get_or keys k d)) (there k d within) in
    Contains-map (λ (entry : ℕ × Tile). entry.0) tiles (get_or keys k d, tile) (tile_in_contains tiles (get_or keys k d) tile is) in
    omega (arith, length-le-AllPairs keys firsts once found, length-map tiles (λ (entry : ℕ × Tile). entry.0))

-- what the touched tiles lose to the pieces as they are laid they lose to the pieces that are to be laid
lost-listed :
    (blocks : ℕ → Option Piece) (touched : List ℕ) (fresh : List Piece) (laid : List LaidTile) (at : Point) → map (λ (e : LaidTile). e.piece) laid ≡ fresh
    → ((i : ℕ) → i < length touched → i < length fresh → slice_get (keys_of laid) i ≡ slice_get touched i) → IsLostBy blocks touched laid at → IsLost blocks touched fresh at
lost-listed blocks touched fresh laid at pieces again lost =
    let (place, within, is) = lost.touches in
    let there : slice_get touched place ≡ Some lost.key = slice_get-get_or touched place lost.key within ∙ ap Some is in
    record {
      place = place;
      key = lost.key;
      there = there;
      held = lost.held;
      outside = IfSome-each (slice_get fresh place) (λ piece. holds piece.rect at.x at.y ≡ false) (λ piece piece_is.
          let entry : LaidTile = get_or laid place (named lost.key piece) in
          let less : place < length laid = omega (arith, slice_get_within fresh place piece piece_is, ap length pieces, length-map laid (λ (e : LaidTile). e.piece)) in
          let found : Contains laid entry = (place, less, get_or_default laid place _ _ less) in
          let at_place : slice_get laid place ≡ Some entry = slice_get-get_or laid place (named lost.key piece) less in
          let its_piece : entry.piece ≡ piece =
          same_Some entry.piece piece (ap (option_map (λ (e : LaidTile). e.piece)) (sym at_place) ∙ sym (slice_get-map (λ (e : LaidTile). e.piece) laid place) ∙ ap (λ l. slice_get l place) pieces ∙ piece_is) in
          let its_key : entry.id ≡ lost.key =
          same_Some entry.id lost.key
          (ap (option_map (λ (e : LaidTile). e.id)) (sym at_place) ∙ sym (slice_get-map (λ (e : LaidTile). e.id) laid place) ∙ again place within (slice_get_within fresh place piece piece_is) ∙ there) in
          subst (λ (q : Piece). holds q.rect at.x at.y ≡ false) its_piece (lost.outside entry found its_key));
    }

module _
    (old mid : List (ℕ × Tile)) (touched : List ℕ) (fresh : List Piece) (around after : List LaidTile) (plane : IsPlane old) (takes : TakePlace (block_at old) touched fresh)
    (lays : Lays old mid touched fresh around after)
  where
    may : MayReplace (block_at old) touched lays.laid
    may = MayReplace-GiveWay old mid (block_at old) touched lays.laid plane.placed (subst (TakePlace (block_at old) touched) (sym lays.pieces) takes) lays.ways

    -- the fresh tiles and those around them wait for their stitches
    pub AwaitStitches-instead :
        Surround (block_at old) touched (IsLost (block_at old) touched fresh) around → AwaitStitches mid (replaced (block_at old) touched lays.laid) around lays.laid
    AwaitStitches-instead round =
        let round' =
        Surround-fewer (block_at old) touched (IsLost (block_at old) touched fresh) (IsLostBy (block_at old) touched lays.laid) around round
        (λ p lost. lost-listed (block_at old) touched fresh lays.laid p lays.pieces lays.again lost) in
        AwaitStitches-replaced old mid (block_at old) touched lays.laid around plane may lays.ways round'

    -- so do the two parts of their list, of which the first has as many tiles as lie around
    pub AwaitStitches-parted :
        Surround (block_at old) touched (IsLost (block_at old) touched fresh) around → (beside laid : List LaidTile) → after ≡ beside ++ laid → length beside ≡ length around
        → AwaitStitches mid (replaced (block_at old) touched lays.laid) beside laid
    AwaitStitches-parted round beside laid is long =
        let whole : beside ++ laid ≡ around ++ lays.laid = sym is ∙ lays.listed in
        let first : beside ≡ around = sym (take-append_seam beside laid) ∙ ap (take (length beside)) whole ∙ ap (λ n. take n (around ++ lays.laid)) long ∙ take-append_seam around lays.laid in
        let rest : laid ≡ lays.laid = sym (drop-append_seam beside laid) ∙ ap (drop (length beside)) whole ∙ ap (λ n. drop n (around ++ lays.laid)) long ∙ drop-append_seam around lays.laid in
        subst₂ (AwaitStitches mid (replaced (block_at old) touched lays.laid)) (sym first) (sym rest) (AwaitStitches-instead round)

    -- and once they are stitched, the touched tiles are replaced
    pub Replaces-instead :
        (new : List (ℕ × Tile)) → AreTiledAs new (replaced (block_at old) touched lays.laid) → KeysDiffer old → KeysDiffer new → length new ≡ length mid → Replaces old new touched fresh
    Replaces-instead new tiled differ differ_after same =
        Replaces-replaced old new touched lays.laid plane may tiled differ differ_after fresh lays.pieces lays.again (omega (arith, same, Lays-count lays))
