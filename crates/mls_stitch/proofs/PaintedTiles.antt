-- Painting keeps a plane maximal: where all tiles that painted pieces touch give way to the strips of what they and the pieces cover, every tile is a
-- strip of the painted picture. Touched tiles that are such strips themselves may stay.
use Rattle.std.proofs.Common.{◌≡◌, ◌≢◌, ℕ, zero, suc, ◌+◌, true, false, not, Bool, List, [], ◌∷◌, filter, ◌++◌, length, get_or, AllPairs, Contains, Option, Some, inl, inr, ap, subst, ◌∙◌, sym, suc-le-suc, le_of_suc-le-suc, arith}
use Rattle.mls_stitch.proofs.Common.{AllZip, list_any, option_map, both_ways, cases_Bool, false_from_ne_true, not-true, not_from_false, length-append, length-map, All-append, All-contains, All-contains_itself, All-filter, All-map, Contains-append_cases, Contains-get_or, filter_passes, same_Some, AreCoveredStrips, AreUnorderedStrips, AreUntouched, covered_count, is_touched, laid, overlaid, holds, IsStrip, AreLegal, world, Piece, AllPairs-append, AllPairs-map, Contains-filter, Contains-map, overlaid_outside, holds_outer, Tile, keys_of, Replaces, AreBlocks, IsMaximal, IsPlane, block_at, block_of, blocks_of, shown, LaidTile}
use Rattle.std.proofs.lemmas.List.Folds.{Any-from_list_any, list_any_at}
use Rattle.std.proofs.lemmas.List.Kept.{AllPairs-filter}
use Rattle.mls_geom.specs.TileCounts.{tile_count}
use Rattle.mls_geom.proofs.JoinedLists.{Any-append_left, Any-append_right}
use Rattle.mls_geom.proofs.ListLemmas.{All-append_left, All-append_right}
use Rattle.mls_geom.proofs.StripPictures.{kind-IsStrip}
use Rattle.mls_geom.proofs.CoveredCounts.{fresh_strips_number}
use Rattle.mls_geom.proofs.TouchedStrips.{one_strip, touched_strips_give_way}
use Rattle.mls_geom.proofs.UnorderedStrips.{unordered_strips_number}
use Rattle.mls_geom.proofs.UntouchedStrips.{untouched_strips_stay}
use Rattle.mls_stitch.proofs.DistinctNumbers.{cases_Contains}
use Rattle.mls_stitch.proofs.FreshStrips.{AreTouched, pieces_of}
use Rattle.mls_stitch.proofs.FreshTiles.{Contains-from_map}
use Rattle.mls_stitch.proofs.MaximalTiles.{IsMaximal-each, holds_corner, strip-IsMaximal}
use Rattle.mls_stitch.proofs.ShownTiles.{KeysDiffer, key-blocks_of, Contains-blocks_of, shown-outside, shown_same}
use Rattle.mls_stitch.proofs.Sides.{legal-AreBlocks, one_block}

-- each tile that one of the pieces touches is listed
abbrev pub AreAllTouched : List (ℕ × Tile) → List LaidTile → List Piece → Type 0
AreAllTouched tiles touched over = (key : ℕ) (block : Piece) → block_at tiles key ≡ Some block → is_touched over block ≡ true → Contains (keys_of touched) key

-- the block's lower-left square lies in a listed tile
abbrev is_listed : List LaidTile → Piece → Bool
is_listed touched block = list_any (λ tile. holds tile.piece.rect block.rect.left block.rect.bottom) touched

-- the blocks that stay
abbrev kept_of : List (ℕ × Tile) → List LaidTile → List Piece
kept_of tiles touched = filter (λ block. not (is_listed touched block)) (blocks_of tiles)

-- such a block is that of a listed tile
listed_block :
    (tiles : List (ℕ × Tile)) (touched : List LaidTile) (over : List Piece) (key : ℕ) (block : Piece) → IsPlane tiles → AreTouched (block_at tiles) touched over
    → block_at tiles key ≡ Some block → is_listed touched block ≡ true → Contains (keys_of touched) key × Contains (pieces_of touched) block
listed_block tiles touched over key block plane under here listed =
    let x = block.rect.left in
    let y = block.rect.bottom in
    let corner = holds_corner world block.rect (legal-AreBlocks (block_at tiles) key block plane.tiling here) in
    let (k, tile, within, is, inside) = Any-from_list_any (λ tile. holds tile.piece.rect x y) touched listed in
    let there : block_at tiles tile.id ≡ Some tile.piece = rw is at (under.each k tile within) in
    let held : Contains touched tile = (k, within, is) in
    let same = one_block (block_at tiles) tile.id key tile.piece block x y plane.tiling there here inside corner in
    let one : tile.id ≡ key = plane.tiling.apart tile.id key (record { x = x; y = y }) (rw there inside) (rw here corner) in (
      subst (Contains (keys_of touched)) one (Contains-map (λ t. t.id) touched tile held),
      subst (Contains (pieces_of touched)) same (Contains-map (λ t. t.piece) touched tile held),
    )

-- and the block of a listed tile is one
block_listed :
    (tiles : List (ℕ × Tile)) (touched : List LaidTile) (over : List Piece) (key : ℕ) (block : Piece) → IsPlane tiles → AreTouched (block_at tiles) touched over
    → block_at tiles key ≡ Some block → Contains (keys_of touched) key → is_listed touched block ≡ true
block_listed tiles touched over key block plane under here held =
    let (tile, listed, is_key) = Contains-from_map (λ t. t.id) touched key held in
    let there = All-contains (λ t. block_at tiles t.id ≡ Some t.piece) touched tile under.each listed in
    let same : tile.piece ≡ block = same_Some tile.piece block (sym there ∙ ap (block_at tiles) is_key ∙ here) in
    let corner = holds_corner world block.rect (legal-AreBlocks (block_at tiles) key block plane.tiling here) in
    let inside : holds tile.piece.rect block.rect.left block.rect.bottom ≡ true = subst (λ p. holds p.rect block.rect.left block.rect.bottom ≡ true) (sym same) corner in
    let (k, within, is) = listed in
    list_any_at (λ t. holds t.piece.rect block.rect.left block.rect.bottom) touched k tile within
    (subst (λ t. holds t.piece.rect block.rect.left block.rect.bottom ≡ true) (sym is) inside)

-- a block stays, or is that of a listed tile
kept_or_listed :
    (tiles : List (ℕ × Tile)) (touched : List LaidTile) (over : List Piece) (key : ℕ) (block : Piece) → IsPlane tiles → AreTouched (block_at tiles) touched over
    → block_at tiles key ≡ Some block → ¬ (Contains (keys_of touched) key) → Contains (kept_of tiles touched) block
kept_or_listed tiles touched over key block plane under here unlisted =
    Contains-filter (λ b. not (is_listed touched b)) (blocks_of tiles) block (Contains-blocks_of tiles key block here)
    (not_from_false _ (false_from_ne_true _ (λ listed. unlisted (listed_block tiles touched over key block plane under here listed).0)))

-- listed tiles with one lower-left corner are one
pub same_corner :
    (blocks : ℕ → Option Piece) (touched : List LaidTile) (over : List Piece) (p q : LaidTile) → AreBlocks blocks → AreTouched blocks touched over → Contains touched p
    → Contains touched q → p.piece.rect.left ≡ q.piece.rect.left → p.piece.rect.bottom ≡ q.piece.rect.bottom → p.id ≡ q.id
same_corner blocks touched over p q tiling under in_p in_q left bottom =
    let is_p = All-contains (λ t. blocks t.id ≡ Some t.piece) touched p under.each in_p in
    let is_q = All-contains (λ t. blocks t.id ≡ Some t.piece) touched q under.each in_q in
    let corner_p = holds_corner world p.piece.rect (legal-AreBlocks blocks p.id p.piece tiling is_p) in
    let corner_q = holds_corner world q.piece.rect (legal-AreBlocks blocks q.id q.piece tiling is_q) in
    let corner : holds q.piece.rect p.piece.rect.left p.piece.rect.bottom ≡ true = rw (left, bottom) corner_q in
    tiling.apart p.id q.id (record { x = p.piece.rect.left; y = p.piece.rect.bottom }) (rw is_p corner_p) (rw is_q corner)

-- so their pieces differ
pieces_differ :
    (blocks : ℕ → Option Piece) (touched : List LaidTile) (over : List Piece) → AreBlocks blocks → AreTouched blocks touched over
    → AllPairs (λ p q. p ≢ q) (pieces_of touched)
pieces_differ blocks touched over tiling under =
    AllPairs-map (λ p q. p ≢ q) (λ t. t.piece) touched
    (λ i j d before within same.
    under.once i j d before within
    (same_corner blocks touched over (get_or touched i d) (get_or touched j d) tiling under (Contains-get_or touched i d (omega arith)) (Contains-get_or touched j d within)
    (ap (λ p. p.rect.left) same) (ap (λ p. p.rect.bottom) same)))

-- the blocks that stay and those of the listed tiles are all strips
strips_parted :
    (tiles : List (ℕ × Tile)) (touched : List LaidTile) (over : List Piece) → IsPlane tiles → KeysDiffer tiles → IsMaximal tiles → AreTouched (block_at tiles) touched over
    → AreUnorderedStrips world (shown tiles) (kept_of tiles touched ++ pieces_of touched)
strips_parted tiles touched over plane differ maximal under =
    let stays = λ (block : Piece). not (is_listed touched block) in
    let kept = kept_of tiles touched in
    record {
      each = All-append (IsStrip world (shown tiles)) kept (pieces_of touched) (All-filter stays (IsStrip world (shown tiles)) (blocks_of tiles) maximal.each)
          (All-map (IsStrip world (shown tiles)) (λ t. t.piece) touched
          (λ k d within. strip-IsMaximal tiles (get_or touched k d).id (get_or touched k d).piece maximal (under.each k d within)));
      whole = λ x y inside.
          let (k, block, within, is, here) = maximal.whole x y inside in
          elim (cases_Bool (is_listed touched block)) [
            | inl listed ↦
                let (key, there) = key-blocks_of tiles block differ (k, within, is) in
                let (j, within', is') = (listed_block tiles touched over key block plane under there listed).1 in
                Any-append_right (λ p. holds p.rect x y ≡ true) kept (pieces_of touched) (j, block, within', is', here)
            | inr unlisted ↦
                let (j, within', is') = Contains-filter stays (blocks_of tiles) block (k, within, is) (not_from_false _ unlisted) in
                Any-append_left (λ p. holds p.rect x y ≡ true) kept (pieces_of touched) (j, block, within', is', here)
          ];
      once = AllPairs-append (λ p q. p ≢ q) kept (pieces_of touched) (AllPairs-filter (λ p q. p ≢ q) stays (blocks_of tiles) maximal.once)
          (pieces_differ (block_at tiles) touched over plane.tiling under)
          (λ k d within. All-map (λ q. get_or kept k d ≢ q) (λ t. t.piece) touched (λ j c within' same.
          let t = get_or touched j c in
          let b = get_or kept k d in
          let corner = holds_corner world t.piece.rect (legal-AreBlocks (block_at tiles) t.id t.piece plane.tiling (under.each j c within')) in
          let inside : holds t.piece.rect b.rect.left b.rect.bottom ≡ true = subst (λ r. holds t.piece.rect r.rect.left r.rect.bottom ≡ true) (sym same) corner in
          both_ways _ (not-true _ (filter_passes stays (blocks_of tiles) k d within))
          (list_any_at (λ t. holds t.piece.rect b.rect.left b.rect.bottom) touched j c within' inside)));
    }

-- no piece touches a block that stays
kept_untouched :
    (tiles : List (ℕ × Tile)) (touched : List LaidTile) (over : List Piece) → IsPlane tiles → KeysDiffer tiles → AreTouched (block_at tiles) touched over
    → AreAllTouched tiles touched over → AreUntouched over (kept_of tiles touched)
kept_untouched tiles touched over plane differ under all k d within =
    let stays = λ (block : Piece). not (is_listed touched block) in
    let block = get_or (kept_of tiles touched) k d in
    let listed = All-filter stays (Contains (blocks_of tiles)) (blocks_of tiles) (All-contains_itself (blocks_of tiles)) k d within in
    let (key, here) = key-blocks_of tiles block differ listed in
    false_from_ne_true _ (λ near.
    both_ways _ (not-true _ (filter_passes stays (blocks_of tiles) k d within)) (block_listed tiles touched over key block plane under here (all key block here near)))

-- so the tile count after painting is that of the tiles that stay, with the strips that take the place of the others
pub tile_count-painted :
    (tiles : List (ℕ × Tile)) (touched : List LaidTile) (over : List Piece) → IsPlane tiles → KeysDiffer tiles → IsMaximal tiles → AreTouched (block_at tiles) touched over
    → AreAllTouched tiles touched over → AreLegal over
    → tile_count world (overlaid (shown tiles) over) + length touched ≡ length tiles + covered_count world (laid (pieces_of touched ++ over))
tile_count-painted tiles touched over plane differ maximal under all legal =
    let kept = kept_of tiles touched in
    let parted = strips_parted tiles touched over plane differ maximal under in
    let untouched = kept_untouched tiles touched over plane differ under all in
    omega (
      arith,
      fresh_strips_number world (shown tiles) over kept (pieces_of touched) parted under.kinds legal untouched,
      unordered_strips_number world (shown tiles) (kept ++ pieces_of touched) parted,
      unordered_strips_number world (shown tiles) (blocks_of tiles) maximal,
      length-append kept (pieces_of touched),
      length-map touched (λ (t : LaidTile). t.piece),
      length-map tiles (λ (e : ℕ × Tile). block_of tiles e.1),
    )

-- a listed tile that no piece touches is one of the strips that take the place of the listed tiles
pub fresh-untouched :
    (tiles : List (ℕ × Tile)) (touched : List LaidTile) (over fresh : List Piece) (tile : LaidTile) → IsPlane tiles → KeysDiffer tiles → IsMaximal tiles
    → AreTouched (block_at tiles) touched over → AreAllTouched tiles touched over → AreLegal over → AreCoveredStrips world (laid (pieces_of touched ++ over)) fresh
    → Contains touched tile → is_touched over tile.piece ≡ false → Contains fresh tile.piece
fresh-untouched tiles touched over fresh tile plane differ maximal under all legal covered listed apart =
    let picture = overlaid (shown tiles) over in
    let kept = kept_of tiles touched in
    let block = tile.piece in
    let here : block_at tiles tile.id ≡ Some block = All-contains (λ t. block_at tiles t.id ≡ Some t.piece) touched tile under.each listed in
    let strips = touched_strips_give_way world (shown tiles) over kept (pieces_of touched) fresh (strips_parted tiles touched over plane differ maximal under) under.kinds
    legal (kept_untouched tiles touched over plane differ under all) covered in
    let stays = untouched_strips_stay world (shown tiles) over block (strip-IsMaximal tiles tile.id block maximal here) apart in
    let in_world = legal-AreBlocks (block_at tiles) tile.id block plane.tiling here in
    let corner = holds_corner world block.rect in_world in
    let (k, piece, within, is, inside) = strips.whole block.rect.left block.rect.bottom (holds_outer world block.rect block.rect.left block.rect.bottom in_world corner) in
    let strip = All-contains (IsStrip world picture) (kept ++ fresh) piece strips.each (k, within, is) in
    let same = one_strip world picture piece block block.rect.left block.rect.bottom strip stays inside corner in
    elim (Contains-append_cases kept fresh block (subst (Contains (kept ++ fresh)) same (k, within, is))) [
      | inl remains ↦
          absurd (both_ways _
          (not-true _ (All-contains (λ b. not (is_listed touched b) ≡ true) kept block (filter_passes (λ b. not (is_listed touched b)) (blocks_of tiles)) remains))
          (block_listed tiles touched over tile.id block plane under here (Contains-map (λ t. t.id) touched tile listed)))
      | inr fresh_there ↦ fresh_there
    ]

-- the block under the key of a fresh piece is that piece
in_fresh :
    (new : List (ℕ × Tile)) (keys : List ℕ) (fresh : List Piece) (key : ℕ) (block : Piece) → AllZip (λ key piece. block_at new key ≡ Some piece) keys fresh
    → block_at new key ≡ Some block → Contains keys key → Contains fresh block
in_fresh new [] fresh key block zip here (k, within, is) = absurd (omega arith)
in_fresh new (first ∷ keys) [] key block zip here held = absurd zip
in_fresh new (first ∷ keys) (piece ∷ fresh) key block zip here (zero, within, is) =
    (0, omega arith, same_Some piece block (sym zip.0 ∙ ap (block_at new) is ∙ here))
in_fresh new (first ∷ keys) (piece ∷ fresh) key block zip here (suc k, within, is) =
    let (j, within', is') = in_fresh new keys fresh key block zip.1 here (k, le_of_suc-le-suc within, is) in
    (suc j, suc-le-suc within', is')

-- what a replacement in which touched tiles give way to the strips of what they all and the pieces cover is made of: some of these strips are put, and a
-- touched tile that isn't gone is one of them itself
pub record IsPainted (old new : List (ℕ × Tile)) (touched : List LaidTile) (over fresh : List Piece) (gone : List ℕ) (put : List Piece) : Type 0 where
  pub plane : IsPlane old
  pub maximal : IsMaximal old
  pub under : AreTouched (block_at old) touched over
  pub all : AreAllTouched old touched over
  pub legal : AreLegal over
  pub covered : AreCoveredStrips world (laid (pieces_of touched ++ over)) fresh
  pub strips : (piece : Piece) → Contains put piece → Contains fresh piece
  pub stays : (key : ℕ) (block : Piece) → Contains (keys_of touched) key → block_at old key ≡ Some block → ¬ (Contains gone key) → Contains fresh block
  pub replaced : Replaces old new gone put

-- the blocks that stay and the fresh ones are the strips of the painted picture
painted_strips :
    (old new : List (ℕ × Tile)) (touched : List LaidTile) (over fresh : List Piece) (gone : List ℕ) (put : List Piece) → KeysDiffer old
    → IsPainted old new touched over fresh gone put
    → AreUnorderedStrips world (overlaid (shown old) over) (kept_of old touched ++ fresh)
painted_strips old new touched over fresh gone put differ painted =
    touched_strips_give_way world (shown old) over (kept_of old touched) (pieces_of touched) fresh
    (strips_parted old touched over painted.plane differ painted.maximal painted.under) painted.under.kinds painted.legal
    (kept_untouched old touched over painted.plane differ painted.under painted.all) painted.covered

-- so each tile is one of them
painted_strip :
    (old new : List (ℕ × Tile)) (touched : List LaidTile) (over fresh : List Piece) (gone : List ℕ) (put : List Piece) (key : ℕ) (block : Piece) → KeysDiffer old
    → IsPainted old new touched over fresh gone put
    → block_at new key ≡ Some block → IsStrip world (overlaid (shown old) over) block
painted_strip old new touched over fresh gone put key block differ painted here =
    let picture = overlaid (shown old) over in
    let strips = painted_strips old new touched over fresh gone put differ painted in
    let replaced = painted.replaced in
    let laid_there = All-append_right (IsStrip world picture) (kept_of old touched) fresh strips.each in
    elim (cases_Contains replaced.keys key) [
      | inl held ↦
          All-contains (IsStrip world picture) fresh block laid_there (painted.strips block (in_fresh new replaced.keys put key block replaced.laid here held))
      | inr unused ↦
          elim (cases_Contains gone key) [
            | inl away ↦
                let none = ap (option_map (block_of new)) (replaced.gone key away unused) in
                absurd (cc)
            | inr remains ↦
                let there = sym (replaced.blocks key remains unused) ∙ here in
                elim (cases_Contains (keys_of touched) key) [
                  | inl listed ↦ All-contains (IsStrip world picture) fresh block laid_there (painted.stays key block listed there remains)
                  | inr unlisted ↦
                      All-contains (IsStrip world picture) (kept_of old touched) block (All-append_left (IsStrip world picture) (kept_of old touched) fresh strips.each)
                      (kept_or_listed old touched over key block painted.plane painted.under there unlisted)
                ]
          ]
    ]

-- and the tiles show the painted picture
pub shown-painted :
    (old new : List (ℕ × Tile)) (touched : List LaidTile) (over fresh : List Piece) (gone : List ℕ) (put : List Piece) → KeysDiffer old → KeysDiffer new
    → IsPainted old new touched over fresh gone put
    → shown new ≡ overlaid (shown old) over
shown-painted old new touched over fresh gone put differ differ' painted =
    let picture = overlaid (shown old) over in
    shown_same new picture painted.replaced.plane differ'
    (λ key block x y here inside. sym (kind-IsStrip world picture block x y (painted_strip old new touched over fresh gone put key block differ painted here) inside))
    (λ x y outside.
    overlaid_outside (shown old) over x y
    (λ k d within. false_from_ne_true _ (λ inside. both_ways (holds world x y) outside (holds_outer world (get_or over k d).rect x y (painted.legal k d within) inside)))
    ∙ shown-outside old x y painted.plane differ outside)

-- so the plane is maximal again
pub IsMaximal-painted :
    (old new : List (ℕ × Tile)) (touched : List LaidTile) (over fresh : List Piece) (gone : List ℕ) (put : List Piece) → KeysDiffer old → KeysDiffer new
    → IsPainted old new touched over fresh gone put → IsMaximal new
IsMaximal-painted old new touched over fresh gone put differ differ' painted =
    IsMaximal-each new painted.replaced.plane differ'
    (λ key block here.
    subst (λ picture. IsStrip world picture block) (sym (shown-painted old new touched over fresh gone put differ differ' painted))
    (painted_strip old new touched over fresh gone put key block differ painted here))
