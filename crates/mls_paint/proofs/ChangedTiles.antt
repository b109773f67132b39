-- Touched tiles that are strips again may stay: the other touched tiles give way to the other strips, which have exactly their squares.
use Rattle.std.proofs.Common.{◌≡◌, ◌≢◌, ◌≤◌, ℕ, ◌+◌, ◌++◌, IsPermutation, Bool, true, false, not, List, [], ◌∷◌, filter, length, get_or, AllPairs, Any, Contains, Option, Some, IsSome, IsSomeAnd, IsTrue, cond, inl, inr, refl, is_some, sym, ap, ◌∙◌, subst, arith}
use Rattle.std.specs.Bool.{Decides}
use Rattle.std.specs.Cmp.{IsEquivalence}
use Rattle.std.proofs.lemmas.Bool.{both_ways, cases_Bool, false_from_ne_true, not-true, not_from_false}
use Rattle.std.proofs.lemmas.Bool.Decides.{nat_tests}
use Rattle.std.proofs.lemmas.List.{length-map}
use Rattle.std.proofs.lemmas.List.Elements.{All-contains, All-contains_itself, All-filter, All-map, Contains-get_or, filter_passes}
use Rattle.std.proofs.lemmas.List.Filters.{length-filter_both}
use Rattle.std.proofs.lemmas.List.Kept.{AllPairs-filter}
use Rattle.std.proofs.lemmas.List.Sorted.{IsPermutation-map, length_permutation}
use Rattle.std.proofs.lemmas.Map.Keys.{IsDistinct-from_apart}
use Rattle.std.proofs.lemmas.Map.Made.{is_member-Decides, length-le_from_is_member}
use Rattle.std.proofs.lemmas.Option.{same_Some}
use Rattle.mls_geom.specs.Locality.{AreCoveredStrips, HaveKinds, laid}
use Rattle.mls_geom.specs.Rects.{Point, IsRectangleIn, holds}
use Rattle.mls_geom.specs.Strips.{comes_before}
use Rattle.mls_geom.specs.World.{AreLegal, world}
use Rattle.mls_geom.specs.declared.piece.Piece.{Piece}
use Rattle.mls_geom.proofs.Ascending.{AllPairs-map, Contains-filter, Contains-map}
use Rattle.mls_stitch.specs.Pending.{keys_of}
use Rattle.mls_stitch.specs.Replacements.{AreDisjoint, IsHeld, TakePlace}
use Rattle.mls_stitch.specs.Stitches.{HoldsAt}
use Rattle.mls_stitch.specs.Tilings.{AreBlocks}
use Rattle.mls_stitch.specs.declared.laid_tile.LaidTile.{LaidTile}
use Rattle.mls_stitch.proofs.FreshStrips.{AreTouched, pieces_of}
use Rattle.mls_stitch.proofs.FreshTiles.{AllPairs-either, Contains-from_map, entry-keys_of, keys_of-listed}
use Rattle.mls_stitch.proofs.PaintedTiles.{same_corner}
use Rattle.mls_stitch.proofs.Sides.{HoldsAt-block}
use Rattle.mls_paint.specs.Changes.{CornersDiffer, IsWorkedOut, gone_of, is_among, is_same, put_of, sort_key_of}

-- the test of two pieces finds those that are equal
pub is_same-Decides : (p q : Piece) → Decides (is_same p q) (p ≡ q)
is_same-Decides p q = (
  λ same.
      let kind : p.kind ≡ q.kind = grind (arith, nat_tests) in
      let left : p.rect.left ≡ q.rect.left = grind (arith, nat_tests) in
      let bottom : p.rect.bottom ≡ q.rect.bottom = grind (arith, nat_tests) in
      let right : p.rect.right ≡ q.rect.right = grind (arith, nat_tests) in
      let top : p.rect.top ≡ q.rect.top = grind (arith, nat_tests) in
      λ i. record { rect = record { left = left i; bottom = bottom i; right = right i; top = top i }; kind = kind i },
  λ one. rw one (grind (arith, nat_tests)),
)

pub is_same-flips : (p q : Piece) → is_same p q ≡ is_same q p
is_same-flips p q = grind (arith, nat_tests)

is_same-equiv : IsEquivalence is_same
is_same-equiv = record {
  refl = λ p. (is_same-Decides p p).1 refl;
  symm = is_same-flips;
  congr = λ p q r same. ap (λ s. is_same s r) ((is_same-Decides p q).0 same);
}

-- a piece is found exactly where it is one of these
pub is_among-Decides : (pieces : List Piece) (piece : Piece) → Decides (is_among pieces piece) (Contains pieces piece)
is_among-Decides pieces piece = is_member-Decides is_same-Decides pieces piece

-- what is put is a strip, and none of the pieces
pub Contains-put_of : (strips pieces : List Piece) (piece : Piece) → Contains (put_of strips pieces) piece → Contains strips piece × (¬ (Contains pieces piece))
Contains-put_of strips pieces piece found = (
  All-contains (Contains strips) (put_of strips pieces) piece (All-filter (λ s. not (is_among pieces s)) (Contains strips) strips (All-contains_itself strips)) found,
  λ there.
      both_ways (is_among pieces piece)
      (not-true (is_among pieces piece) (All-contains (λ s. not (is_among pieces s) ≡ true) (put_of strips pieces) piece (filter_passes (λ s. not (is_among pieces s)) strips) found))
      ((is_among-Decides pieces piece).1 there),
)

-- what gives way is one of the tiles, and none of the strips
pub Contains-gone_of : (tiles : List LaidTile) (strips : List Piece) (tile : LaidTile) → Contains (gone_of tiles strips) tile → Contains tiles tile × (¬ (Contains strips tile.piece))
Contains-gone_of tiles strips tile found = (
  All-contains (Contains tiles) (gone_of tiles strips) tile (All-filter (λ t. not (is_among strips t.piece)) (Contains tiles) tiles (All-contains_itself tiles)) found,
  λ there.
      both_ways (is_among strips tile.piece)
      (not-true (is_among strips tile.piece)
      (All-contains (λ t. not (is_among strips t.piece) ≡ true) (gone_of tiles strips) tile (filter_passes (λ t. not (is_among strips t.piece)) tiles) found))
      ((is_among-Decides strips tile.piece).1 there),
)

-- different pieces of a list that are all in another are at most as many as its
common_few : (xs ys : List Piece) → AllPairs (λ p q. p ≢ q) xs → length (filter (is_among ys) xs) ≤ length (filter (is_among xs) ys)
common_few xs ys differ =
    let both = filter (is_among ys) xs in
    let others = filter (is_among xs) ys in
    length-le_from_is_member is_same-equiv both others
    (IsDistinct-from_apart is_same both
    (λ i j d before within. false_from_ne_true _ (λ same. AllPairs-filter (λ p q. p ≢ q) (is_among ys) xs differ i j d before within ((is_same-Decides _ _).0 same))))
    (λ p found.
    let there = (is_member-Decides is_same-Decides both p).0 found in
    let in_xs = All-contains (Contains xs) both p (All-filter (is_among ys) (Contains xs) xs (All-contains_itself xs)) there in
    let passes = All-contains (λ q. is_among ys q ≡ true) both p (filter_passes (is_among ys) xs) there in
    let in_ys = (is_among-Decides ys p).0 passes in
    (is_member-Decides is_same-Decides others p).1 (Contains-filter (is_among xs) ys p in_ys ((is_among-Decides xs p).1 in_xs)))

-- so two lists have each the same number of pieces that the other has too
length-put_of :
    (xs ys : List Piece) → AllPairs (λ p q. p ≢ q) xs → AllPairs (λ p q. p ≢ q) ys
    → length (put_of xs ys) + length ys ≡ length xs + length (put_of ys xs)
length-put_of xs ys differ differ' =
    omega (
      arith,
      common_few xs ys differ,
      common_few ys xs differ',
      length-filter_both (is_among ys) (λ p. not (is_among ys p)) (λ p. refl) xs,
      length-filter_both (is_among xs) (λ p. not (is_among xs p)) (λ p. refl) ys,
    )

-- a list of tiles and one of their pieces, less what passes a test of pieces
less_one : {X Y : Type 0} (b : Bool) (x : X) (xs : List X) (y : Y) (ys : List Y) → length xs ≡ length ys → length (cond b (x ∷ xs) xs) ≡ length (cond b (y ∷ ys) ys)
less_one true x xs y ys same = omega (arith, same)
less_one false x xs y ys same = same

length-gone_of : (tiles : List LaidTile) (strips : List Piece) → length (gone_of tiles strips) ≡ length (put_of (pieces_of tiles) strips)
length-gone_of [] strips = refl
length-gone_of (tile ∷ tiles) strips =
    less_one (not (is_among strips tile.piece)) tile (gone_of tiles strips) tile.piece (put_of (pieces_of tiles) strips) (length-gone_of tiles strips)

-- nothing with the same corner comes before
pub not_level : (p q : Piece) → p.rect.left ≡ q.rect.left → p.rect.bottom ≡ q.rect.bottom → comes_before p q ≡ true → ⊥
not_level p q left bottom before = grind (arith, nat_tests)

-- the strips that are put and the tiles that give way differ in number as all strips and all tiles do
pub length-changes :
    (tiles : List LaidTile) (strips : List Piece) → CornersDiffer (pieces_of tiles) → AllPairs (λ p q. IsTrue (comes_before p q)) strips
    → length (put_of strips (pieces_of tiles)) + length tiles ≡ length strips + length (gone_of tiles strips)
length-changes tiles strips corners up =
    let differ : AllPairs (λ p q. p ≢ q) strips = λ i j d before within same.
    not_level (get_or strips i d) (get_or strips j d) (ap (λ p. p.rect.left) same) (ap (λ p. p.rect.bottom) same) (up i j d before within) in
    let differ' : AllPairs (λ p q. p ≢ q) (pieces_of tiles) = λ i j d before within same. corners i j d before within (ap sort_key_of same) in
    omega (arith, length-put_of strips (pieces_of tiles) differ differ', length-gone_of tiles strips, length-map tiles (λ (t : LaidTile). t.piece))

-- and no more are put than there are
pub length-put_of-le : (strips pieces : List Piece) → length (put_of strips pieces) ≤ length strips
length-put_of-le strips pieces = omega (arith, length-filter_both (is_among pieces) (λ p. not (is_among pieces p)) (λ p. refl) strips)

-- no two touched tiles have one lower-left corner
pub CornersDiffer-touched :
    (blocks : ℕ → Option Piece) (touched : List LaidTile) (over : List Piece) → AreBlocks blocks → AreTouched blocks touched over → CornersDiffer (pieces_of touched)
CornersDiffer-touched blocks touched over tiling under =
    AllPairs-map (λ p q. sort_key_of p ≢ sort_key_of q) (λ t. t.piece) touched
    (λ i j d before within same.
    under.once i j d before within
    (same_corner blocks touched over (get_or touched i d) (get_or touched j d) tiling under (Contains-get_or touched i d (omega arith)) (Contains-get_or touched j d within)
    (ap (λ c. c.left) same) (ap (λ c. c.bottom) same)))

-- a strip that is none of the pieces is put
put_there : (strips pieces : List Piece) (piece : Piece) → Contains strips piece → ¬ (Contains pieces piece) → Contains (put_of strips pieces) piece
put_there strips pieces piece there unlisted =
    Contains-filter (λ s. not (is_among pieces s)) strips piece there
    (not_from_false (is_among pieces piece) (false_from_ne_true (is_among pieces piece) (λ found. unlisted ((is_among-Decides pieces piece).0 found))))

-- and a tile that is none of the strips gives way
gone_there :
    (tiles : List LaidTile) (strips : List Piece) (tile : LaidTile) → Contains tiles tile → ¬ (Contains strips tile.piece) → Contains (gone_of tiles strips) tile
gone_there tiles strips tile there unlisted =
    Contains-filter (λ t. not (is_among strips t.piece)) tiles tile there
    (not_from_false (is_among strips tile.piece) (false_from_ne_true (is_among strips tile.piece) (λ found. unlisted ((is_among-Decides strips tile.piece).0 found))))

-- a touched tile that doesn't give way is a strip
pub stays_among :
    (blocks : ℕ → Option Piece) (touched : List LaidTile) (over fresh : List Piece) (key : ℕ) (block : Piece) → AreTouched blocks touched over
    → Contains (keys_of touched) key → blocks key ≡ Some block → ¬ (Contains (keys_of (gone_of touched fresh)) key) → Contains fresh block
stays_among blocks touched over fresh key block under listed here remains =
    let (tile, there, is_key) = entry-keys_of touched key listed in
    let is_tile = All-contains (λ t. blocks t.id ≡ Some t.piece) touched tile under.each there in
    let same : tile.piece ≡ block = same_Some tile.piece block (sym is_tile ∙ ap blocks is_key ∙ here) in
    elim (cases_Bool (is_among fresh tile.piece)) [
      | inl found ↦ subst (Contains fresh) same ((is_among-Decides fresh tile.piece).0 found)
      | inr absent ↦
          let away = gone_there touched fresh tile there (λ found. both_ways (is_among fresh tile.piece) absent ((is_among-Decides fresh tile.piece).1 found)) in
          absurd (remains (subst (Contains (keys_of (gone_of touched fresh))) is_key (keys_of-listed (gone_of touched fresh) tile away)))
    ]

-- a square of a tile that gives way is one of a strip that is put: that strip is no touched tile's, which would have this square too
gone_put :
    (blocks : ℕ → Option Piece) (touched : List LaidTile) (over fresh : List Piece) (at : Point) → AreBlocks blocks → AreTouched blocks touched over
    → TakePlace blocks (keys_of touched) fresh → IsHeld blocks (keys_of (gone_of touched fresh)) at
    → Any (λ piece. IsTrue (holds piece.rect at.x at.y)) (put_of fresh (pieces_of touched))
gone_put blocks touched over fresh at tiling under whole (k, key, within, is, held) =
    let (tile, away, is_key) = entry-keys_of (gone_of touched fresh) key (k, within, is) in
    let (there, no_strip) = Contains-gone_of touched fresh tile away in
    let held_there : HoldsAt blocks tile.id at = subst (λ n. HoldsAt blocks n at) (sym is_key) held in
    let (j, within', is') = keys_of-listed touched tile there in
    let (i, strip, inside, is_strip, here) = (whole.same at).0 (j, tile.id, within', is', held_there) in
    let unlisted : ¬ (Contains (pieces_of touched) strip) = λ listed.
    let (other, there', is_other) = Contains-from_map (λ t. t.piece) touched strip listed in
    let is_tile = All-contains (λ t. blocks t.id ≡ Some t.piece) touched tile under.each there in
    let is_laid = All-contains (λ t. blocks t.id ≡ Some t.piece) touched other under.each there' in
    let here' : IsTrue (holds other.piece.rect at.x at.y) = subst (λ p. IsTrue (holds p.rect at.x at.y)) (sym is_other) here in
    let one : other.id ≡ tile.id = tiling.apart other.id tile.id at (HoldsAt-block blocks other.id other.piece at is_laid here') held_there in
    let same : other.piece ≡ tile.piece = same_Some other.piece tile.piece (sym is_laid ∙ ap blocks one ∙ is_tile) in
    no_strip (subst (Contains fresh) (sym is_other ∙ same) (i, inside, is_strip)) in
    let (l, inside', is_put) = put_there fresh (pieces_of touched) strip (i, inside, is_strip) unlisted in
    (l, strip, inside', is_put, here)

-- and a square of a strip that is put is one of a tile that gives way: that tile is no strip, which would share this square
put_gone :
    (blocks : ℕ → Option Piece) (touched : List LaidTile) (over fresh : List Piece) (at : Point) → AreTouched blocks touched over
    → TakePlace blocks (keys_of touched) fresh → Any (λ piece. IsTrue (holds piece.rect at.x at.y)) (put_of fresh (pieces_of touched))
    → IsHeld blocks (keys_of (gone_of touched fresh)) at
put_gone blocks touched over fresh at under whole (k, strip, within, is, here) =
    let (in_fresh, no_tile) = Contains-put_of fresh (pieces_of touched) strip (k, within, is) in
    let (j, inside, is_strip) = in_fresh in
    let (i, key, within', is', held) = (whole.same at).1 (j, strip, inside, is_strip, here) in
    let (tile, there, is_key) = entry-keys_of touched key (i, within', is') in
    let is_tile = All-contains (λ t. blocks t.id ≡ Some t.piece) touched tile under.each there in
    let held_there : HoldsAt blocks tile.id at = subst (λ n. HoldsAt blocks n at) (sym is_key) held in
    let here' : IsTrue (holds tile.piece.rect at.x at.y) = subst (λ o. IsSomeAnd o (λ block. IsTrue (holds block.rect at.x at.y))) is_tile held_there in
    let no_strip : ¬ (Contains fresh tile.piece) = λ found.
    elim (AllPairs-either AreDisjoint fresh tile.piece strip whole.apart found in_fresh) [
      | inl same ↦ no_tile (subst (Contains (pieces_of touched)) same (Contains-map (λ t. t.piece) touched tile there))
      | inr either ↦
          elim either [
            | inl apart ↦ apart at here' here
            | inr apart ↦ apart at here here'
          ]
    ] in
    let (l, within_gone, is_gone) = keys_of-listed (gone_of touched fresh) tile (gone_there touched fresh tile there no_strip) in
    (l, tile.id, within_gone, is_gone, held_there)

-- so these take the place of those
pub TakePlace-changes :
    (blocks : ℕ → Option Piece) (touched : List LaidTile) (over fresh : List Piece) → AreBlocks blocks → AreTouched blocks touched over
    → TakePlace blocks (keys_of touched) fresh → TakePlace blocks (keys_of (gone_of touched fresh)) (put_of fresh (pieces_of touched))
TakePlace-changes blocks touched over fresh tiling under whole =
    let goes = λ (tile : LaidTile). not (is_among fresh tile.piece) in
    let comes = λ (strip : Piece). not (is_among (pieces_of touched) strip) in
    let laid_gone = All-filter goes (λ tile. blocks tile.id ≡ Some tile.piece) touched under.each in
    record {
      there = All-map (λ key. IsSome (blocks key)) (λ tile. tile.id) (gone_of touched fresh) (λ k d within. ap is_some (laid_gone k d within));
      once = AllPairs-map (λ a b. a ≢ b) (λ tile. tile.id) (gone_of touched fresh) (AllPairs-filter (λ p q. p.id ≢ q.id) goes touched under.once);
      legal = All-filter comes (λ piece. IsRectangleIn world piece.rect) fresh whole.legal;
      apart = AllPairs-filter AreDisjoint comes fresh whole.apart;
      same = λ at. (gone_put blocks touched over fresh at tiling under whole, put_gone blocks touched over fresh at under whole);
    }

-- moved in any way, they are worked out
pub IsWorkedOut-moved :
    (tiles : List LaidTile) (over strips : List Piece) (gone : List LaidTile) (fresh : List Piece) → HaveKinds (pieces_of tiles ++ over) → AreLegal over
    → AreCoveredStrips world (laid (pieces_of tiles ++ over)) strips → CornersDiffer (pieces_of tiles) → IsPermutation (gone_of tiles strips) gone
    → IsPermutation (put_of strips (pieces_of tiles)) fresh → IsWorkedOut tiles over (keys_of gone) fresh
IsWorkedOut-moved tiles over strips gone fresh kinds legal covered corners away come = record {
  kinds = kinds;
  legal = legal;
  strips = strips;
  covered = covered;
  changes = record { named = IsPermutation-map (λ (t : LaidTile). t.id) _ gone away; moved = come };
  number =
      omega (
        arith,
        length-changes tiles strips corners covered.ordered,
        length_permutation (gone_of tiles strips) gone away,
        length_permutation (put_of strips (pieces_of tiles)) fresh come,
        length-map gone (λ (t : LaidTile). t.id),
      );
}
