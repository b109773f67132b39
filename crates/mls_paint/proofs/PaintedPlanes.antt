-- What a plane is once the strips of what the listed tiles and the pieces cover have taken the place of those tiles, where tiles that are such strips
-- stay.
use Rattle.std.proofs.Common.{◌≡◌, ℕ, ◌+◌, ◌<◌, ◌≤◌, ◌↔◌, Bool, true, false, not, IsTrue, inl, inr, refl, List, ◌++◌, length, Contains, IfSome, IsSomeAnd, IsErr, IsOk, Ok, Err, Option, None, Some, Result, sym, ap, ◌∙◌, subst, arith}
use Rattle.std.specs.Option.{option_map}
use Rattle.std.proofs.lemmas.Bool.{both_ways, cases_lt}
use Rattle.std.proofs.lemmas.List.Elements.{All-contains}
use Rattle.std.proofs.lemmas.List.Sorted.{Contains-permutation, IsPermutation-sym}
use Rattle.std.proofs.lemmas.Option.{same_Some}
use Rattle.mls_geom.specs.Locality.{AreCoveredStrips, HaveKinds, covered_count, is_touched, laid}
use Rattle.mls_geom.specs.Pictures.{overlaid}
use Rattle.mls_geom.specs.TileCounts.{tile_count}
use Rattle.mls_geom.specs.World.{AreLegal, world}
use Rattle.mls_geom.specs.declared.piece.Piece.{Piece}
use Rattle.mls_geom.proofs.CoveredCounts.{covered_strips_number}
use Rattle.mls_tilepool.specs.Pools.{Pool, count_of, tiles_of}
use Rattle.mls_tilepool.specs.declared.tile.Tile.{Tile}
use Rattle.mls_stitch.specs.Areas.{ListTouched}
use Rattle.mls_stitch.specs.Pending.{keys_of}
use Rattle.mls_stitch.specs.Replacements.{Replaces, TakePlace}
use Rattle.mls_stitch.specs.Tilings.{HasPlane, block_at, block_of}
use Rattle.mls_stitch.specs.declared.laid_tile.LaidTile.{LaidTile}
use Rattle.mls_stitch.proofs.FreshStrips.{AreTouched, TakePlace-strips, pieces_of}
use Rattle.mls_stitch.proofs.FreshTiles.{entry-keys_of}
use Rattle.mls_stitch.proofs.ListedTiles.{length-le-AreLaid}
use Rattle.mls_stitch.proofs.PaintedTiles.{IsMaximal-painted, IsPainted, fresh-untouched, shown-painted, tile_count-painted}
use Rattle.mls_stitch.proofs.ShownTiles.{KeysDiffer-tiles_of}
use Rattle.mls_paint.specs.Changes.{AreChanges, CornersDiffer, IsWorkedOut, gone_of, put_of}
use Rattle.mls_paint.specs.Painting.{KeepsUntouched}
use Rattle.mls_paint.specs.Planes.{HasStrips, picture_in}
use Rattle.mls_paint.specs.Plans.{IsPlanFor, Plan}
use Rattle.mls_paint.proofs.ChangedTiles.{Contains-gone_of, Contains-put_of, CornersDiffer-touched, TakePlace-changes, stays_among}
use Rattle.mls_paint.proofs.ListedTouched.{AreTouched-ListTouched}
use Rattle.mls_paint.proofs.MovedLists.{TakePlace-moved}

-- the listed tiles of the plane are to give way to the pieces
pub record GivesWay (pool : Pool) (owner : ℕ) (over : List Piece) (list : List LaidTile) : Type 0 where
  pub strips : HasStrips pool owner
  pub listed : ListTouched (block_at (tiles_of pool owner)) over list
  pub kinds : HaveKinds (pieces_of list ++ over)
  pub legal : AreLegal over

-- the listed tiles are at most all
pub length-ListTouched :
    (pool : Pool) (owner : ℕ) (over : List Piece) (list : List LaidTile) → ListTouched (block_at (tiles_of pool owner)) over list → length list ≤ count_of pool owner
length-ListTouched pool owner over list listed = length-le-AreLaid (tiles_of pool owner) list listed.each listed.once

AreTouched-GivesWay :
    (pool : Pool) (owner : ℕ) (over : List Piece) (list : List LaidTile) → GivesWay pool owner over list → AreTouched (block_at (tiles_of pool owner)) list over
AreTouched-GivesWay pool owner over list gives =
    AreTouched-ListTouched (block_at (tiles_of pool owner)) over list gives.strips.plane.plane.tiling gives.listed gives.kinds gives.legal

-- the tile count after painting
tile_count-GivesWay :
    (pool : Pool) (owner : ℕ) (over : List Piece) (list : List LaidTile) → GivesWay pool owner over list
    → tile_count world (overlaid (picture_in pool owner) over) + length list ≡ count_of pool owner + covered_count world (laid (pieces_of list ++ over))
tile_count-GivesWay pool owner over list gives =
    tile_count-painted (tiles_of pool owner) list over gives.strips.plane.plane (KeysDiffer-tiles_of pool owner) gives.strips.maximal
    (AreTouched-GivesWay pool owner over list gives) gives.listed.whole gives.legal

-- so it is over a limit just where the tiles that stay and the strips that take the place of the others are
pub too_many-GivesWay :
    (pool : Pool) (owner : ℕ) (over : List Piece) (list : List LaidTile) (limit : ℕ) → GivesWay pool owner over list
    → (limit + length list < count_of pool owner + covered_count world (laid (pieces_of list ++ over)))
    ↔ (limit < tile_count world (overlaid (picture_in pool owner) over))
too_many-GivesWay pool owner over list limit gives = (
  λ more. omega (arith, tile_count-GivesWay pool owner over list gives),
  λ more. omega (arith, tile_count-GivesWay pool owner over list gives),
)

-- where what was swept was these tiles, they are to give way, and the sweep was refused just where the plane is over the limit
pub GivesWay-swept :
    (pool : Pool) (owner : ℕ) (over : List Piece) (list swept : List LaidTile) → HasStrips pool owner → ListTouched (block_at (tiles_of pool owner)) over list → swept ≡ list
    → HaveKinds (pieces_of swept ++ over) → AreLegal over → GivesWay pool owner over list
GivesWay-swept pool owner over list swept strips listed same kinds legal =
    record { strips = strips; listed = listed; kinds = subst (λ tiles. HaveKinds (pieces_of tiles ++ over)) same kinds; legal = legal }

pub too_many-swept :
    {Refused : Type 0} (pool : Pool) (owner : ℕ) (over : List Piece) (list swept : List LaidTile) (limit count : ℕ) → GivesWay pool owner over list → swept ≡ list → count ≡ count_of pool owner
    → (Refused ↔ (limit + length swept < count + covered_count world (laid (pieces_of swept ++ over))))
    → (Refused ↔ (limit < tile_count world (overlaid (picture_in pool owner) over)))
too_many-swept pool owner over list swept limit count gives same number refused =
    let exactly = too_many-GivesWay pool owner over list limit gives in
    let here = rw (same, number) at refused in
    (λ is. exactly.0 (here.0 is), λ more. here.1 (exactly.1 more))

-- what is not refused fits
pub fits_unless : (fits refused : Bool) (tiles limit : ℕ) → refused ≡ not fits → (IsTrue refused ↔ (limit < tiles)) → IsTrue fits ↔ (tiles ≤ limit)
fits_unless true refused tiles limit is only = (
  λ _. elim (cases_lt limit tiles) [
    | inl more ↦ absurd (both_ways refused is (only.1 more))
    | inr few ↦ few
  ],
  λ _. refl,
)
fits_unless false refused tiles limit is only = (λ never. absurd (both_ways false refl never), λ few. absurd (omega (arith, few, only.0 is)))

-- the strips of what the tiles and the pieces cover take their place, other than those that are tiles already, in any order
TakePlace-GivesWay :
    (pool : Pool) (owner : ℕ) (over : List Piece) (list : List LaidTile) (fresh : List Piece) (names : List ℕ) (put : List Piece) → GivesWay pool owner over list
    → AreCoveredStrips world (laid (pieces_of list ++ over)) fresh → AreChanges list fresh names put → TakePlace (block_at (tiles_of pool owner)) names put
TakePlace-GivesWay pool owner over list fresh names put gives covered changes =
    let blocks = block_at (tiles_of pool owner) in
    let under = AreTouched-GivesWay pool owner over list gives in
    TakePlace-moved blocks (keys_of (gone_of list fresh)) names (put_of fresh (pieces_of list)) put changes.named changes.moved
    (TakePlace-changes blocks list over fresh gives.strips.plane.plane.tiling under (TakePlace-strips blocks list over fresh under covered))

-- a replacement that is refused only where there is no room for it succeeds where the painted plane has no more tiles than that
pub ok_where_room :
    {T E : Type 0} (done : Result T E) (room : Option ℕ) (tiles names count put : ℕ) → IfSome room (λ r. tiles ≤ r) → count + put ≡ tiles + names
    → (IsErr done → IsSomeAnd room (λ r. r + names < count + put)) → IsOk done
ok_where_room (Ok done) room tiles names count put fits same refused = refl
ok_where_room (Err fault) None tiles names count put fits same refused = absurd (refused refl)
ok_where_room (Err fault) (Some r) tiles names count put fits same refused = absurd (omega (arith, fits, same, refused refl))

-- no two of the tiles have one lower-left corner
pub CornersDiffer-GivesWay : (pool : Pool) (owner : ℕ) (over : List Piece) (list : List LaidTile) → GivesWay pool owner over list → CornersDiffer (pieces_of list)
CornersDiffer-GivesWay pool owner over list gives =
    CornersDiffer-touched (block_at (tiles_of pool owner)) list over gives.strips.plane.plane.tiling (AreTouched-GivesWay pool owner over list gives)

-- the listed tiles that are no strips have given way to the strips that are no listed tiles, in any order
record IsChanged (old new : List (ℕ × Tile)) (list : List LaidTile) (fresh : List Piece) : Type 0 where
  pub names : List ℕ
  pub put : List Piece
  pub changes : AreChanges list fresh names put
  pub replaced : Replaces old new names put

IsPainted-GivesWay :
    (old new : Pool) (owner : ℕ) (over : List Piece) (list : List LaidTile) (fresh : List Piece) → GivesWay old owner over list
    → AreCoveredStrips world (laid (pieces_of list ++ over)) fresh → (changed : IsChanged (tiles_of old owner) (tiles_of new owner) list fresh)
    → IsPainted (tiles_of old owner) (tiles_of new owner) list over fresh changed.names changed.put
IsPainted-GivesWay old new owner over list fresh gives covered changed =
    let under = AreTouched-GivesWay old owner over list gives in
    let gone = keys_of (gone_of list fresh) in
    let come = put_of fresh (pieces_of list) in
    record {
      plane = gives.strips.plane.plane;
      maximal = gives.strips.maximal;
      under = under;
      all = gives.listed.whole;
      legal = gives.legal;
      covered = covered;
      strips = λ piece found. (Contains-put_of fresh (pieces_of list) piece (Contains-permutation changed.put come piece (IsPermutation-sym come changed.put changed.changes.moved) found)).0;
      stays = λ key block listed here remains.
          stays_among (block_at (tiles_of old owner)) list over fresh key block under listed here (λ held. remains (Contains-permutation gone changed.names key changed.changes.named held));
      replaced = changed.replaced;
    }

-- then the plane shows the pieces over what it showed
picture-painted :
    (old new : Pool) (owner : ℕ) (over : List Piece) (list : List LaidTile) (fresh : List Piece) → GivesWay old owner over list
    → AreCoveredStrips world (laid (pieces_of list ++ over)) fresh → IsChanged (tiles_of old owner) (tiles_of new owner) list fresh
    → picture_in new owner ≡ overlaid (picture_in old owner) over
picture-painted old new owner over list fresh gives covered changed =
    shown-painted (tiles_of old owner) (tiles_of new owner) list over fresh changed.names changed.put (KeysDiffer-tiles_of old owner) (KeysDiffer-tiles_of new owner)
    (IsPainted-GivesWay old new owner over list fresh gives covered changed)

-- and its tiles are maximal strips
HasStrips-painted :
    (old new : Pool) (owner : ℕ) (over : List Piece) (list : List LaidTile) (fresh : List Piece) → GivesWay old owner over list
    → AreCoveredStrips world (laid (pieces_of list ++ over)) fresh → IsChanged (tiles_of old owner) (tiles_of new owner) list fresh → HasPlane new owner
    → HasStrips new owner
HasStrips-painted old new owner over list fresh gives covered changed home = record {
  plane = home;
  maximal =
      IsMaximal-painted (tiles_of old owner) (tiles_of new owner) list over fresh changed.names changed.put (KeysDiffer-tiles_of old owner) (KeysDiffer-tiles_of new owner)
      (IsPainted-GivesWay old new owner over list fresh gives covered changed);
}

-- a tile that no piece touches stays: if it is listed, it is a strip of the painted plane as it is
KeepsUntouched-IsChanged :
    (old : Pool) (new : List (ℕ × Tile)) (owner : ℕ) (over : List Piece) (list : List LaidTile) (fresh : List Piece) → GivesWay old owner over list
    → AreCoveredStrips world (laid (pieces_of list ++ over)) fresh → IsChanged (tiles_of old owner) new list fresh → KeepsUntouched (tiles_of old owner) new over
KeepsUntouched-IsChanged old new owner over list fresh gives covered changed key tile here apart =
    let tiles = tiles_of old owner in
    let block_here : block_at tiles key ≡ Some (block_of tiles tile) = ap (option_map (block_of tiles)) here in
    let gone = keys_of (gone_of list fresh) in
    let unlisted : ¬ (Contains changed.names key) = λ held.
    let (entry, away, is_key) = entry-keys_of (gone_of list fresh) key (Contains-permutation changed.names gone key (IsPermutation-sym gone changed.names changed.changes.named) held) in
    let (there, no_strip) = Contains-gone_of list fresh entry away in
    let laid_there = All-contains (λ t. block_at tiles t.id ≡ Some t.piece) list entry gives.listed.each there in
    let same : entry.piece ≡ block_of tiles tile = same_Some entry.piece (block_of tiles tile) (sym laid_there ∙ ap (block_at tiles) is_key ∙ block_here) in
    no_strip
    (fresh-untouched tiles list over fresh entry gives.strips.plane.plane (KeysDiffer-tiles_of old owner) gives.strips.maximal (AreTouched-GivesWay old owner over list gives)
    gives.listed.whole gives.legal covered there (subst (λ p. is_touched over p ≡ false) (sym same) apart)) in
    let (after, at, kept) = changed.replaced.kept key tile here unlisted in
    (after, at, kept.corner, kept.kind)

-- the plane shows the pieces over what it showed, in maximal strips, and a tile that no piece touches stays
pub record IsOverlaid (old new : Pool) (owner : ℕ) (over : List Piece) : Type 0 where
  pub picture : picture_in new owner ≡ overlaid (picture_in old owner) over
  pub strips : HasStrips new owner
  pub kept : KeepsUntouched (tiles_of old owner) (tiles_of new owner) over

-- the plan is one for the plane as it is, and has worked out that tiles of these names give way to the strips that are put
pub record IsReady (pool : Pool) (owner : ℕ) (plan : Plan) (names : List ℕ) (put : List Piece) : Type 0 where
  pub strips : HasStrips pool owner
  pub planned : IsPlanFor pool owner plan
  pub worked : IsWorkedOut plan.tiles plan.over names put

GivesWay-IsReady :
    {pool : Pool} {owner : ℕ} {plan : Plan} {names : List ℕ} {put : List Piece} → IsReady pool owner plan names put → GivesWay pool owner plan.over plan.tiles
GivesWay-IsReady ready = record { strips = ready.strips; listed = ready.planned.touched; kinds = ready.worked.kinds; legal = ready.worked.legal }

-- so they may take the place of those tiles
pub TakePlace-IsReady :
    {pool : Pool} {owner : ℕ} {plan : Plan} {names : List ℕ} {put : List Piece} → IsReady pool owner plan names put → TakePlace (block_at (tiles_of pool owner)) names put
TakePlace-IsReady ready = TakePlace-GivesWay _ _ _ _ _ _ _ (GivesWay-IsReady ready) ready.worked.covered ready.worked.changes

-- the painted plane has as many tiles as come and stay
pub number-IsReady :
    {pool : Pool} {owner : ℕ} {plan : Plan} {names : List ℕ} {put : List Piece} → IsReady pool owner plan names put
    → count_of pool owner + length put ≡ tile_count world (overlaid (picture_in pool owner) plan.over) + length names
number-IsReady {pool} {owner} {plan} {names} {put} ready =
    omega (
      arith,
      tile_count-GivesWay pool owner plan.over plan.tiles (GivesWay-IsReady ready),
      covered_strips_number world (laid (pieces_of plan.tiles ++ plan.over)) ready.worked.strips ready.worked.covered,
      ready.worked.number,
    )

-- and once they have, the plane is painted
pub IsOverlaid-IsReady :
    {old new : Pool} {owner : ℕ} {plan : Plan} {names : List ℕ} {put : List Piece} → IsReady old owner plan names put
    → Replaces (tiles_of old owner) (tiles_of new owner) names put → HasPlane new owner → IsOverlaid old new owner plan.over
IsOverlaid-IsReady {old} {new} {owner} {plan} {names} {put} ready replaced home =
    let gives = GivesWay-IsReady ready in
    let covered = ready.worked.covered in
    let changed : IsChanged (tiles_of old owner) (tiles_of new owner) plan.tiles ready.worked.strips =
    record { names = names; put = put; changes = ready.worked.changes; replaced = replaced } in
    record {
      picture = picture-painted old new owner plan.over plan.tiles ready.worked.strips gives covered changed;
      strips = HasStrips-painted old new owner plan.over plan.tiles ready.worked.strips gives covered changed home;
      kept = KeepsUntouched-IsChanged old (tiles_of new owner) owner plan.over plan.tiles ready.worked.strips gives covered changed;
    }
