-- Planes that show one kind round a rectangle, or bars, by their tiles.
use Rattle.std.proofs.Common.{◌≡◌, ℕ, true, false, inl, inr, List, All, Option, Some, None, is_some, IfSome, sym, ◌∙◌, ap}
use Rattle.std.proofs.lemmas.Bool.{and_from, cases_Bool, both_ways, false_from_ne_true}
use Rattle.std.proofs.lemmas.List.Elements.{All-contains}
use Rattle.mls_geom.specs.Pictures.{Picture}
use Rattle.mls_geom.specs.Rects.{Rect, IsRectangleIn, common, grown, holds}
use Rattle.mls_geom.specs.World.{world}
use Rattle.mls_geom.proofs.Holds.{holds-IsWithin, holds_common}
use Rattle.mls_tilepool.specs.Pools.{Pool, tiles_of}
use Rattle.mls_stitch.specs.Areas.{MeetArea}
use Rattle.mls_stitch.specs.Tilings.{HasPlane, block_at}
use Rattle.mls_stitch.specs.declared.laid_tile.LaidTile.{LaidTile}
use Rattle.mls_stitch.proofs.ShownTiles.{KeysDiffer-tiles_of, shown-outside}
use Rattle.mls_paint.specs.Planes.{picture_in}
use Rattle.mls_layout.specs.Grids.{Shows}
use Rattle.mls_layout.specs.Likenesses.{ShowsAlike, Spans, like_column, like_row}
use Rattle.mls_layout.specs.declared.likeness.Likeness.{Likeness}
use Rattle.mls_layout.proofs.FoundTiles.{found-Shows}
use Rattle.mls_layout.proofs.LikeSquares.{Spans-holds, alike-same, grown-IsRectangleIn, grown-holds, grown-none, like-holds, like_column-again, like_row-again}

-- where all tiles found in an area have one kind, the plane shows it in each square of the area
pub one_kind-found :
    (pool : Pool) (owner : ℕ) (area : Rect) (found : List LaidTile) (kind : ℕ) → HasPlane pool owner → MeetArea (block_at (tiles_of pool owner)) area found
    → All (λ tile. tile.piece.kind ≡ kind) found → (x y : ℕ) → holds area x y ≡ true → picture_in pool owner x y ≡ kind
one_kind-found pool owner area found kind plane are same x y here =
    let (k, tile, within, is, held) = are.whole x y here in
    All-contains (λ (t : LaidTile). Shows (picture_in pool owner) t.piece) found tile (found-Shows pool owner plane area found are) (k, within, is) x y held
    ∙ All-contains (λ (t : LaidTile). t.piece.kind ≡ kind) found tile same (k, within, is)

-- where a picture shows one kind in a rectangle, it has each likeness there
pub one_kind-alike :
    (likeness : Likeness) (h kind : ℕ) (rect : Rect) (picture : Picture) → IsRectangleIn world rect → ((x y : ℕ) → holds (grown h rect) x y ≡ true → picture x y ≡ kind)
    → ShowsAlike likeness h rect picture
one_kind-alike likeness h kind rect picture legal same x y here =
    same x y here
    ∙ sym (same (like_column likeness rect x) (like_row likeness rect y) (like-holds likeness (grown h rect) rect x y (grown-IsRectangleIn h world rect legal) here))

-- and where they have one kind
pub one_kind-found-alike :
    (pool : Pool) (owner : ℕ) (likeness : Likeness) (area : Rect) (found : List LaidTile) (kind : ℕ) → HasPlane pool owner → IsRectangleIn world area
    → MeetArea (block_at (tiles_of pool owner)) area found → All (λ tile. tile.piece.kind ≡ kind) found → ShowsAlike likeness 0 area (picture_in pool owner)
one_kind-found-alike pool owner likeness area found kind plane legal are same =
    one_kind-alike likeness 0 kind area (picture_in pool owner) legal
    (λ x y near. one_kind-found pool owner area found kind plane are same x y (holds-IsWithin area (grown 0 area) x y (grown-none area) near))

-- where all tiles found in an area span it, the plane has the likeness in the area
pub alike-found :
    (pool : Pool) (owner : ℕ) (likeness : Likeness) (area : Rect) (found : List LaidTile) → HasPlane pool owner → IsRectangleIn world area
    → MeetArea (block_at (tiles_of pool owner)) area found → All (λ tile. Spans likeness tile.piece.rect area) found → ShowsAlike likeness 0 area (picture_in pool owner)
alike-found pool owner likeness area found plane legal are across x y near =
    let column = like_column likeness area x in
    let row = like_row likeness area y in
    let legal' = grown-IsRectangleIn 0 world area legal in
    let here = holds-IsWithin area (grown 0 area) x y (grown-none area) near in
    let there = holds-IsWithin area (grown 0 area) column row (grown-none area) (like-holds likeness (grown 0 area) area x y legal' near) in
    let (k, tile, within, is, held) = are.whole x y here in
    let spans = All-contains (λ (t : LaidTile). Spans likeness t.piece.rect area) found tile across (k, within, is) in
    let held' = Spans-holds likeness tile.piece.rect area area x y column row spans (sym (like_column-again likeness area area x)) (sym (like_row-again likeness area area y)) there held in
    let shown = All-contains (λ (t : LaidTile). Shows (picture_in pool owner) t.piece) found tile (found-Shows pool owner plane area found are) (k, within, is) in
    shown x y held ∙ sym (shown column row held')

-- ---- round a rectangle
-- the zone has the squares of the world
pub in_zone : (h : ℕ) (rect zone : Rect) (x y : ℕ) → zone ≡ common (grown h rect) world → holds (grown h rect) x y ≡ true → holds world x y ≡ true → holds zone x y ≡ true
in_zone h rect zone x y is here inside =
    ap (λ (e : Rect). holds e x y) is ∙ holds_common (grown h rect) world x y ∙ and_from (holds (grown h rect) x y) (holds world x y) here inside

-- what shows nothing in the zone shows nothing round the rectangle, where it shows nothing outside the world
pub zone-space :
    (likeness : Likeness) (h : ℕ) (rect zone : Rect) (picture : Picture) → IsRectangleIn world rect → zone ≡ common (grown h rect) world
    → ((x y : ℕ) → holds zone x y ≡ true → picture x y ≡ 0) → ((x y : ℕ) → holds world x y ≡ false → picture x y ≡ 0) → ShowsAlike likeness h rect picture
zone-space likeness h rect zone picture legal is none beyond = one_kind-alike likeness h 0 rect picture legal (λ x y here. elim (cases_Bool (holds world x y)) [
  | inl inside ↦ none x y (in_zone h rect zone x y is here inside)
  | inr outside ↦ beyond x y outside
])

-- so does a plane whose tiles in the zone are all space
pub zone-space-found :
    (pool : Pool) (owner h : ℕ) (likeness : Likeness) (rect zone : Rect) (found : List LaidTile) → HasPlane pool owner → IsRectangleIn world rect
    → zone ≡ common (grown h rect) world → MeetArea (block_at (tiles_of pool owner)) zone found → All (λ tile. tile.piece.kind ≡ 0) found
    → ShowsAlike likeness h rect (picture_in pool owner)
zone-space-found pool owner h likeness rect zone found plane legal is are none =
    zone-space likeness h rect zone (picture_in pool owner) legal is (one_kind-found pool owner zone found 0 plane are none)
    (λ x y outside. shown-outside (tiles_of pool owner) x y plane.plane (KeysDiffer-tiles_of pool owner) outside)

-- a picture that is space outside an extent, and shows the same in those like squares that are both in it, has the likeness round the rectangle, where the extent spans that
pub alike-extent :
    (likeness : Likeness) (h : ℕ) (rect extent : Rect) (picture : Picture) → IsRectangleIn world rect → Spans likeness extent (grown h rect)
    → ((x y : ℕ) → holds extent x y ≡ false → picture x y ≡ 0)
    → ((x y a b : ℕ) → like_column likeness rect x ≡ like_column likeness rect a → like_row likeness rect y ≡ like_row likeness rect b
    → holds (grown h rect) x y ≡ true → holds (grown h rect) a b ≡ true → holds extent x y ≡ true → holds extent a b ≡ true → picture x y ≡ picture a b)
    → ShowsAlike likeness h rect picture
alike-extent likeness h rect extent picture legal spans space same x y here =
    let column = like_column likeness rect x in
    let row = like_row likeness rect y in
    let to_column = sym (like_column-again likeness rect rect x) in
    let to_row = sym (like_row-again likeness rect rect y) in
    let there = like-holds likeness (grown h rect) rect x y (grown-IsRectangleIn h world rect legal) here in
    elim (cases_Bool (holds extent x y)) [
      | inl inside ↦ same x y column row to_column to_row here there inside (Spans-holds likeness extent (grown h rect) rect x y column row spans to_column to_row there inside)
      | inr outside ↦ (
          let outside' : holds extent column row ≡ false = false_from_ne_true (holds extent column row)
          (λ within. both_ways (holds extent x y) outside (Spans-holds likeness extent (grown h rect) rect column row x y spans (sym to_column) (sym to_row) here within)) in
          space x y outside ∙ sym (space column row outside'))
    ]

-- a plane that has a likeness in the zone has it round the rectangle, where the world spans that
pub alike-zone :
    (pool : Pool) (owner h : ℕ) (likeness : Likeness) (rect zone : Rect) → HasPlane pool owner → IsRectangleIn world rect → zone ≡ common (grown h rect) world
    → Spans likeness world (grown h rect) → ShowsAlike likeness 0 zone (picture_in pool owner) → ShowsAlike likeness h rect (picture_in pool owner)
alike-zone pool owner h likeness rect zone plane legal is spans alike =
    alike-extent likeness h rect world (picture_in pool owner) legal spans
    (λ x y outside. shown-outside (tiles_of pool owner) x y plane.plane (KeysDiffer-tiles_of pool owner) outside)
    (λ x y a b column row here there inside inside'.
    alike-same likeness 0 zone (picture_in pool owner) x y a b alike
    (sym (like_column-again likeness zone rect x) ∙ ap (like_column likeness zone) column ∙ like_column-again likeness zone rect a)
    (sym (like_row-again likeness zone rect y) ∙ ap (like_row likeness zone) row ∙ like_row-again likeness zone rect b)
    (grown-holds 0 zone x y (in_zone h rect zone x y is here inside)) (grown-holds 0 zone a b (in_zone h rect zone a b is there inside')))
