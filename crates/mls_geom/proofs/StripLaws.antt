-- The strips of a picture are determined by it, and number its tile count.
use Rattle.mls_geom.proofs.Common.{◌≡◌, ℕ, ◌-◌, ◌<◌, Bool, true, List, map, length, get_or, All, AllPairs, Any, Contains, sym, ap, ◌∙◌, subst₂, le_refl, arith, length-map, get_or-map, same_lists, All-contains, All-map}
use Rattle.mls_geom.proofs.Definitions.{Rect, holds, Picture, columns, rows, IsStrip, AreStrips, is_corner, tile_count, Piece}
use Rattle.mls_geom.proofs.Ascending.{same_ascending, AllPairs-map, Contains-map}
use Rattle.mls_geom.proofs.Corners.{is_corner-IsStrip, corner-IsStrip, same_strip}
use Rattle.mls_geom.proofs.Holds.{holds_between, between_holds}
use Rattle.mls_geom.proofs.StripPictures.{holds-IsStrip}
use Rattle.mls_geom.proofs.Squares.{squares_where, StandsBefore, stands_before_one_way, length-squares_where, All-squares_where, Contains-squares_where, AllPairs-squares_where, AllPairs-range_with_len, Contains-range_with_len, range_with_len-Contains}

-- the lower-left squares of the strips of a picture, row by row
unfoldable pub corners : Rect → Picture → List (ℕ × ℕ)
corners extent picture = squares_where (is_corner extent picture) (columns extent) (rows extent)

-- the lower-left square of a piece
abbrev pub corner_of : Piece → ℕ × ℕ
corner_of piece = (piece.rect.left, piece.rect.bottom)

-- the squares of an extent that pass a test are those of a list by columns and rows
pub squares_there :
    (test : ℕ → ℕ → Bool) (extent : Rect) (x y : ℕ) → holds extent x y ≡ true → test x y ≡ true → Contains (squares_where test (columns extent) (rows extent)) (x, y)
squares_there test extent x y inside passes =
    let lines = holds_between extent x y inside in
    Contains-squares_where test (columns extent) (rows extent) x y (Contains-range_with_len extent.left extent.right x lines.0 lines.1)
    (Contains-range_with_len extent.bottom extent.top y lines.2 lines.3) passes

-- and what holds of each of them holds of each of the list
pub All-squares :
    (P : ℕ × ℕ → Type 0) (test : ℕ → ℕ → Bool) (extent : Rect) → ((x y : ℕ) → holds extent x y ≡ true → test x y ≡ true → P (x, y))
    → All P (squares_where test (columns extent) (rows extent))
All-squares P test extent each =
    All-squares_where P test (columns extent) (rows extent)
    (λ x y column row passes.
    let across = range_with_len-Contains extent.left extent.right x column in
    let up = range_with_len-Contains extent.bottom extent.top y row in
    each x y (between_holds extent x y across.0 across.1 up.0 up.1) passes)

-- each corner is among them
pub corner_there : (extent : Rect) (picture : Picture) (x y : ℕ) → holds extent x y ≡ true → is_corner extent picture x y ≡ true → Contains (corners extent picture) (x, y)
unfolding corners
corner_there extent picture x y inside corner = squares_there (is_corner extent picture) extent x y inside corner

-- and what holds of each corner holds of each of them
pub All-corners :
    (P : ℕ × ℕ → Type 0) (extent : Rect) (picture : Picture) → ((x y : ℕ) → holds extent x y ≡ true → is_corner extent picture x y ≡ true → P (x, y))
    → All P (corners extent picture)
unfolding corners
All-corners P extent picture each = All-squares P (is_corner extent picture) extent each

-- a strip has its lower-left square among them
pub strip_corner_there : (extent : Rect) (picture : Picture) (piece : Piece) → IsStrip extent picture piece → Contains (corners extent picture) (corner_of piece)
strip_corner_there extent picture piece strip =
    let run = strip.rows piece.rect.bottom (le_refl piece.rect.bottom) strip.tall in
    let inside = between_holds piece.rect piece.rect.left piece.rect.bottom (le_refl piece.rect.left) run.wide (le_refl piece.rect.bottom) strip.tall in
    corner_there extent picture piece.rect.left piece.rect.bottom (holds-IsStrip extent picture piece piece.rect.left piece.rect.bottom strip inside)
    (is_corner-IsStrip extent picture piece strip)

-- a corner that lies in a strip of the list is that of a strip of the list
pub strip_there :
    (extent : Rect) (picture : Picture) (list : List Piece) (x y : ℕ) → All (IsStrip extent picture) list → Any (λ piece. holds piece.rect x y ≡ true) list
    → is_corner extent picture x y ≡ true → Contains (map corner_of list) (x, y)
strip_there extent picture list x y strips found corner =
    let piece = found.1 in
    let in_list : Contains list piece = (found.0, found.2, found.3) in
    let lines = corner-IsStrip extent picture piece x y (All-contains (IsStrip extent picture) list piece strips in_list) found.4 corner in
    subst₂ (λ a b. Contains (map corner_of list) (a, b)) lines.0 lines.1 (Contains-map corner_of list piece in_list)

pub corners_ascend : (extent : Rect) (picture : Picture) → AllPairs StandsBefore (corners extent picture)
unfolding corners
corners_ascend extent picture =
    AllPairs-squares_where (is_corner extent picture) (columns extent) (rows extent) (AllPairs-range_with_len extent.left (extent.right - extent.left))
    (AllPairs-range_with_len extent.bottom (extent.top - extent.bottom))

-- so the strips have just these lower-left squares, in this order
pub corners-AreStrips : (extent : Rect) (picture : Picture) (list : List Piece) → AreStrips extent picture list → map corner_of list ≡ corners extent picture
corners-AreStrips extent picture list strips =
    let there = All-map (Contains (corners extent picture)) corner_of list (λ k d within. strip_corner_there extent picture (get_or list k d) (strips.each k d within)) in
    let back =
    All-corners (Contains (map corner_of list)) extent picture
    (λ x y inside corner. strip_there extent picture list x y strips.each (strips.whole x y inside) corner) in
    same_ascending StandsBefore stands_before_one_way (map corner_of list) (corners extent picture) (AllPairs-map StandsBefore corner_of list strips.ordered)
    (corners_ascend extent picture) (λ s. All-contains (Contains (corners extent picture)) (map corner_of list) s there)
    (λ s. All-contains (Contains (map corner_of list)) (corners extent picture) s back)

-- two lists of strips of one picture are one
pub strips_are_one : (extent : Rect) (picture : Picture) (xs ys : List Piece) → AreStrips extent picture xs → AreStrips extent picture ys → xs ≡ ys
strips_are_one extent picture xs ys strips others =
    let same = corners-AreStrips extent picture xs strips ∙ sym (corners-AreStrips extent picture ys others) in
    let lengths : length xs ≡ length ys = sym (length-map xs corner_of) ∙ ap length same ∙ length-map ys corner_of in
    same_lists xs ys lengths
    (λ k d within.
    let within' : k < length ys = omega arith in
    let at = sym (get_or-map corner_of xs k d (corner_of d) within) ∙ ap (λ l. get_or l k (corner_of d)) same ∙ get_or-map corner_of ys k d (corner_of d) within' in
    same_strip extent picture (get_or xs k d) (get_or ys k d) (strips.each k d within) (others.each k d within') (ap (λ s. s.0) at) (ap (λ s. s.1) at))

-- the corners of a picture number its tile count
pub length-corners : (extent : Rect) (picture : Picture) → length (corners extent picture) ≡ tile_count extent picture
unfolding corners tile_count
length-corners extent picture = length-squares_where (is_corner extent picture) (columns extent) (rows extent)

-- and so do its strips
pub strips_number : (extent : Rect) (picture : Picture) (list : List Piece) → AreStrips extent picture list → length list ≡ tile_count extent picture
strips_number extent picture list strips =
    sym (length-map list corner_of) ∙ ap length (corners-AreStrips extent picture list strips) ∙ length-corners extent picture
