-- A list of the strips of a picture is the one that is made from its squares.
use Rattle.mls_geom.proofs.Common.{◌≡◌, ℕ, ◌<◌, Bool, true, List, [], ◌∷◌, ◌++◌, map, flat_map, filter, length, get_or, All, refl, sym, ap, subst₂, ◌∙◌, le_refl, lt_of_lt_of_le, arith, eq-eqb, eqb-true, and_from, and_parts, false_from_ne_true, map-append, length-map, get_or-map, same_lists, map-map}
use Rattle.mls_geom.proofs.Definitions.{Rect, Picture, columns, rows, has_run_of, rows_end, strip_from, strips_of, IsRun, IsStrip, AreStrips, run_end, is_corner, Piece}
use Rattle.mls_geom.proofs.RunTests.{front, starts_run-IsRun, run_end-IsRun, IsRun-from_tests}
use Rattle.mls_geom.proofs.Squares.{row_where, squares_where}
use Rattle.mls_geom.proofs.StripLaws.{corners, corner_of, corners-AreStrips}

-- a row that has this run passes the test
pub has_run_of-IsRun :
    (extent : Rect) (picture : Picture) (left right y z kind : ℕ) → IsRun extent picture left right y kind → IsRun extent picture left right z kind
    → has_run_of extent picture left y z ≡ true
has_run_of-IsRun extent picture left right y z kind run other =
    let kinds = other.one_kind left (le_refl left) other.wide ∙ sym (run.one_kind left (le_refl left) run.wide) in
    let ends = run_end-IsRun extent picture left right z kind other ∙ sym (run_end-IsRun extent picture left right y kind run) in
    and_from _ _ (and_from _ _ (starts_run-IsRun extent picture left right z kind other) (eq-eqb (picture left z) (picture left y) kinds))
    (eq-eqb (run_end extent picture left z) (run_end extent picture left y) ends)

-- and one that passes it has this run
pub IsRun-has_run_of :
    (extent : Rect) (picture : Picture) (left right y z kind : ℕ) → IsRun extent picture left right y kind → has_run_of extent picture left y z ≡ true
    → IsRun extent picture left right z kind
IsRun-has_run_of extent picture left right y z kind run same =
    let tests = and_parts _ _ same in
    let two = and_parts _ _ tests.0 in
    let other = IsRun-from_tests extent picture left z run.from (lt_of_lt_of_le run.wide run.to) two.0 in
    let ends = eqb-true (run_end extent picture left z) (run_end extent picture left y) tests.1 ∙ run_end-IsRun extent picture left right y kind run in
    let kinds = eqb-true (picture left z) (picture left y) two.1 ∙ run.one_kind left (le_refl left) run.wide in
    subst₂ (λ (r k : ℕ). IsRun extent picture left r z k) ends kinds other

-- so the rows of a strip end at its top
rows_end-IsStrip : (extent : Rect) (picture : Picture) (piece : Piece) → IsStrip extent picture piece → rows_end extent picture piece.rect.left piece.rect.bottom ≡ piece.rect.top
rows_end-IsStrip extent picture piece strip =
    let left = piece.rect.left in
    let right = piece.rect.right in
    let bottom = piece.rect.bottom in
    let run = strip.rows bottom (le_refl bottom) strip.tall in
    front (λ z. has_run_of extent picture left bottom z) bottom extent.top piece.rect.top (omega (arith, strip.tall)) strip.to
    (λ z above below. has_run_of-IsRun extent picture left right bottom z piece.kind run (strip.rows z above below))
    (λ below. false_from_ne_true _ (λ same. strip.ends_above below (IsRun-has_run_of extent picture left right bottom piece.rect.top piece.kind run same)))

-- a strip is the one that is made from its lower-left square
pub strip_from-IsStrip : (extent : Rect) (picture : Picture) (piece : Piece) → IsStrip extent picture piece → strip_from extent picture piece.rect.left piece.rect.bottom ≡ piece
unfolding strip_from
strip_from-IsStrip extent picture piece strip =
    let run = strip.rows piece.rect.bottom (le_refl piece.rect.bottom) strip.tall in
    let right = run_end-IsRun extent picture piece.rect.left piece.rect.right piece.rect.bottom piece.kind run in
    let top = rows_end-IsStrip extent picture piece strip in
    let kind = run.one_kind piece.rect.left (le_refl piece.rect.left) run.wide in
    λ i. record { rect = record { left = piece.rect.left; bottom = piece.rect.bottom; right = right i; top = top i }; kind = kind i }

-- what is made of each square that passes, row by row
map-squares_where :
    (make : ℕ → ℕ → Piece) (test : ℕ → ℕ → Bool) (columns rows : List ℕ)
    → map (λ s. make s.0 s.1) (squares_where test columns rows) ≡ flat_map (λ y. map (λ x. make x y) (filter (λ x. test x y) columns)) rows
map-squares_where make test columns [] = refl
map-squares_where make test columns (y ∷ rows) =
    map-append (λ s. make s.0 s.1) (row_where test columns y) (squares_where test columns rows)
    ∙ ap (λ l. l ++ map (λ s. make s.0 s.1) (squares_where test columns rows)) (map-map (λ s. make s.0 s.1) (λ x. (x, y)) (filter (λ x. test x y) columns))
    ∙ ap (λ l. map (λ x. make x y) (filter (λ x. test x y) columns) ++ l) (map-squares_where make test columns rows)

-- the strips that are made from the corners
pub strips_of-corners : (extent : Rect) (picture : Picture) → map (λ s. strip_from extent picture s.0 s.1) (corners extent picture) ≡ strips_of extent picture
unfolding corners strips_of
strips_of-corners extent picture = map-squares_where (strip_from extent picture) (is_corner extent picture) (columns extent) (rows extent)

-- strips, each made from its lower-left square
map-strip_from :
    (extent : Rect) (picture : Picture) (list : List Piece) → All (IsStrip extent picture) list → map (λ s. strip_from extent picture s.0 s.1) (map corner_of list) ≡ list
map-strip_from extent picture list strips =
    let make = λ (piece : Piece). strip_from extent picture piece.rect.left piece.rect.bottom in
    map-map (λ s. strip_from extent picture s.0 s.1) corner_of list
    ∙ same_lists (map make list) list (length-map list make)
    (λ k d within.
    let within' : k < length list = omega (arith, length-map list make) in
    get_or-map make list k d d within' ∙ strip_from-IsStrip extent picture (get_or list k d) (strips k d within'))

-- the list of the strips of a picture
pub strips_are_listed : (extent : Rect) (picture : Picture) (list : List Piece) → AreStrips extent picture list → list ≡ strips_of extent picture
strips_are_listed extent picture list strips =
    sym (map-strip_from extent picture list strips.each) ∙ ap (map (λ s. strip_from extent picture s.0 s.1)) (corners-AreStrips extent picture list strips)
    ∙ strips_of-corners extent picture
