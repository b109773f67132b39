-- Parts beside which tiles show a set of squares.
use Rattle.std.proofs.Common.{◌≡◌, ℕ, ◌+◌, ◌-◌, ◌<◌, true, if◌then◌else◌, inl, inr, List, get_or, length, take, All, refl, sym, ap, subst, ◌∙◌, arith}
use Rattle.std.proofs.Math.Path.{fun_ext}
use Rattle.std.proofs.lemmas.Bool.{both_ways, cases_Bool, cond-false, cond-true, false_from_ne_true}
use Rattle.std.proofs.lemmas.List.Elements.{All-contains, All-push}
use Rattle.mls_errorplane.proofs.Common.{Finding, HasPlane, IsRectangleIn, IsWithin, LaidTile, Marks, MeetArea, Paints, Piece, Pool, Rect, ShowsBeside, SquareSet, block_at, has_squares, holds, marks, overlaid, picture_in, remarked, tiles_of}
use Rattle.mls_geom.proofs.Holds.{between_holds, has_squares_lines, holds_between}
use Rattle.mls_checker.proofs.Copying.{found-HasPiece}
use Rattle.mls_checker.proofs.Prefixes.{take_next}
use Rattle.mls_errorplane.proofs.PaintedPieces.{holds_inside, overlaid-part}

-- ---- areas
-- an area with squares, all of them a rectangle's, goes no further than that
pub within-from_squares : (outer e : Rect) → has_squares e ≡ true → ((x y : ℕ) → holds e x y ≡ true → holds outer x y ≡ true) → IsWithin outer e
within-from_squares outer e some inside =
    let lines = has_squares_lines e some in
    let first = holds_between outer e.left e.bottom (inside e.left e.bottom (between_holds e e.left e.bottom (omega arith) lines.0 (omega arith) lines.1)) in
    let last =
    holds_between outer (e.right - 1) (e.top - 1)
    (inside (e.right - 1) (e.top - 1)
    (between_holds e (e.right - 1) (e.top - 1) (omega (arith, lines.0)) (omega (arith, lines.0)) (omega (arith, lines.1)) (omega (arith, lines.1)))) in
    record { left = first.0; bottom = first.2; right = omega (arith, last.1, lines.0); top = omega (arith, last.3, lines.1) }

-- ---- tiles
-- where more squares are left out, a tile shows the set beside them, too
beside-wider :
    (rect part wider : Rect) (set : SquareSet) (tile : LaidTile) → ((x y : ℕ) → holds part x y ≡ true → holds wider x y ≡ true) → ShowsBeside rect part set tile
    → ShowsBeside rect wider set tile
beside-wider rect part wider set tile more shows x y here out held =
    shows x y here (false_from_ne_true (holds part x y) (λ inside. both_ways (holds wider x y) out (more x y inside))) held

-- tiles so far and the next
pub beside-next :
    (rect part wider : Rect) (set : SquareSet) (tiles : List LaidTile) (i : ℕ) (tile : LaidTile) → i < length tiles → tile ≡ get_or tiles i tile
    → ((x y : ℕ) → holds part x y ≡ true → holds wider x y ≡ true) → All (ShowsBeside rect part set) (take i tiles) → ShowsBeside rect wider set tile
    → All (ShowsBeside rect wider set) (take (i + 1) tiles)
beside-next rect part wider set tiles i tile within is more shows new =
    rw (take_next tiles i tile within is)
    (All-push (ShowsBeside rect wider set) (take i tiles) tile (λ k d at. beside-wider rect part wider set (get_or (take i tiles) k d) more (shows k d at)) new)

-- ---- pictures
-- where tiles show a set beside a part, marking the part anew is marking the rectangle anew
pub remarked-part :
    (pool : Pool) (owner : ℕ) (rect part : Rect) (found : List LaidTile) (set : SquareSet) → HasPlane pool owner → MeetArea (block_at (tiles_of pool owner)) rect found
    → IsRectangleIn rect part → All (ShowsBeside rect part set) found → remarked (picture_in pool owner) part set ≡ remarked (picture_in pool owner) rect set
remarked-part pool owner rect part found set plane are inside shows = fun_ext (λ x. fun_ext (λ y.
    let below = picture_in pool owner x y in
    let marked : ℕ = if set x y then 1 else 0 in
    elim (cases_Bool (holds part x y)) [
      | inl here ↦ cond-true (holds part x y) marked below here ∙ sym (cond-true (holds rect x y) marked below (holds_inside rect part x y inside here))
      | inr out ↦ cond-false (holds part x y) marked below out ∙ elim (cases_Bool (holds rect x y)) [
        | inl here ↦ (let (k, tile, within, is, held) = are.whole x y here in
            found-HasPiece pool owner rect found found k tile plane are refl within (sym is) x y held
            ∙ All-contains (ShowsBeside rect part set) found tile shows (k, within, is) x y here out held
            ∙ sym (cond-true (holds rect x y) marked below here))
        | inr outside ↦ sym (cond-false (holds rect x y) marked below outside)
      ]
    ]))

-- so painting the part gives the picture with the finding's marks
pub overlaid-found :
    (pool : Pool) (owner : ℕ) (pieces over : List Piece) (part area : Rect) (found : Marks) (finding : Finding) (tiles listed : List LaidTile) → HasPlane pool owner
    → MeetArea (block_at (tiles_of pool owner)) area tiles → area ≡ found.rect → listed ≡ tiles → IsRectangleIn found.rect part
    → All (ShowsBeside found.rect part (marks found)) listed → Paints pieces part (marks found) → over ≡ pieces → found ≡ finding.marks → finding.marks.rect ≡ finding.piece
    → overlaid (picture_in pool owner) over ≡ remarked (picture_in pool owner) finding.piece (marks finding.marks)
overlaid-found pool owner pieces over part area found finding tiles listed plane are of_marks same inside shows paints named is of_piece =
    let below = picture_in pool owner in
    let here : MeetArea (block_at (tiles_of pool owner)) found.rect listed =
    subst (λ (list : List LaidTile). MeetArea (block_at (tiles_of pool owner)) found.rect list) (sym same)
    (subst (λ (e : Rect). MeetArea (block_at (tiles_of pool owner)) e tiles) of_marks are) in
    overlaid-part pieces over part (marks found) below paints named
    ∙ remarked-part pool owner found.rect part listed (marks found) plane here inside shows
    ∙ ap (λ (m : Marks). remarked below m.rect (marks m)) is ∙ ap (λ (e : Rect). remarked below e (marks finding.marks)) of_piece
