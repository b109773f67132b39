-- What an error plane shows once a finding's piece is marked on it.
use Rattle.std.proofs.Common.{◌≡◌, ◌≢◌, ℕ, nat_lt, ◌<◌, ◌==◌, Bool, not, ◌&&◌, true, false, if◌then◌else◌, List, [], ◌∷◌, All, Option, Some, None, Result, Ok, Err, IfOk, slice_get, refl, sym, ap, subst, ◌∙◌, lt-ltb, ltb-true}
use Rattle.std.proofs.Math.Path.{fun_ext}
use Rattle.std.proofs.lemmas.Bool.{false_from_ne_true}
use Rattle.std.proofs.lemmas.Option.{get_or_from_slice_get, none-some, slice_get_within}
use Rattle.mls_errorplane.proofs.Common.{AgreeOutside, Checking, EdgeRule, Finding, HasPlane, HasStepped, IsExact, Layout, Marks, Picture, Pool, Rect, Snapshot, SquareSet, Uses, checked_marks, copied_layout, dropped, first_piece_of, flat_layout, forbidden, holds, is_marked, layout_in, marks, marks_picture, picture_at, remarked, tile_count, tiles_of, within, world}
use Rattle.mls_stitch.proofs.ShownTiles.{KeysDiffer-tiles_of, shown-outside}
use Rattle.mls_layout.proofs.FlatLayouts.{flat_layout-outside}
use Rattle.mls_checker.proofs.Locality.{forbidden_same_within}
use Rattle.mls_errorplane.specs.declared.error_plane.Stepped.TheVariants.{Done, Full}

-- ---- marks and pictures of them
two_kinds : (marked : Bool) → not ((if marked then 1 else 0) == 0) ≡ marked
two_kinds true = refl
two_kinds false = refl

-- a picture of marks marks those
pub marked-marks_picture : (set : SquareSet) → is_marked (marks_picture set) ≡ set
marked-marks_picture set = fun_ext (λ x. fun_ext (λ y. two_kinds (set x y)))

abbrev pub mark_kind : Bool → ℕ
mark_kind marked = if marked then 1 else 0

pub marked_either : (inside set new old : Bool) → (inside ≡ true → set ≡ new) → (if inside then mark_kind set else mark_kind old) ≡ mark_kind (if inside then new else old)
marked_either true set new old same = ap mark_kind (same refl)
marked_either false set new old same = refl

-- where the set has in the piece what the rules forbid, a picture of marks becomes a picture of the checked marks
pub remarked-marks_picture :
    (rules : List EdgeRule) (layout : Layout) (piece : Rect) (set old : SquareSet) → ((x y : ℕ) → holds piece x y ≡ true → set x y ≡ forbidden rules layout x y)
    → remarked (marks_picture old) piece set ≡ marks_picture (checked_marks rules layout (Some piece) old)
remarked-marks_picture rules layout piece set old same =
    fun_ext (λ x. fun_ext (λ y. marked_either (holds piece x y) (set x y) (forbidden rules layout x y) (old x y) (same x y)))

-- ---- findings
-- in a snapshot of a layout that is space outside the world, exact marks are what the rules forbid in the layout
pub exact-forbidden :
    (rules : List EdgeRule) (piece : Rect) (layout : Layout) (snapshot : Snapshot) (found : Marks) → IsExact piece snapshot rules found
    → copied_layout snapshot ≡ within snapshot.zone layout → AgreeOutside world layout (λ plane x y. 0)
    → (x y : ℕ) → holds piece x y ≡ true → marks found x y ≡ forbidden rules layout x y
exact-forbidden rules piece layout snapshot found exact copied space x y here =
    exact.marks x y ∙ ap (λ b. b && forbidden rules (copied_layout snapshot) x y) here
    ∙ ap (λ (l : Layout). forbidden rules l x y) (copied ∙ ap (λ (zone : Rect). within zone layout) exact.zone)
    ∙ forbidden_same_within rules piece layout space x y here

-- what a check finds in such a snapshot
pub found-forbidden :
    {E : Type 0} (rules : List EdgeRule) (piece : Rect) (layout : Layout) (snapshot : Snapshot) (result : Result Finding E) → copied_layout snapshot ≡ within snapshot.zone layout
    → AgreeOutside world layout (λ plane x y. 0) → IfOk result (λ f. f.piece ≡ piece) → IfOk result (λ f. f.snapshot ≡ snapshot) → IfOk result (λ f. f.rules ≡ rules)
    → IfOk result (λ f. IsExact f.piece f.snapshot f.rules f.marks)
    → IfOk result (λ f. (x y : ℕ) → holds piece x y ≡ true → marks f.marks x y ≡ forbidden rules layout x y)
found-forbidden rules piece layout snapshot (Ok f) copied space same_piece same_snapshot same_rules exact = λ x y here.
    exact-forbidden f.rules f.piece layout f.snapshot f.marks exact (subst (λ (s : Snapshot). copied_layout s ≡ within s.zone layout) (sym same_snapshot) copied) space x y
    (ap (λ (e : Rect). holds e x y) same_piece ∙ here)
    ∙ ap (λ (list : List EdgeRule). forbidden list layout x y) same_rules
found-forbidden rules piece layout snapshot (Err e) copied space same_piece same_snapshot same_rules exact = same_piece

-- the first piece that awaits checking, marked as the rules forbid on a plane that shows marks alone
pub checked-marks_picture :
    (rules : List EdgeRule) (layout : Layout) (dirty : List Rect) (piece marked : Rect) (old : Picture) (set : SquareSet) → first_piece_of dirty ≡ Some piece
    → marked ≡ piece → ((x y : ℕ) → holds piece x y ≡ true → set x y ≡ forbidden rules layout x y) → old ≡ marks_picture (is_marked old)
    → remarked old marked set ≡ marks_picture (checked_marks rules layout (first_piece_of dirty) (is_marked old))
checked-marks_picture rules layout dirty piece marked old set first same right shows =
    ap (λ (below : Picture). remarked below marked set) shows ∙ ap (λ (e : Rect). remarked (marks_picture (is_marked old)) e set) same
    ∙ remarked-marks_picture rules layout piece set (is_marked old) right
    ∙ ap (λ (at : Option Rect). marks_picture (checked_marks rules layout at (is_marked old))) (sym first)

-- a plane that shows a picture of marks shows marks alone
pub marks_picture-alone : (picture : Picture) (set : SquareSet) → picture ≡ marks_picture set → picture ≡ marks_picture (is_marked picture)
marks_picture-alone picture set shows = shows ∙ ap marks_picture (sym (ap is_marked shows ∙ marked-marks_picture set))

-- ---- steps
-- a list with a first piece isn't empty
pub has_piece : (dirty : List Rect) (piece : Rect) → first_piece_of dirty ≡ Some piece → dirty ≢ []
has_piece [] piece first none = none-some piece first
has_piece (area ∷ rest) piece first none = absurd (cc)

abbrev pub checking_with : SquareSet → List Rect → Checking
checking_with marks dirty = record { marks = marks; dirty = dirty }

lt-false : (a b : ℕ) → (a < b → ⊥) → nat_lt a b ≡ false
lt-false a b not_less = false_from_ne_true (nat_lt a b) (λ is. not_less (ltb-true a b is))

made : (marks others : SquareSet) (dirty left : List Rect) → marks ≡ others → dirty ≡ left → checking_with marks dirty ≡ checking_with others left
made marks others dirty left same same' = ap (λ (m : SquareSet). checking_with m dirty) same ∙ ap (λ (d : List Rect). checking_with others d) same'

abbrev checking : Picture → List Rect → Checking
checking picture dirty = record { marks = is_marked picture; dirty = dirty }

-- the step is done: the plane shows the checked marks, and the first piece is dropped
pub HasStepped-Done :
    (rules : List EdgeRule) (layout : Layout) (limit : ℕ) (old new : Picture) (dirty left : List Rect) (piece : Rect) → first_piece_of dirty ≡ Some piece
    → new ≡ marks_picture (checked_marks rules layout (first_piece_of dirty) (is_marked old)) → (limit < tile_count world new → ⊥) → left ≡ dropped dirty
    → HasStepped rules layout limit (checking old dirty) Done (checking new left)
HasStepped-Done rules layout limit old new dirty left piece first shows fits drops =
    let after : SquareSet = checked_marks rules layout (first_piece_of dirty) (is_marked old) in (
      has_piece dirty piece first,
      lt-false limit (tile_count world (marks_picture after)) (λ more. fits (subst (λ (p : Picture). limit < tile_count world p) (sym shows) more)),
      ap (λ (p : Picture). checking p left) shows ∙ made (is_marked (marks_picture after)) after left (dropped dirty) (marked-marks_picture after) drops,
    )

-- the step is refused: the plane would have too many tiles
pub HasStepped-Full :
    (rules : List EdgeRule) (layout : Layout) (limit : ℕ) (old new : Picture) (dirty : List Rect) (piece : Rect) (now : Checking) → first_piece_of dirty ≡ Some piece
    → new ≡ marks_picture (checked_marks rules layout (first_piece_of dirty) (is_marked old)) → limit < tile_count world new → now ≡ checking old dirty
    → HasStepped rules layout limit (checking old dirty) Full now
HasStepped-Full rules layout limit old new dirty piece now first shows more same =
    (has_piece dirty piece first, lt-ltb limit (tile_count world (marks_picture (checked_marks rules layout (first_piece_of dirty) (is_marked old)))) (subst (λ (p : Picture). limit < tile_count world p) shows more), same)

-- ---- planes
-- what planes show outside the world is space
space_at : (pool : Pool) (owners : List ℕ) (plane x y : ℕ) (at : Option ℕ) → slice_get owners plane ≡ at → All (λ owner. HasPlane pool owner) owners → holds world x y ≡ false → picture_at pool at x y ≡ 0
space_at pool owners plane x y None is have outside = refl
space_at pool owners plane x y (Some owner) is have outside =
    let here : HasPlane pool owner = subst (HasPlane pool) (get_or_from_slice_get owners plane owner owner is) (have plane owner (slice_get_within owners plane owner is)) in
    shown-outside (tiles_of pool owner) x y here.plane (KeysDiffer-tiles_of pool owner) outside

layout-AgreeOutside : (pool : Pool) (owners : List ℕ) → All (λ owner. HasPlane pool owner) owners → AgreeOutside world (layout_in pool owners) (λ plane x y. 0)
layout-AgreeOutside pool owners have plane x y outside = space_at pool owners plane x y (slice_get owners plane) refl have outside

-- and so is what they show with uses
pub flat-AgreeOutside :
    (pool : Pool) (uses : Uses) (owners : List ℕ) → All (λ owner. HasPlane pool owner) owners → AgreeOutside world (flat_layout pool uses owners) (λ plane x y. 0)
flat-AgreeOutside pool uses owners have plane x y outside =
    flat_layout-outside pool uses owners plane x y outside ∙ layout-AgreeOutside pool owners have plane x y outside
