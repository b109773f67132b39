-- The rectangles of a saved layout show it.
use Rattle.std.proofs.Common.{◌≡◌, ◌≢◌, ℕ, zero, suc, ◌+◌, ◌-◌, ◌≤◌, ◌==◌, Bool, true, false, List, [], ◌∷◌, ◌++◌, length, map, flat_map, filter, get_or, All, Any, Contains, Option, Some, None, if◌then◌else◌, refl, sym, ap, subst, ⊎_elim, ◌∙◌, suc-le-suc, le_of_suc-le-suc, arith}
use Rattle.std.specs.Prelude.{slice_get}
use Rattle.std.specs.List.{range_with_len}
use Rattle.std.proofs.Math.Path.{fun_ext}
use Rattle.std.proofs.lemmas.Bool.{cases_eq, cond_both, eq-eqb, eqb-true, ne_eqb, true_from_ne_false}
use Rattle.std.proofs.lemmas.List.Elements.{All-append, All-cons, All-filter, All-head, All-map, All-nil, All-tail, Contains-get_or}
use Rattle.std.proofs.lemmas.Option.{none-some, slice_get_within}
use Rattle.mls_geom.specs.Layouts.{Layout}
use Rattle.mls_geom.specs.Pictures.{empty_picture, picture_of}
use Rattle.mls_geom.specs.Rects.{holds}
use Rattle.mls_geom.specs.Strips.{AreStrips, IsStrip}
use Rattle.mls_geom.specs.World.{world}
use Rattle.mls_geom.specs.declared.piece.Piece.{Piece}
use Rattle.mls_geom.proofs.Overlays.{Agrees, overlaid_agreed, overlaid_stays}
use Rattle.mls_geom.proofs.Squares.{Contains-range_with_len, range_with_len-Contains}
use Rattle.mls_geom.proofs.StripPictures.{kind-IsStrip}
use Rattle.mls_tech.specs.Readings.{Tech, plane_of_type}
use Rattle.mls_library.specs.CellFiles.{layout_of_rects, pieces_on}
use Rattle.mls_library.specs.SavedCells.{HoldsOwnTypes, of_kind, type_numbers}
use Rattle.mls_library.specs.declared.cell_rect.CellRect.{CellRect}
use Rattle.mls_library.proofs.SavedReading.{layer_rects, layers_rects, on_plane}

-- ---- some element
module _ {X : Type 0} (P : X → Type 0) where
  Any-here : (x : X) (xs : List X) → P x → Any P (x ∷ xs)
  Any-here x xs p = (0, x, omega arith, refl, p)

  Any-there : (x : X) (xs : List X) → Any P xs → Any P (x ∷ xs)
  Any-there x xs (k, y, within, is, p) = (suc k, y, suc-le-suc within, is, p)

  Any-append_left : (xs ys : List X) → Any P xs → Any P (xs ++ ys)
  Any-append_left [] ys (k, y, within, is, p) = absurd (omega (arith, within))
  Any-append_left (x ∷ xs) ys (zero, y, within, is, p) = Any-here x (xs ++ ys) (subst P (sym is) p)
  Any-append_left (x ∷ xs) ys (suc k, y, within, is, p) = Any-there x (xs ++ ys) (Any-append_left xs ys (k, y, le_of_suc-le-suc within, is, p))

  Any-append_right : (xs ys : List X) → Any P ys → Any P (xs ++ ys)
  Any-append_right [] ys some = some
  Any-append_right (x ∷ xs) ys some = Any-there x (xs ++ ys) (Any-append_right xs ys some)

  Any-flat_map : {Y : Type 0} (f : Y → List X) (ys : List Y) (y : Y) → Contains ys y → Any P (f y) → Any P (flat_map f ys)
  Any-flat_map f [] y (k, within, is) some = absurd (omega (arith, within))
  Any-flat_map f (z ∷ ys) y (zero, within, is) some = Any-append_left (f z) (flat_map f ys) (subst (λ w. Any P (f w)) (sym is) some)
  Any-flat_map f (z ∷ ys) y (suc k, within, is) some = Any-append_right (f z) (flat_map f ys) (Any-flat_map f ys y (k, le_of_suc-le-suc within, is) some)

  All-flat_map : {Y : Type 0} (f : Y → List X) (ys : List Y) → ((y : Y) → All P (f y)) → All P (flat_map f ys)
  All-flat_map f [] each = All-nil P
  All-flat_map f (y ∷ ys) each = All-append P (f y) (flat_map f ys) (each y) (All-flat_map f ys each)

  Any-filter : (test : X → Bool) (xs : List X) → Any (λ x. (test x ≡ true) × P x) xs → Any P (filter test xs)
  Any-filter test [] (k, y, within, is, p) = absurd (omega (arith, within))
  Any-filter test (x ∷ xs) (zero, y, within, is, p) =
      let passes : test x ≡ true = ap test is ∙ p.0 in
      subst (Any P) (ap (λ t. if t then x ∷ filter test xs else filter test xs) (sym passes)) (Any-here x (filter test xs) (subst P (sym is) p.1))
  Any-filter test (x ∷ xs) (suc k, y, within, is, p) =
      let later = Any-filter test xs (k, y, le_of_suc-le-suc within, is, p) in
      cond_both (test x) (x ∷ filter test xs) (filter test xs) (Any P) (λ passes. Any-there x (filter test xs) later) (λ fails. later)

  Any-map : {Y : Type 0} (f : Y → X) (ys : List Y) → Any (λ y. P (f y)) ys → Any P (map f ys)
  Any-map f [] (k, y, within, is, p) = absurd (omega (arith, within))
  Any-map f (z ∷ ys) (zero, y, within, is, p) = Any-here (f z) (map f ys) (subst (λ w. P (f w)) (sym is) p)
  Any-map f (z ∷ ys) (suc k, y, within, is, p) = Any-there (f z) (map f ys) (Any-map f ys (k, y, le_of_suc-le-suc within, is, p))

-- ---- the pieces on a plane
module _ (P : Piece → Type 0) (plane : ℕ) where
  pub All-pieces_on : (rects : List CellRect) → All (λ painted. painted.plane ≡ plane → P painted.piece) rects → All P (pieces_on plane rects)
  All-pieces_on [] all = All-nil P
  All-pieces_on (rect ∷ rects) all =
      let later = All-pieces_on rects (All-tail (λ painted. painted.plane ≡ plane → P painted.piece) rect rects all) in
      cond_both (rect.plane == plane) (rect ∷ filter (λ painted. painted.plane == plane) rects) (filter (λ painted. painted.plane == plane) rects)
      (λ kept. All P (map (λ painted. painted.piece) kept))
      (λ same. All-cons P rect.piece (pieces_on plane rects) (All-head (λ painted. painted.plane ≡ plane → P painted.piece) rect rects all (eqb-true rect.plane plane same)) later)
      (λ other. later)

  Any-pieces_on : (rects : List CellRect) → Any (λ painted. ((painted.plane == plane) ≡ true) × P painted.piece) rects → Any P (pieces_on plane rects)
  Any-pieces_on rects some =
      Any-map P (λ painted. painted.piece) (filter (λ painted. painted.plane == plane) rects)
      (Any-filter (λ painted. P painted.piece) (λ painted. painted.plane == plane) rects some)

-- ---- types and their planes
-- a type that lies on a plane is one of the technology's
type_within : (type_planes : List ℕ) (kind plane : ℕ) → plane_of_type type_planes kind ≡ Some plane → (1 ≤ kind) × (kind ≤ length type_planes)
type_within type_planes zero plane place = absurd (none-some plane place)
type_within type_planes (suc kind) plane place =
    let other : (suc kind == 0) ≡ false = ne_eqb (suc kind) 0 (λ same. omega (arith, same)) in
    let found : slice_get type_planes (suc kind - 1) ≡ Some plane = sym (ap (λ none. if none then None else slice_get type_planes (suc kind - 1)) other) ∙ place in
    let within = slice_get_within type_planes (suc kind - 1) plane found in
    (omega arith, omega (arith, within))

Contains-type_numbers : (tech : Tech) (kind plane : ℕ) → plane_of_type tech.type_planes kind ≡ Some plane → Contains (type_numbers tech) kind
Contains-type_numbers tech kind plane place =
    let within = type_within tech.type_planes kind plane place in
    let count : 1 + length tech.type_planes - 1 ≡ length tech.type_planes = omega arith in
    subst (λ n. Contains (range_with_len 1 n) kind) count (Contains-range_with_len 1 (1 + length tech.type_planes) kind within.0 (omega (arith, within.1)))

pub type_numbers-within : (tech : Tech) → All (λ kind. (1 ≤ kind) × (kind ≤ length tech.type_planes)) (type_numbers tech)
type_numbers-within tech k d within =
    let count : length tech.type_planes ≡ 1 + length tech.type_planes - 1 = omega arith in
    let kind = get_or (type_numbers tech) k d in
    let inside = range_with_len-Contains 1 (1 + length tech.type_planes) kind (subst (λ n. Contains (range_with_len 1 n) kind) count (Contains-get_or (type_numbers tech) k d within)) in
    (inside.0, omega (arith, inside.1))

-- ---- what the rectangles show
module _ (tech : Tech) (layout : Layout) (strips : ℕ → List Piece) (are : (plane : ℕ) → AreStrips world (layout plane) (strips plane)) where
  abbrev IsLaidOut : CellRect → Type 0
  IsLaidOut painted = IsStrip world (layout painted.plane) painted.piece

  laid_out_layer : (kind : ℕ) (found : Option ℕ) → All IsLaidOut (layer_rects strips kind found)
  laid_out_layer kind None = All-nil IsLaidOut
  laid_out_layer kind (Some plane) =
      All-map IsLaidOut (on_plane plane) (of_kind kind (strips plane)) (All-filter (λ strip. strip.kind == kind) (IsStrip world (layout plane)) (strips plane) (are plane).each)

  abbrev rects : List CellRect
  rects = layers_rects tech strips (type_numbers tech)

  laid_out : All IsLaidOut rects
  laid_out = All-flat_map IsLaidOut (λ kind. layer_rects strips kind (plane_of_type tech.type_planes kind)) (type_numbers tech) (λ kind. laid_out_layer kind (plane_of_type tech.type_planes kind))

  module _ (plane x y : ℕ) where
    abbrev kind : ℕ
    kind = layout plane x y

    agree : All (Agrees x y kind) (pieces_on plane rects)
    agree =
        All-pieces_on (Agrees x y kind) plane rects
        (λ k d within same inside.
        let painted = get_or rects k d in
        kind-IsStrip world (layout plane) painted.piece x y (subst (λ p. IsStrip world (layout p) painted.piece) same (laid_out k d within)) inside)

    -- a square other than space is in a rectangle of its type
    found_layer : holds world x y ≡ true → Any (λ painted. ((painted.plane == plane) ≡ true) × (holds painted.piece.rect x y ≡ true)) (layer_rects strips kind (Some plane))
    found_layer inside =
        let (k, strip, within, is, has) = (are plane).whole x y inside in
        let same : strip.kind ≡ kind = kind-IsStrip world (layout plane) strip x y (subst (IsStrip world (layout plane)) is ((are plane).each k strip within)) has in
        Any-map (λ painted. ((painted.plane == plane) ≡ true) × (holds painted.piece.rect x y ≡ true)) (on_plane plane) (of_kind kind (strips plane))
        (Any-filter (λ s. ((plane == plane) ≡ true) × (holds s.rect x y ≡ true)) (λ s. s.kind == kind) (strips plane)
        (k, strip, within, is, (eq-eqb strip.kind kind same, (eq-eqb plane plane refl, has))))

    found : HoldsOwnTypes tech layout → kind ≢ 0 → Any (λ piece. holds piece.rect x y ≡ true) (pieces_on plane rects)
    found own solid =
        let inside : holds world x y ≡ true = true_from_ne_false (holds world x y) (λ outside. solid (own.within plane x y outside)) in
        let place = own.own plane x y solid in
        let Q = λ (painted : CellRect). ((painted.plane == plane) ≡ true) × (holds painted.piece.rect x y ≡ true) in
        Any-pieces_on (λ piece. holds piece.rect x y ≡ true) plane rects
        (Any-flat_map Q (λ k. layer_rects strips k (plane_of_type tech.type_planes k)) (type_numbers tech) kind (Contains-type_numbers tech kind plane place)
        (subst (λ p. Any Q (layer_rects strips kind p)) (sym place) (found_layer inside)))

    shown : HoldsOwnTypes tech layout → picture_of (pieces_on plane rects) x y ≡ kind
    shown own = ⊎_elim
        (λ (space : kind ≡ 0). overlaid_stays empty_picture (pieces_on plane rects) x y kind agree (sym space))
        (λ (solid : kind ≢ 0). overlaid_agreed empty_picture (pieces_on plane rects) x y kind agree (found own solid))
        (cases_eq kind 0)

  -- the rectangles of a layout's strips show it
  pub layout_of-layers_rects : HoldsOwnTypes tech layout → layout_of_rects rects ≡ layout
  layout_of-layers_rects own = fun_ext (λ plane. fun_ext (λ x. fun_ext (λ y. shown plane x y own)))
