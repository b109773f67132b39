-- The strips of a set of squares, found as the strips of pieces that cover them.
use Rattle.std.proofs.Common.{◌≡◌, ◌≢◌, ℕ, cond, ◌+◌, ◌++◌, take, true≢false, ◌<◌, ◌==◌, Bool, true, false, if◌then◌else◌, ◌-◌, [], ◌∷◌, ◌||◌, ◌&&◌, IsTrue, List, map, filter, length, get_or, All, Any, Contains, refl, sym, ap, subst, ◌∙◌, le_refl, arith, eq-eqb, eqb-true}
use Rattle.std.specs.Cmp.{both_ways}
use Rattle.std.specs.List.{list_any}
use Rattle.std.proofs.lemmas.Bool.{and_from, and_parts, false_from_ne_true}
use Rattle.std.proofs.lemmas.Bool.Decides.{nat_tests}
use Rattle.std.proofs.lemmas.List.{length-map}
use Rattle.std.proofs.lemmas.List.Elements.{All-contains, All-filter, filter_passes}
use Rattle.std.proofs.lemmas.List.Folds.{Any-from_list_any, list_any-from_Any, list_any_more}
use Rattle.std.proofs.lemmas.List.Kept.{AllPairs-filter}
use Rattle.mls_errorplane.proofs.Common.{AreCoveredStrips, Covers, IsRun, IsStrip, Picture, Piece, Rect, SquareSet, comes_before, common, covered_count, has_squares, holds, laid, marks_picture, set_strips, squares_of, squares_within, strips_of, uncovered, world}
use Rattle.mls_geom.proofs.Ascending.{Contains-filter, same_ascending}
use Rattle.mls_geom.proofs.CoveredCounts.{covered_strips_number}
use Rattle.mls_geom.proofs.Holds.{between_holds, holds_common, square_has_squares}
use Rattle.mls_geom.proofs.ListedStrips.{AreStrips-strips_of}
use Rattle.mls_geom.proofs.Overlays.{overlaid_append}
use Rattle.mls_geom.proofs.StripPictures.{holds-IsStrip, kind-IsStrip}
use Rattle.mls_geom.proofs.TouchedStrips.{one_strip}
use Rattle.mls_errorplane.proofs.CheckedMarks.{mark_kind}

-- ---- two lists of the strips of what is covered are one
abbrev IsCoveredStrip : Rect → Picture → Piece → Type 0
IsCoveredStrip extent picture strip = IsStrip extent picture strip × (strip.kind ≢ uncovered)

one_way : (p q : Piece) → IsTrue (comes_before p q) → IsTrue (comes_before q p) → ⊥
one_way p q before after = grind (arith, nat_tests)

found_among :
    (extent : Rect) (picture : Picture) (xs ys : List Piece) → AreCoveredStrips extent picture xs → AreCoveredStrips extent picture ys → (p : Piece) → Contains xs p → Contains ys p
found_among extent picture xs ys strips others p there =
    let is = All-contains (IsCoveredStrip extent picture) xs p strips.each there in
    let strip = is.0 in
    let left = p.rect.left in
    let bottom = p.rect.bottom in
    let here = between_holds p.rect left bottom (le_refl left) (strip.rows bottom (le_refl bottom) strip.tall).wide (le_refl bottom) strip.tall in
    let covered : picture left bottom ≢ uncovered = λ bare. is.1 (kind-IsStrip extent picture p left bottom strip here ∙ bare) in
    let (k, q, within, at, inside) = others.whole left bottom (holds-IsStrip extent picture p left bottom strip here) covered in
    let other = (All-contains (IsCoveredStrip extent picture) ys q others.each (k, within, at)).0 in
    subst (λ (r : Piece). Contains ys r) (sym (one_strip extent picture p q left bottom strip other here inside)) (k, within, at)

covered_strips_are_one :
    (extent : Rect) (picture : Picture) (xs ys : List Piece) → AreCoveredStrips extent picture xs → AreCoveredStrips extent picture ys → xs ≡ ys
covered_strips_are_one extent picture xs ys strips others =
    same_ascending (λ p q. IsTrue (comes_before p q)) one_way xs ys strips.ordered others.ordered
    (found_among extent picture xs ys strips others) (found_among extent picture ys xs others strips)

-- ---- a picture that covers the squares of a set with kind 1
-- kind 1, or nothing
abbrev cover_kind : Bool → ℕ
cover_kind b = if b then 1 else uncovered

one_covered : (b : Bool) → mark_kind b ≡ 1 → cover_kind b ≡ 1
one_covered true is = refl
one_covered false is = absurd (omega (arith, is))

one_marked : (b : Bool) → cover_kind b ≡ 1 → mark_kind b ≡ 1
one_marked true is = refl
one_marked false is = absurd (omega (arith, is))

covered_one : (b : Bool) → cover_kind b ≢ uncovered → mark_kind b ≡ 1
covered_one true is = refl
covered_one false is = absurd (is refl)

marked_in : (b : Bool) → mark_kind b ≡ 1 → b ≡ true
marked_in true is = refl
marked_in false is = absurd (omega (arith, is))

in_marked : (b : Bool) → b ≡ true → mark_kind b ≡ 1
in_marked true is = refl
in_marked false is = absurd (cc)

-- where another picture has a run's kind at the same squares, it is a run there too
IsRun-same :
    (extent : Rect) (one other : Picture) (left right y kind : ℕ) → ((x : ℕ) → one x y ≡ kind → other x y ≡ kind) → ((x : ℕ) → other x y ≡ kind → one x y ≡ kind)
    → IsRun extent one left right y kind → IsRun extent other left right y kind
IsRun-same extent one other left right y kind there back run = record {
  from = run.from;
  wide = run.wide;
  to = run.to;
  one_kind = λ x from below. there x (run.one_kind x from below);
  ends_left = λ inside same. run.ends_left inside (back (left - 1) same);
  ends_right = λ inside same. run.ends_right inside (back right same);
}

module _ (extent : Rect) (set : SquareSet) (picture : Picture) (covers : Covers picture set) where
  shown : (x y kind : ℕ) → kind ≡ 1 → marks_picture set x y ≡ kind → picture x y ≡ kind
  shown x y kind one is = covers x y ∙ one_covered (set x y) (is ∙ one) ∙ sym one

  marked : (x y kind : ℕ) → kind ≡ 1 → picture x y ≡ kind → marks_picture set x y ≡ kind
  marked x y kind one is = one_marked (set x y) (sym (covers x y) ∙ is ∙ one) ∙ sym one

  -- the strips of marked squares are strips of what is covered
  IsStrip-covered : (piece : Piece) → piece.kind ≡ 1 → IsStrip extent (marks_picture set) piece → IsStrip extent picture piece
  IsStrip-covered piece one strip =
      let left = piece.rect.left in
      let right = piece.rect.right in
      let covered = λ (y : ℕ) (run : IsRun extent picture left right y piece.kind). IsRun-same extent picture (marks_picture set) left right y piece.kind (λ x. marked x y piece.kind one) (λ x. shown x y piece.kind one) run in
      record {
        from = strip.from;
        tall = strip.tall;
        to = strip.to;
        rows = λ y above below. IsRun-same extent (marks_picture set) picture left right y piece.kind (λ x. shown x y piece.kind one) (λ x. marked x y piece.kind one) (strip.rows y above below);
        ends_below = λ inside run. strip.ends_below inside (covered (piece.rect.bottom - 1) run);
        ends_above = λ inside run. strip.ends_above inside (covered piece.rect.top run);
      }

  abbrev is_marked_strip : Piece → Bool
  is_marked_strip piece = piece.kind == 1

  abbrev marked_strips : List Piece
  marked_strips = filter is_marked_strip (strips_of extent (marks_picture set))

  marked_each : All (IsStrip extent (marks_picture set)) marked_strips
  marked_each = All-filter is_marked_strip (IsStrip extent (marks_picture set)) (strips_of extent (marks_picture set)) (AreStrips-strips_of extent (marks_picture set)).each

  marked_kind : (piece : Piece) → Contains marked_strips piece → piece.kind ≡ 1
  marked_kind piece there =
      eqb-true piece.kind 1 (All-contains (λ (p : Piece). is_marked_strip p ≡ true) marked_strips piece (filter_passes is_marked_strip (strips_of extent (marks_picture set))) there)

  -- each marked square is in one
  pub marked_whole : (x y : ℕ) → holds extent x y ≡ true → marks_picture set x y ≡ 1 → Any (λ piece. holds piece.rect x y ≡ true) marked_strips
  marked_whole x y inside is =
      let are = AreStrips-strips_of extent (marks_picture set) in
      let (k, strip, within, at, here) = are.whole x y inside in
      let shows = All-contains (IsStrip extent (marks_picture set)) (strips_of extent (marks_picture set)) strip are.each (k, within, at) in
      let kind : strip.kind ≡ 1 = kind-IsStrip extent (marks_picture set) strip x y shows here ∙ is in
      let (j, within', at') = Contains-filter is_marked_strip (strips_of extent (marks_picture set)) strip (k, within, at) (eq-eqb strip.kind 1 kind) in
      (j, strip, within', at', here)

  -- and the set has each square of one
  pub marked_squares : (x y : ℕ) → Any (λ piece. holds piece.rect x y ≡ true) marked_strips → (holds extent x y ≡ true) × (set x y ≡ true)
  marked_squares x y (k, piece, within, at, here) =
      let strip = All-contains (IsStrip extent (marks_picture set)) marked_strips piece marked_each (k, within, at) in (
        holds-IsStrip extent (marks_picture set) piece x y strip here,
        marked_in (set x y) (sym (kind-IsStrip extent (marks_picture set) piece x y strip here) ∙ marked_kind piece (k, within, at)),
      )

  AreCoveredStrips-marked : AreCoveredStrips extent picture marked_strips
  AreCoveredStrips-marked = record {
    each = λ k d within. (
        let piece = get_or marked_strips k d in
        let one : piece.kind ≡ 1 = eqb-true piece.kind 1 (filter_passes is_marked_strip (strips_of extent (marks_picture set)) k d within) in
        (IsStrip-covered piece one (marked_each k d within), λ bare. absurd (omega (arith, one, bare))));
    whole = λ x y inside covered. marked_whole x y inside (covered_one (set x y) (λ bare. covered (covers x y ∙ bare)));
    ordered = AllPairs-filter (λ (p q : Piece). IsTrue (comes_before p q)) is_marked_strip (strips_of extent (marks_picture set)) (AreStrips-strips_of extent (marks_picture set)).ordered;
  }

  pub covered-marked : (list : List Piece) → AreCoveredStrips extent picture list → list ≡ marked_strips
  covered-marked list strips = covered_strips_are_one extent picture list marked_strips strips AreCoveredStrips-marked

  pub count-marked : length marked_strips ≡ covered_count extent picture
  count-marked = covered_strips_number extent picture marked_strips AreCoveredStrips-marked

-- ---- the strips of a set
-- the strips of pieces that cover the squares of a set
pub set_strips-covered :
    (set : SquareSet) (pieces list : List Piece) → Covers (laid pieces) set → AreCoveredStrips world (laid pieces) list → map (λ piece. piece.rect) list ≡ set_strips set
unfolding set_strips
set_strips-covered set pieces list covers strips = ap (map (λ (piece : Piece). piece.rect)) (covered-marked world set (laid pieces) covers list strips)

-- number what they cover
pub length-set_strips : (set : SquareSet) (pieces : List Piece) → Covers (laid pieces) set → length (set_strips set) ≡ covered_count world (laid pieces)
unfolding set_strips
length-set_strips set pieces covers = length-map _ (λ (piece : Piece). piece.rect) ∙ count-marked world set (laid pieces) covers

-- the strips have the squares of the set that lie in the world
pub squares-set_strips : (set : SquareSet) (x y : ℕ) → squares_of (set_strips set) x y ≡ (holds world x y && set x y)
unfolding set_strips
squares-set_strips set x y =
    let strips = filter (λ (piece : Piece). piece.kind == 1) (strips_of world (marks_picture set)) in
    let rects = map (λ (piece : Piece). piece.rect) strips in
    let picture : Picture = λ u v. cover_kind (set u v) in
    let covers : Covers picture set = λ u v. refl in
    both_ways (squares_of rects x y) (holds world x y && set x y)
    (λ some.
    let found = Any-from_list_any (λ (piece : Piece). holds piece.rect x y) strips (sym (list_any-map (λ (e : Rect). holds e x y) strips) ∙ some) in
    let (inside, there) = marked_squares world set picture covers x y found in
    and_from (holds world x y) (set x y) inside there)
    (λ both.
    let (inside, there) = and_parts (holds world x y) (set x y) both in
    list_any-map (λ (e : Rect). holds e x y) strips
    ∙ list_any-from_Any (λ (piece : Piece). holds piece.rect x y) strips (marked_whole world set picture covers x y inside (in_marked (set x y) there)))
  where
    list_any-map : (test : Rect → Bool) (pieces : List Piece) → list_any test (map (λ (piece : Piece). piece.rect) pieces) ≡ list_any (λ (piece : Piece). test piece.rect) pieces
    list_any-map test [] = refl
    list_any-map test (piece ∷ pieces) = ap (λ b. test piece.rect || b) (list_any-map test pieces)

-- ---- pieces for areas
-- the common squares of an area and a rectangle are covered by one more piece
cover_at : (inside here : Bool) (kind : ℕ) → cond {A = ℕ} (here && inside) 1 kind ≡ cond {A = ℕ} (inside && here) 1 kind
cover_at true true kind = refl
cover_at true false kind = refl
cover_at false true kind = refl
cover_at false false kind = refl

pub laid-pushed :
    (pieces new : List Piece) (rect area r : Rect) (x y : ℕ) → r ≡ common area rect → new ≡ pieces ++ record { rect = r; kind = 1 } ∷ []
    → laid new x y ≡ (if holds rect x y && holds area x y then 1 else laid pieces x y)
laid-pushed pieces new rect area r x y is pushed =
    ap (λ (list : List Piece). laid list x y) pushed
    ∙ ap (λ (picture : Picture). picture x y) (overlaid_append (λ u v. uncovered) pieces (record { rect = r; kind = 1 } ∷ []))
    ∙ ap (λ (e : Rect). cond {A = ℕ} (holds e x y) 1 (laid pieces x y)) is
    ∙ ap (λ b. cond {A = ℕ} b 1 (laid pieces x y)) (holds_common area rect x y)
    ∙ cover_at (holds rect x y) (holds area x y) (laid pieces x y)

-- an area that has no square of the rectangle covers none
pub laid-same :
    (pieces : List Piece) (rect area : Rect) (x y : ℕ) → has_squares (common area rect) ≡ false
    → laid pieces x y ≡ (if holds rect x y && holds area x y then 1 else laid pieces x y)
laid-same pieces rect area x y none =
    let apart : holds (common area rect) x y ≡ false =
    false_from_ne_true (holds (common area rect) x y) (λ here. true≢false (sym (square_has_squares (common area rect) x y here) ∙ none)) in
    ap (λ b. cond {A = ℕ} b 1 (laid pieces x y)) (sym apart ∙ holds_common area rect x y)
    ∙ cover_at (holds rect x y) (holds area x y) (laid pieces x y)

-- ---- the areas one by one
next_at : (inside some here : Bool) (kind : ℕ) → kind ≡ cover_kind (inside && some) → cond {A = ℕ} (inside && here) 1 kind ≡ cover_kind (inside && (some || here))
next_at true true true kind is = refl
next_at true true false kind is = is
next_at true false true kind is = refl
next_at true false false kind is = is
next_at false some here kind is = is

-- the areas so far and the next
pub Covers-next :
    (pieces new : List Piece) (rect area : Rect) (areas : List Rect) (i : ℕ) → i < length areas → area ≡ get_or areas i area
    → ((x y : ℕ) → laid new x y ≡ (if holds rect x y && holds area x y then 1 else laid pieces x y)) → Covers (laid pieces) (squares_within rect (take i areas))
    → Covers (laid new) (squares_within rect (take (i + 1) areas))
Covers-next pieces new rect area areas i within is pushed covers = λ x y.
    let some = squares_of (take i areas) x y in
    pushed x y ∙ next_at (holds rect x y) some (holds area x y) (laid pieces x y) (covers x y)
    ∙ ap (λ (e : Rect). cover_kind (holds rect x y && (some || holds e x y))) is
    ∙ ap (λ b. cover_kind (holds rect x y && b)) (sym (list_any_more (λ (e : Rect). holds e x y) areas i area within))
