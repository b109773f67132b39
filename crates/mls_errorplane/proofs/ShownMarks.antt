-- Tiles that show a set of squares already.
use Rattle.std.proofs.Common.{◌≡◌, ◌≢◌, ℕ, ◌+◌, ◌≤◌, ◌==◌, Bool, ◌||◌, ◌&&◌, true, false, cond, if◌then◌else◌, true≢false, inl, inr, List, get_or, All, Any, IsTrue, Result, Ok, Err, OnOk, eq-eqb, eqb-true, refl, sym, ap, subst, ◌∙◌, arith, sum_by}
use Rattle.std.specs.List.{list_any}
use Rattle.std.proofs.Math.Path.{fun_ext}
use Rattle.std.proofs.lemmas.Bool.{and_from, cases_Bool, cond-false, cond-true, or_left, or_right}
use Rattle.std.proofs.lemmas.List.Elements.{All-contains}
use Rattle.std.proofs.lemmas.List.Folds.{list_any_at, list_any-from_Any}
use Rattle.mls_errorplane.proofs.Common.{Finding, HasPlane, IsSettled, LaidTile, Marks, MeetArea, Picture, Pool, Rect, ShowsSet, SquareSet, block_at, common, holds, marks, picture_in, remarked, size_of, space_size, square_count, tiles_of}
use Rattle.mls_checker.proofs.Copying.{found-HasPiece}
use Rattle.mls_errorplane.proofs.CoveredOnce.{apart-from_counts, count_in-common, count_in-list}
use Rattle.mls_errorplane.proofs.SquareCounts.{count_in, count_in-none}

-- the squares of a tile of space
abbrev pub in_space : LaidTile → ℕ → ℕ → Bool
in_space tile x y = (tile.piece.kind == 0) && holds tile.piece.rect x y

-- ---- numbers of squares
kind-le : (extent r : Rect) (is_space : Bool) → count_in extent (λ x y. is_space && holds r x y) ≤ cond is_space (size_of (common r extent)) 0
kind-le e r true = count_in-common e r
kind-le e r false = let none : count_in e (λ x y. false) ≡ 0 = count_in-none e in omega (arith, none)

pub space-le : (rect : Rect) (tiles : List LaidTile) → count_in rect (λ x y. list_any (λ tile. in_space tile x y) tiles) ≤ sum_by (space_size rect) tiles
space-le rect tiles = count_in-list rect in_space (space_size rect) tiles (λ k tile within. kind-le rect (get_or tiles k tile).piece.rect ((get_or tiles k tile).piece.kind == 0))

-- ---- the tiles
not_zero : (n : ℕ) → (n == 0) ≡ false → n ≢ 0
not_zero n other is = true≢false (sym (eq-eqb n 0 is) ∙ other)

and_true_out : (a : Bool) → (a && true) ≡ false → a ≡ false
and_true_out true none = absurd (true≢false none)
and_true_out false none = refl

left_out : (a b : Bool) → (a && b) ≡ false → b ≡ true → a ≡ false
left_out a true none here = and_true_out a none
left_out a false none here = absurd (true≢false (sym here))

in_set : (kind : ℕ) (b : Bool) → kind ≢ 0 → kind ≡ (if b then 1 else 0) → b ≡ true
in_set kind true some is = refl
in_set kind false some is = absurd (some is)

sum-le : (a b d e : ℕ) → b ≤ d → d + a ≤ e → a + b ≤ e
sum-le a b d e few both = omega (arith, few, both)

-- settled tiles show the set, if the set and the space among them have no more squares than the rectangle
pub ShowsSet-settled :
    (tiles : List LaidTile) (rect : Rect) (set : SquareSet) → ((x y : ℕ) → holds rect x y ≡ true → Any (λ tile. IsTrue (holds tile.piece.rect x y)) tiles)
    → All (IsSettled rect set) tiles → sum_by (space_size rect) tiles + square_count rect set ≤ size_of rect → All (ShowsSet rect set) tiles
unfolding square_count
ShowsSet-settled tiles rect set whole settled few k d within x y here held =
    let tile = get_or tiles k d in
    let space : ℕ → ℕ → Bool = λ x y. list_any (λ t. in_space t x y) tiles in
    let covered : (x y : ℕ) → holds rect x y ≡ true → (set x y || space x y) ≡ true = λ x y inside.
    (let (i, t, at, is, holding) = whole x y inside in
    elim (cases_Bool (t.piece.kind == 0)) [
      | inl is_space ↦ or_right (set x y) (space x y) (list_any-from_Any (λ (u : LaidTile). in_space u x y) tiles (i, t, at, is, and_from _ _ is_space holding))
      | inr marked ↦ (let some = not_zero t.piece.kind marked in
          or_left (set x y) (space x y) (in_set t.piece.kind (set x y) some (All-contains (IsSettled rect set) tiles t settled (i, at, is) some x y inside holding)))
    ]) in
    let apart = apart-from_counts rect set space covered (sum-le (count_in rect set) _ _ _ (space-le rect tiles) few) x y here in
    elim (cases_Bool (tile.piece.kind == 0)) [
      | inl is_space ↦ (let there = list_any_at (λ (t : LaidTile). in_space t x y) tiles k d within (and_from _ _ is_space held) in
          eqb-true tile.piece.kind 0 is_space ∙ sym (cond-false (set x y) 1 0 (left_out (set x y) (space x y) apart there)))
      | inr marked ↦ settled k d within (not_zero tile.piece.kind marked) x y here held
    ]

-- a picture in which a rectangle has the marks of a set already is as it is when the rectangle is marked anew
pub remarked-same :
    (below : Picture) (rect : Rect) (set : SquareSet) → ((x y : ℕ) → holds rect x y ≡ true → below x y ≡ (if set x y then 1 else 0)) → remarked below rect set ≡ below
remarked-same below rect set same = fun_ext (λ x. fun_ext (λ y. elim (cases_Bool (holds rect x y)) [
  | inl here ↦ cond-true (holds rect x y) (if set x y then 1 else 0) (below x y) here ∙ sym (same x y here)
  | inr outside ↦ cond-false (holds rect x y) (if set x y then 1 else 0) (below x y) outside
]))

-- where each tile found in a rectangle shows a set, marking it anew changes nothing
pub remarked-shown :
    (pool : Pool) (owner : ℕ) (rect : Rect) (found : List LaidTile) (set : SquareSet) → HasPlane pool owner → MeetArea (block_at (tiles_of pool owner)) rect found
    → All (ShowsSet rect set) found → remarked (picture_in pool owner) rect set ≡ picture_in pool owner
remarked-shown pool owner rect found set plane are shows =
    remarked-same (picture_in pool owner) rect set (λ x y here.
    let (k, tile, within, is, held) = are.whole x y here in
    found-HasPiece pool owner rect found found k tile plane are refl within (sym is) x y held
    ∙ All-contains (ShowsSet rect set) found tile shows (k, within, is) x y here held)

-- ---- a finding
-- where each tile found in its rectangle shows the marks, marking the finding changes nothing
pub remarked-found :
    (pool : Pool) (owner : ℕ) (found : Marks) (finding : Finding) (area : Rect) (tiles listed : List LaidTile) → HasPlane pool owner
    → MeetArea (block_at (tiles_of pool owner)) area tiles → area ≡ found.rect → listed ≡ tiles → All (ShowsSet found.rect (marks found)) listed → found ≡ finding.marks
    → finding.marks.rect ≡ finding.piece → remarked (picture_in pool owner) finding.piece (marks finding.marks) ≡ picture_in pool owner
remarked-found pool owner found finding area tiles listed plane are of_marks same shows is of_piece =
    let below = picture_in pool owner in
    let here : MeetArea (block_at (tiles_of pool owner)) found.rect listed =
    subst (λ (list : List LaidTile). MeetArea (block_at (tiles_of pool owner)) found.rect list) (sym same)
    (subst (λ (e : Rect). MeetArea (block_at (tiles_of pool owner)) e tiles) of_marks are) in
    sym (ap (λ (m : Marks). remarked below m.rect (marks m)) is ∙ ap (λ (e : Rect). remarked below e (marks finding.marks)) of_piece)
    ∙ remarked-shown pool owner found.rect listed (marks found) plane here shows

-- a fact for an `Ok` that holds anyway
pub on_ok : {A E P : Type 0} → (r : Result A E) → P → OnOk r P
on_ok (Ok value) fact = fact
on_ok (Err fault) fact = tt
