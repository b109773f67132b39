-- The squares of an area that a rule doesn't allow, as a list of parts of tiles.
use Rattle.std.proofs.Common.{◌≡◌, ℕ, Bool, true, false, not, ◌||◌, ◌&&◌, List, refl, sym, ap, ◌∙◌}
use Rattle.mls_checker.proofs.SideLists.{in_area}
use Rattle.std.specs.Cmp.{both_ways}
use Rattle.std.specs.List.{list_any}
use Rattle.std.proofs.lemmas.Bool.{and_from, and_parts}
use Rattle.std.proofs.lemmas.List.Elements.{All-contains}
use Rattle.std.proofs.lemmas.List.Folds.{Any-from_list_any, list_any-from_Any}
use Rattle.mls_edgerule.specs.declared.edge_rule.EdgeRule.{EdgeRule}
use Rattle.mls_geom.specs.Layouts.{Layout}
use Rattle.mls_geom.specs.Rects.{Rect, IsRectangleIn, common, holds}
use Rattle.mls_geom.proofs.Holds.{holds_common}
use Rattle.mls_geom.proofs.ShiftedSquares.{at}
use Rattle.mls_kinds.specs.KindSets.{has_bit as has_type}
use Rattle.mls_checker.specs.Forbids.{is_disallowed}
use Rattle.mls_checker.specs.Marking.{SquareSet, has_disallowed_kind, with_disallowed}
use Rattle.mls_checker.specs.Tiles.{AreTiles, HasTile, Tile}
use Rattle.mls_checker.specs.Violations.{shows_disallowed}

-- ---- one part more

-- ---- all parts of an area

-- they show the squares of the area that the rule doesn't allow
disallowed-parts :
    (rule : EdgeRule) (layout : Layout) (area : Rect) (parts : List Tile) (x y : ℕ) → AreTiles area (layout rule.check_plane) parts
    → list_any (shows_disallowed rule x y) parts ≡ (holds area x y && is_disallowed rule layout (at x y))
disallowed-parts rule layout area parts x y are =
    let picture = layout rule.check_plane in
    both_ways (list_any (shows_disallowed rule x y) parts) (holds area x y && is_disallowed rule layout (at x y))
    (λ some.
    let (k, part, within, is, passes) = Any-from_list_any (shows_disallowed rule x y) parts some in
    let (kind, here) = and_parts (has_disallowed_kind rule part) (holds part.area x y) passes in
    let shown = All-contains (HasTile picture) parts part are.shown (k, within, is) x y here in
    let lines = All-contains (λ (t : Tile). IsRectangleIn area t.area) parts part are.bounded (k, within, is) in
    and_from (holds area x y) (is_disallowed rule layout (at x y)) (in_area area part.area x y lines here) (ap (λ (n : ℕ). not (has_type rule.ok_types n)) shown ∙ kind))
    (λ both.
    let (inside, disallowed) = and_parts (holds area x y) (is_disallowed rule layout (at x y)) both in
    let (k, part, within, is, here) = are.whole x y inside in
    let shown = All-contains (HasTile picture) parts part are.shown (k, within, is) x y here in
    list_any-from_Any (shows_disallowed rule x y) parts
    (k, part, within, is, and_from (has_disallowed_kind rule part) (holds part.area x y) (ap (λ (n : ℕ). not (has_type rule.ok_types n)) (sym shown) ∙ disallowed) here))

gain_at : (inside set area disallowed : Bool) → ((inside && set) || ((area && inside) && disallowed)) ≡ (inside && (set || (area && disallowed)))
gain_at true true area disallowed = refl
gain_at true false true disallowed = refl
gain_at true false false disallowed = refl
gain_at false set true disallowed = refl
gain_at false set false disallowed = refl

-- so a list that had the squares of a set in the rectangle has those of the area too that the rule doesn't allow
pub listed-parts :
    (rule : EdgeRule) (layout : Layout) (rect area : Rect) (set old new : SquareSet) (parts : List Tile) → AreTiles (common area rect) (layout rule.check_plane) parts
    → ((x y : ℕ) → old x y ≡ (holds rect x y && set x y)) → ((x y : ℕ) → new x y ≡ (old x y || list_any (shows_disallowed rule x y) parts))
    → (x y : ℕ) → new x y ≡ (holds rect x y && with_disallowed rule layout (holds area) set x y)
listed-parts rule layout rect area set old new parts are was is x y =
    let disallowed = is_disallowed rule layout (at x y) in
    is x y ∙ ap (λ b. b || list_any (shows_disallowed rule x y) parts) (was x y)
    ∙ ap (λ b. (holds rect x y && set x y) || b) (disallowed-parts rule layout (common area rect) parts x y are)
    ∙ ap (λ b. (holds rect x y && set x y) || (b && disallowed)) (holds_common area rect x y)
    ∙ gain_at (holds rect x y) (set x y) (holds area x y) disallowed
