-- Where each plane shows one kind round squares, the rules forbid all of these or none; where it shows columns, all of a column or none; where rows, all of a row.
use Rattle.std.proofs.Common.{◌≡◌, ℕ, true, not, ◌&&◌, ◌||◌, List, refl, sym, ap, ◌∙◌}
use Rattle.std.specs.List.{list_any}
use Rattle.mls_errorplane.proofs.Common.{Columns, Direction, EdgeRule, IsAlike, Layout, Likeness, OneKind, Point, Rect, Right, Rows, across, directions_in, forbidden, forbids, holds, in_block, in_row, is_disallowed, like_column, like_row, reaches, world}
use Rattle.mls_checker.proofs.ListTests.{list_any_same}
use Rattle.mls_checker.proofs.Locality.{forbidden_same_in}
use Rattle.mls_kinds.specs.KindSets.{has_bit as has_type}
use Rattle.mls_layout.proofs.LikeSquares.{like_column-again, like_row-again}

-- where the rules forbid both squares or none, and both are of the world, both are forbidden or none
forbidden-both :
    (rules : List EdgeRule) (layout : Layout) (x y a b : ℕ)
    → ((rule : EdgeRule) → forbids rule layout (record { x = x; y = y }) ≡ forbids rule layout (record { x = a; y = b }))
    → holds world x y ≡ true → holds world a b ≡ true → forbidden rules layout x y ≡ forbidden rules layout a b
forbidden-both rules layout x y a b same here there =
    let p : Point = record { x = x; y = y } in
    let q : Point = record { x = a; y = b } in
    ap (λ inside. inside && list_any (λ rule. forbids rule layout p) rules) here
    ∙ list_any_same (λ rule. forbids rule layout p) (λ rule. forbids rule layout q) rules same
    ∙ sym (ap (λ inside. inside && list_any (λ rule. forbids rule layout q) rules) there)

-- ---- like squares
-- the layout that shows in each square what a layout shows in the one that a rectangle has for it
abbrev alike : Likeness → Rect → Layout → Layout
alike likeness rect layout plane x y = layout plane (like_column likeness rect x) (like_row likeness rect y)

-- a square by its column and its row, and the one that a rectangle has for it
abbrev point : ℕ → ℕ → Point
point x y = record { x = x; y = y }

abbrev like : Likeness → Rect → ℕ → ℕ → Point
like likeness rect x y = point (like_column likeness rect x) (like_row likeness rect y)

-- an edge of a rule reaches both, or none
reached-alike :
    (rule : EdgeRule) (likeness : Likeness) (rect : Rect) (layout : Layout) (x y : ℕ) (direction : Direction)
    → (in_row rule (alike likeness rect layout) direction (record { x = x; y = y })
    || list_any (in_block rule (alike likeness rect layout) direction (record { x = x; y = y })) (across direction))
    ≡ (in_row rule (alike likeness rect layout) direction (like likeness rect x y)
    || list_any (in_block rule (alike likeness rect layout) direction (like likeness rect x y)) (across direction))
reached-alike rule OneKind rect layout x y direction = refl
reached-alike rule Columns rect layout x y Right = refl
reached-alike rule Rows rect layout x y Right = refl
reached-alike rule likeness rect layout x y direction = refl

reaches-alike :
    (rule : EdgeRule) (likeness : Likeness) (rect : Rect) (layout : Layout) (x y : ℕ)
    → reaches rule (alike likeness rect layout) (record { x = x; y = y }) ≡ reaches rule (alike likeness rect layout) (like likeness rect x y)
unfolding reaches
reaches-alike rule likeness rect layout x y =
    let seen = alike likeness rect layout in
    let p : Point = record { x = x; y = y } in
    let q = like likeness rect x y in
    list_any_same (λ direction. in_row rule seen direction p || list_any (in_block rule seen direction p) (across direction))
    (λ direction. in_row rule seen direction q || list_any (in_block rule seen direction q) (across direction)) (directions_in rule.directions)
    (reached-alike rule likeness rect layout x y)

-- their kinds are the same
kind-alike :
    (likeness : Likeness) (rect : Rect) (layout : Layout) (plane x y : ℕ)
    → alike likeness rect layout plane x y ≡ alike likeness rect layout plane (like_column likeness rect x) (like_row likeness rect y)
kind-alike likeness rect layout plane x y =
    ap (λ column. layout plane column (like_row likeness rect y)) (sym (like_column-again likeness rect rect x))
    ∙ ap (layout plane (like_column likeness rect (like_column likeness rect x))) (sym (like_row-again likeness rect rect y))

-- and so a rule forbids both or none
forbids-alike :
    (rule : EdgeRule) (likeness : Likeness) (rect : Rect) (layout : Layout) (x y : ℕ)
    → forbids rule (alike likeness rect layout) (record { x = x; y = y }) ≡ forbids rule (alike likeness rect layout) (like likeness rect x y)
forbids-alike rule likeness rect layout x y =
    let seen = alike likeness rect layout in
    ap (λ kind. not (has_type rule.ok_types kind) && reaches rule seen (record { x = x; y = y })) (kind-alike likeness rect layout rule.check_plane x y)
    ∙ ap (λ reached. is_disallowed rule seen (like likeness rect x y) && reached) (reaches-alike rule likeness rect layout x y)

-- ---- the law
-- two squares of a rectangle for which it has the same are both forbidden or both allowed
pub forbidden-alike :
    (rules : List EdgeRule) (layout : Layout) (likeness : Likeness) (rect : Rect) (x y a b : ℕ) → IsAlike likeness rules layout rect
    → like_column likeness rect x ≡ like_column likeness rect a → like_row likeness rect y ≡ like_row likeness rect b
    → holds rect x y ≡ true → holds rect a b ≡ true → holds world x y ≡ true → holds world a b ≡ true
    → forbidden rules layout x y ≡ forbidden rules layout a b
forbidden-alike rules layout likeness rect x y a b uniform column row here there inside inside' =
    let seen = alike likeness rect layout in
    let agree = forbidden_same_in rules rect layout seen uniform in
    let same : like likeness rect x y ≡ like likeness rect a b =
    ap (λ n. point n (like_row likeness rect y)) column ∙ ap (point (like_column likeness rect a)) row in
    let forbids-both : (rule : EdgeRule) → forbids rule seen (record { x = x; y = y }) ≡ forbids rule seen (record { x = a; y = b }) =
    λ rule. forbids-alike rule likeness rect layout x y ∙ ap (forbids rule seen) same ∙ sym (forbids-alike rule likeness rect layout a b) in
    agree x y here ∙ forbidden-both rules seen x y a b forbids-both inside inside' ∙ sym (agree a b there)
