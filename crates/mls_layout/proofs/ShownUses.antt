-- What uses show, one after another.
use Rattle.std.proofs.Common.{◌≡◌, ℕ, suc, ◌<◌, ◌+◌, ◌==◌, length, drop, get_or, Contains, Bool, true, false, if◌then◌else◌, List, [], ◌∷◌, eqb-true, add-one, refl, sym, ap, ◌∙◌, arith}
use Rattle.std.specs.List.{All}
use Rattle.std.proofs.Math.Seq.{drop-cons}
use Rattle.std.proofs.lemmas.Bool.{cond-false, cond-true, true≢false}
use Rattle.std.proofs.lemmas.List.Elements.{All-cons, All-contains, All-head, All-nil, All-tail}
use Rattle.mls_geom.specs.Layouts.{Layout}
use Rattle.mls_geom.specs.Pictures.{Picture}
use Rattle.mls_geom.specs.Rects.{IsRectangleIn, Rect, holds}
use Rattle.mls_geom.specs.World.{world}
use Rattle.mls_geom.proofs.Holds.{between_holds, holds_between}
use Rattle.mls_layout.specs.Grids.{grid_kind, grid_picture}
use Rattle.mls_layout.specs.Uses.{over, use_layout, uses_layout}
use Rattle.mls_layout.specs.declared.uses.CellUse.{CellUse}
use Rattle.mls_layout.proofs.FlatLayouts.{over-space}

-- ---- pictures over each other
-- what shows nothing at a square lets the lower picture be seen
pub over-none : (upper lower : Picture) (x y : ℕ) → upper x y ≡ 0 → over upper lower x y ≡ lower x y
over-none upper lower x y none = ap (λ (kind : ℕ). if kind == 0 then lower x y else kind) none

both_none : (upper lower : ℕ) (space : Bool) → (upper == 0) ≡ space → (if upper == 0 then lower else upper) ≡ 0 → (upper ≡ 0) × (lower ≡ 0)
both_none upper lower true at none = (eqb-true upper 0 at, sym (cond-true (upper == 0) lower upper at) ∙ none)
both_none upper lower false at none =
    absurd (true≢false (sym (ap (λ (kind : ℕ). kind == 0) (sym (cond-false (upper == 0) lower upper at) ∙ none)) ∙ at))

assoc_at : (a b c : ℕ) (space : Bool) → (a == 0) ≡ space → (if (if a == 0 then b else a) == 0 then c else (if a == 0 then b else a)) ≡ (if a == 0 then (if b == 0 then c else b) else a)
assoc_at a b c true h = rw h refl
assoc_at a b c false h = rw (h, h) refl

pub over-assoc : (a b c : Picture) (x y : ℕ) → over (over a b) c x y ≡ over a (over b c) x y
over-assoc a b c x y = assoc_at (a x y) (b x y) (c x y) (a x y == 0) refl

-- what is the same below is the same under the upper picture
pub over-same : (upper one other : Picture) (x y : ℕ) → one x y ≡ other x y → over upper one x y ≡ over upper other x y
over-same upper one other x y same = ap (λ (kind : ℕ). if upper x y == 0 then kind else upper x y) same

pub over-as : (upper top lower bottom : Picture) (x y : ℕ) → upper x y ≡ top x y → lower x y ≡ bottom x y → over upper lower x y ≡ over top bottom x y
over-as upper top lower bottom x y above below = over-same upper lower bottom x y below ∙ ap (λ (kind : ℕ). if kind == 0 then bottom x y else kind) above

-- a square of a rectangle of the world is one of the world
pub inside_world : (e : Rect) (x y : ℕ) → IsRectangleIn world e → holds e x y ≡ true → holds world x y ≡ true
inside_world e x y legal inside =
    let lines = holds_between e x y inside in
    between_holds world x y (omega (arith, lines.0, legal.left_in)) (omega (arith, lines.1, legal.right_in)) (omega (arith, lines.2, legal.bottom_in))
    (omega (arith, lines.3, legal.top_in))

-- a grid shows space outside its block
pub grid_picture-outside : (squares : List ℕ) (block : Rect) (x y : ℕ) → holds block x y ≡ false → grid_picture squares block x y ≡ 0
unfolding grid_picture
grid_picture-outside squares block x y outside = cond-false (holds block x y) (grid_kind squares block x y) 0 outside

-- ---- uses
module _ (cells : List Layout) where
  -- where none shows anything, they all show nothing
  pub uses_layout-none :
      (uses : List CellUse) (plane x y : ℕ) → All (λ cell_use. use_layout cells cell_use plane x y ≡ 0) uses → uses_layout cells uses plane x y ≡ 0
  uses_layout-none [] plane x y none = refl
  uses_layout-none (first ∷ later) plane x y none =
      let P : CellUse → Type 0 = λ cell_use. use_layout cells cell_use plane x y ≡ 0 in
      over-none (uses_layout cells later plane) (use_layout cells first plane) x y (uses_layout-none later plane x y (All-tail P first later none))
      ∙ All-head P first later none

  -- where they show nothing, none does
  each-none : (uses : List CellUse) (plane x y : ℕ) → uses_layout cells uses plane x y ≡ 0 → All (λ cell_use. use_layout cells cell_use plane x y ≡ 0) uses
  each-none [] plane x y none = All-nil (λ cell_use. use_layout cells cell_use plane x y ≡ 0)
  each-none (first ∷ later) plane x y none =
      let P : CellUse → Type 0 = λ cell_use. use_layout cells cell_use plane x y ≡ 0 in
      let both = both_none (uses_layout cells later plane x y) (use_layout cells first plane x y) (uses_layout cells later plane x y == 0) refl none in
      All-cons P first later both.1 (each-none later plane x y both.0)

  -- a use that is among later ones is seen nowhere
  hidden-among :
      (later : List CellUse) (cell_use : CellUse) (plane x y : ℕ) → Contains later cell_use
      → over (uses_layout cells later plane) (use_layout cells cell_use plane) x y ≡ uses_layout cells later plane x y
  hidden-among later cell_use plane x y among = by (uses_layout cells later plane x y == 0) refl
    where
      by : (none : Bool) → (uses_layout cells later plane x y == 0) ≡ none → over (uses_layout cells later plane) (use_layout cells cell_use plane) x y ≡ uses_layout cells later plane x y
      by true at =
          let nothing = eqb-true (uses_layout cells later plane x y) 0 at in
          over-none (uses_layout cells later plane) (use_layout cells cell_use plane) x y nothing
          ∙ All-contains (λ other. use_layout cells other plane x y ≡ 0) later cell_use (each-none later plane x y nothing) among ∙ sym nothing
      by false at = cond-false (uses_layout cells later plane x y == 0) (use_layout cells cell_use plane x y) (uses_layout cells later plane x y) at

  -- ---- from one use on
  module _ (uses : List CellUse) (n : ℕ) (cell_use : CellUse) (within : n < length uses) (is : cell_use ≡ get_or uses n cell_use) (plane x y : ℕ) where
    -- a use lies under those after it
    from_it : uses_layout cells (drop n uses) plane x y ≡ over (uses_layout cells (drop (n + 1) uses) plane) (use_layout cells cell_use plane) x y
    from_it =
        ap (λ (list : List CellUse). uses_layout cells list plane x y) (drop-cons uses n cell_use within ∙ ap (λ (u : CellUse). u ∷ drop (suc n) uses) (sym is))
        ∙ ap (λ (k : ℕ). over (uses_layout cells (drop k uses) plane) (use_layout cells cell_use plane) x y) (sym (add-one n))

    -- with it painted, those after it lie over as they all did before
    pub under_later-painted :
        (old new : Picture) → new x y ≡ over (use_layout cells cell_use plane) old x y
        → over (uses_layout cells (drop (n + 1) uses) plane) new x y ≡ over (uses_layout cells (drop n uses) plane) old x y
    under_later-painted old new painted =
        over-same (uses_layout cells (drop (n + 1) uses) plane) new (over (use_layout cells cell_use plane) old) x y painted
        ∙ sym (over-assoc (uses_layout cells (drop (n + 1) uses) plane) (use_layout cells cell_use plane) old x y)
        ∙ sym (over-as (uses_layout cells (drop n uses) plane) (over (uses_layout cells (drop (n + 1) uses) plane) (use_layout cells cell_use plane)) old old x y from_it refl)

    -- and it need not be painted where it is seen nowhere
    pub under_later-hidden :
        (old : Picture) → over (uses_layout cells (drop (n + 1) uses) plane) (use_layout cells cell_use plane) x y ≡ uses_layout cells (drop (n + 1) uses) plane x y
        → over (uses_layout cells (drop (n + 1) uses) plane) old x y ≡ over (uses_layout cells (drop n uses) plane) old x y
    under_later-hidden old hidden = over-as (uses_layout cells (drop (n + 1) uses) plane) (uses_layout cells (drop n uses) plane) old old x y (sym hidden ∙ sym from_it) refl

    pub under_later-none :
        (old : Picture) → use_layout cells cell_use plane x y ≡ 0
        → over (uses_layout cells (drop (n + 1) uses) plane) old x y ≡ over (uses_layout cells (drop n uses) plane) old x y
    under_later-none old none = under_later-hidden old (over-space (uses_layout cells (drop (n + 1) uses) plane) (use_layout cells cell_use plane) x y none)

    pub under_later-among :
        (old : Picture) → Contains (drop (n + 1) uses) cell_use
        → over (uses_layout cells (drop (n + 1) uses) plane) old x y ≡ over (uses_layout cells (drop n uses) plane) old x y
    under_later-among old among = under_later-hidden old (hidden-among (drop (n + 1) uses) cell_use plane x y among)
