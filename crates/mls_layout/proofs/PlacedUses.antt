-- A use that is placed after others shows its cell over what they show, and layouts with uses agree where what is seen of them does.
use Rattle.std.proofs.Common.{◌≡◌, ℕ, ◌==◌, Bool, true, false, if◌then◌else◌, List, [], ◌∷◌, ◌++◌, Option, Some, slice_get, refl, sym, ap, ◌∙◌, eqb-true}
use Rattle.std.specs.Option.{unwrap_or}
use Rattle.std.proofs.Math.Path.{fun_ext}
use Rattle.std.proofs.lemmas.Bool.{cond-false, cond-true}
use Rattle.mls_geom.specs.Layouts.{Layout}
use Rattle.mls_geom.specs.Pictures.{empty_picture}
use Rattle.mls_geom.specs.Rects.{holds}
use Rattle.mls_geom.specs.World.{world}
use Rattle.mls_layout.specs.Moves.{moved_picture}
use Rattle.mls_layout.specs.Uses.{cell_shown, flattened, over, use_layout, uses_layout}
use Rattle.mls_layout.specs.declared.uses.CellUse.{CellUse}

-- ---- one kind over another
abbrev over_kind : ℕ → ℕ → ℕ
over_kind upper lower = if upper == 0 then lower else upper

over_both : (a b c : ℕ) (space : Bool) → (a == 0) ≡ space → over_kind (over_kind a b) c ≡ over_kind a (over_kind b c)
over_both a b c true space =
    ap (λ kind. over_kind kind c) (cond-true (a == 0) b a space) ∙ sym (cond-true (a == 0) (over_kind b c) a space)
over_both a b c false space =
    ap (λ kind. over_kind kind c) (cond-false (a == 0) b a space) ∙ cond-false (a == 0) c a space ∙ sym (cond-false (a == 0) (over_kind b c) a space)

over_none : (a : ℕ) (space : Bool) → (a == 0) ≡ space → a ≡ over_kind a 0
over_none a true space = eqb-true a 0 space ∙ sym (cond-true (a == 0) 0 a space)
over_none a false space = sym (cond-false (a == 0) 0 a space)

-- ---- one use more
-- it shows its cell over what the others show
pub uses_layout-placed :
    (cells : List Layout) (uses : List CellUse) (placed : CellUse) (plane x y : ℕ)
    → uses_layout cells (uses ++ placed ∷ []) plane x y ≡ over (use_layout cells placed plane) (uses_layout cells uses plane) x y
uses_layout-placed cells [] placed plane x y = over_none (use_layout cells placed plane x y) (use_layout cells placed plane x y == 0) refl
uses_layout-placed cells (first ∷ later) placed plane x y =
    ap (λ kind. over_kind kind (use_layout cells first plane x y)) (uses_layout-placed cells later placed plane x y)
    ∙ over_both (use_layout cells placed plane x y) (uses_layout cells later plane x y) (use_layout cells first plane x y)
    (use_layout cells placed plane x y == 0) refl

-- it shows nothing where its cell, moved, is space
pub use_layout-moved :
    (cells : List Layout) (placed : CellUse) (cell : Layout) (plane x y : ℕ) → slice_get cells placed.cell ≡ Some cell
    → moved_picture (cell plane) placed.dx placed.dy x y ≡ 0 → use_layout cells placed plane x y ≡ 0
use_layout-moved cells placed cell plane x y there space = by (holds world x y)
  where
    by : (inside : Bool) → (if inside then moved_picture (cell_shown cells placed.cell plane) placed.dx placed.dy x y else 0) ≡ 0
    by true =
        ap (λ (found : Option Layout). moved_picture (unwrap_or found (λ number. empty_picture) plane) placed.dx placed.dy x y) there ∙ space
    by false = refl

-- ---- layouts
-- where the own paint is the same, so is the layout
pub flattened-agrees :
    (cells : List Layout) (uses : List CellUse) (paint other : Layout) (plane x y : ℕ) → paint plane x y ≡ other plane x y
    → flattened cells uses paint plane x y ≡ flattened cells uses other plane x y
unfolding flattened
flattened-agrees cells uses paint other plane x y same = ap (λ kind. over_kind kind (uses_layout cells uses plane x y)) same

-- and where one use more shows nothing
pub flattened-placed :
    (cells : List Layout) (uses : List CellUse) (placed : CellUse) (paint : Layout) (plane x y : ℕ) → use_layout cells placed plane x y ≡ 0
    → flattened cells uses paint plane x y ≡ flattened cells (uses ++ placed ∷ []) paint plane x y
unfolding flattened
flattened-placed cells uses placed paint plane x y space =
    let shown : uses_layout cells (uses ++ placed ∷ []) plane x y ≡ uses_layout cells uses plane x y =
    uses_layout-placed cells uses placed plane x y ∙ ap (λ kind. over_kind kind (uses_layout cells uses plane x y)) space in
    ap (over_kind (paint plane x y)) (sym shown)

-- with no uses it is the own paint
pub flattened-no_uses : (cells : List Layout) (paint : Layout) → flattened cells [] paint ≡ paint
unfolding flattened
flattened-no_uses cells paint =
    fun_ext (λ plane. fun_ext (λ x. fun_ext (λ y. sym (over_none (paint plane x y) (paint plane x y == 0) refl))))
