-- What a cell file paints are types on their own planes.
use Rattle.std.proofs.Common.{◌≡◌, ◌≢◌, ℕ, Bool, true, false, cond, Some, List, [], ◌∷◌, get_or, All, refl, sym, subst}
use Rattle.std.proofs.lemmas.List.Elements.{All-head, All-tail}
use Rattle.mls_geom.specs.Pictures.{Picture, empty_picture, overlaid, painted}
use Rattle.mls_geom.specs.Rects.{holds}
use Rattle.mls_geom.specs.declared.piece.Piece.{Piece}
use Rattle.mls_tech.specs.Readings.{Tech, plane_of_type}
use Rattle.mls_tilepool.specs.Pools.{Pool}
use Rattle.mls_paint.specs.Owners.{AddsOwners}
use Rattle.mls_library.specs.CellFiles.{layout_of_rects, pieces_on}
use Rattle.mls_library.specs.Inner.{IsTypeOn}
use Rattle.mls_library.specs.Libraries.{IsHome, Library, ShowOwnTypes}
use Rattle.mls_library.specs.SavedCells.{ShowsOwnTypes}
use Rattle.mls_library.specs.declared.cell_rect.CellRect.{CellRect}
use Rattle.mls_library.proofs.KeptCells.{cell_layout-AddsOwners}
use Rattle.mls_library.proofs.SavedLayouts.{All-pieces_on}

-- a fact of the kinds of all pieces, and of that below, is one of what they show
pub overlaid_keeps : (P : ℕ → Type 0) (x y : ℕ) (below : Picture) (pieces : List Piece) → P (below x y) → All (λ piece. P piece.kind) pieces → P (overlaid below pieces x y)
overlaid_keeps P x y below [] under each = under
overlaid_keeps P x y below (piece ∷ pieces) under each =
    overlaid_keeps P x y (painted below piece) pieces
    (kept (holds piece.rect x y))
    (All-tail (λ piece. P piece.kind) piece pieces each)
  where
    kept : (inside : Bool) → P (cond inside piece.kind (below x y))
    kept true = All-head (λ piece. P piece.kind) piece pieces each
    kept false = under

-- rectangles of types on their own planes show these alone
pub rects_show_own : (tech : Tech) (rects : List CellRect) → All (λ rect. IsTypeOn tech rect.piece.kind rect.plane) rects → ShowsOwnTypes tech (layout_of_rects rects)
rects_show_own tech rects known plane x y =
    let P = λ (kind : ℕ). kind ≢ 0 → plane_of_type tech.type_planes kind ≡ Some plane in
    overlaid_keeps P x y empty_picture (pieces_on plane rects) (λ solid. absurd (solid refl))
    (All-pieces_on (λ piece. P piece.kind) plane rects
    (λ k d within same solid. subst (λ p. plane_of_type tech.type_planes (get_or rects k d).piece.kind ≡ Some p) same (known k d within).on))

-- cells that were there show what they showed
pub own_types-AddsOwners : (tech : Tech) (old new : Pool) (cells : Library) (owners : List ℕ) (tiles : ℕ) → AddsOwners old new owners tiles → IsHome old cells
    → ShowOwnTypes tech old cells → ShowOwnTypes tech new cells
own_types-AddsOwners tech old new cells owners tiles added home each k d within =
    subst (ShowsOwnTypes tech) (sym (cell_layout-AddsOwners old new owners tiles added (get_or cells k d) (home.each k d within))) (each k d within)
