-- The plane of each type whose strips a saved text lists.
use Rattle.std.proofs.Common.{◌≡◌, ℕ, suc, ◌-◌, ◌<◌, ◌≤◌, List, length, get_or, slice_get, Option, Some, ap, ◌∙◌, ne_eqb, arith, IfSome}
use Rattle.std.proofs.lemmas.Bool.{cond-false}
use Rattle.std.proofs.lemmas.Option.{slice_get-get_or}
use Rattle.mls_session.proofs.Common.{IsSection, Layout, ListsPlane, Piece, Tech, layer_lines, plane_of_type}
use Rattle.mls_session.proofs.SavedCounts.{layer_lines-few, strips_few}

plane_of_next : (type_planes : List ℕ) (t : ℕ) → t < length type_planes → plane_of_type type_planes (suc t) ≡ Some (get_or type_planes t 0)
plane_of_next type_planes t within =
    cond-false _ _ _ (ne_eqb (suc t) 0 (λ e. absurd (omega (arith, e)))) ∙ ap (slice_get type_planes) (omega arith) ∙ slice_get-get_or type_planes t 0 within

section_at :
    (tech : Tech) (layout : Layout) (kind : ℕ) (strips : List Piece) (lines : ℕ) (found : Option ℕ) (plane : ℕ) → plane_of_type tech.type_planes kind ≡ Some plane
    → found ≡ plane_of_type tech.type_planes kind → IfSome found (ListsPlane layout strips) → lines ≡ length (layer_lines tech kind strips)
    → IsSection tech layout kind strips lines
section_at tech layout kind strips lines found plane place is lists counted = record { plane = plane; place = place; strips_are = rw (is ∙ place) at lists; count = counted }

-- each type has a plane, whose strips are those that are listed of the type's
pub section_of :
    (tech : Tech) (layout : Layout) (kind : ℕ) (strips : List Piece) (lines : ℕ) (found : Option ℕ) → 1 ≤ kind → kind ≤ length tech.type_planes
    → found ≡ plane_of_type tech.type_planes kind → IfSome found (ListsPlane layout strips) → lines ≡ length (layer_lines tech kind strips)
    → IsSection tech layout kind strips lines
section_of tech layout kind strips lines found from to is lists counted =
    let t = kind - 1 in
    let next : kind ≡ suc t = omega (arith, from) in
    let place = ap (plane_of_type tech.type_planes) next ∙ plane_of_next tech.type_planes t (omega (arith, from, to)) in
    section_at tech layout kind strips lines found (get_or tech.type_planes t 0) place is lists counted

-- a section has no more lines than the world has squares, and one
pub section-few : (tech : Tech) (layout : Layout) (kind : ℕ) (strips : List Piece) (lines : ℕ) → IsSection tech layout kind strips lines → lines ≤ 4398046511105
section-few tech layout kind strips lines is =
    omega (arith, is.count, layer_lines-few tech kind strips, strips_few (layout is.plane), ap length is.strips_are)
