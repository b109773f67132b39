use Rattle.std.proofs.Common.{◌≡◌, List, sym, ap, subst, ◌∙◌, arith, rules}
use Rattle.mls_geom.specs.Directions.{axis}
use Rattle.mls_geom.specs.declared.direction.Direction.{Direction}
use Rattle.mls_checker.specs.Copies.{IsListOf, SideList}
use Rattle.mls_checker.specs.Sides.{Side}
use Rattle.mls_checker.proofs.side_lists.find_sides.Goals as goal

pub returns-then-eq-2 : goal.returns-then-eq-2
returns-then-eq-2 c =
    let item : SideList = c.list-item.result in
    let plane = c.args.plane in
    let direction = axis c.args.direction in
    let same_plane : item.plane ≡ plane = search rules in
    let same_direction : item.direction ≡ c.axis-kept.result = search rules in
    let kept : item.direction ≡ direction = same_direction ∙ c.axis-kept.ensures in
    let sides : item.sides ≡ c.deref.result.now = sym (ap (λ (l : SideList). l.sides) c.list.view_is) ∙ sym c.deref.ensures.value in
    let found : SideList = record { plane = plane; direction = direction; sides = c.deref.result.now } in
    let is : item ≡ found =
    ap (λ n. record item { plane = n }) same_plane
    ∙ ap (λ (d : Direction). record item { plane = plane; direction = d }) kept
    ∙ ap (λ (listed : List Side). record found { sides = listed }) sides in
    λ copied are. subst (IsListOf copied) is (subst (IsListOf copied) (sym c.list-item.is) (are c.loop-list.list-index item (omega (arith, c.loop-list-test.true))))
