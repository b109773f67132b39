use Rattle.std.proofs.Common.{◌≡◌, ◌∙◌, ℕ, ◌*◌, List, length, ap, sym, subst, arith}
use Rattle.std.proofs.lemmas.List.Elements.{All-push}
use Rattle.mls_checker.specs.Copies.{copied_layout}
use Rattle.mls_checker.specs.Maps.{IsTypeMap, Shows, of_types}
use Rattle.mls_checker.proofs.Stacks.{given-back}
use Rattle.mls_checker.proofs.type_map.keep_map.Goals as goal

pub returns : goal.returns
returns c =
    let layout = copied_layout c.args.snapshot.now in
    let map = c.in_ok-map.map in
    let back = given-back map.items c.deref_mut.result.now c.show.new.map map.len c.deref_mut.ensures.value c.show.auto.map c.deref_mut.ensures.len in
    let shows = subst (λ (words : List ℕ). Shows c.args.frame (of_types c.shown_of-types.result (layout c.args.plane)) words) (sym back) c.show.ensures in
    let long : length c.show.new.map ≡ c.args.frame.words * c.args.frame.rows = omega (arith, c.show.auto.map, ap length c.deref_mut.ensures.value, c.in_ok-map.ensures.len, c.size.ensures) in
    rw c.in_ok-push.ensures.items
    (All-push (IsTypeMap c.args.frame layout) c.args.kept.now.items _ c.requires (record { size = ap length back ∙ long; shows = shows }))
