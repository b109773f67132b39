use Rattle.std.proofs.Common.{List, sym, subst}
use Rattle.std.proofs.lemmas.List.Elements.{All-push}
use Rattle.mls_checker.specs.Copies.{IsListOf, SideList}
use Rattle.mls_checker.specs.Sides.{AreSides, with_inner}
use Rattle.mls_checker.specs.Tiles.{AreTiles, Tile, outer, tiles_picture}
use Rattle.mls_checker.proofs.side_lists.add_lists.Goals as goal
use Rattle.mls_checker.proofs.side_lists.add_lists.Goals.{then-is_none+in_ok-sides+in_ok-push, else-is_none}

pub sides_of-requires : goal.sides_of-requires
sides_of-requires c = subst (λ (ts : List Tile). AreTiles outer (tiles_picture ts) ts) (sym c.tiles.ensures.value) c.tiles.ensures.tiles

pub loop-direction-preserved : goal.loop-direction-preserved
loop-direction-preserved c = elim c.if-is_none.branch [
  | then-is_none+in_ok-sides+in_ok-push w ↦ (
      let sides = w.in_ok-sides.sides.items in
      let direction = w.axis-direction.result in
      let list : SideList = record { plane = c.args.rule.now.trigger_plane; direction = direction; sides = sides } in
      rw w.lists-is (rw w.in_ok-push.ensures.items
      (All-push (IsListOf c.args.snapshot.now) c.loop-direction.lists.items list c.loop-direction.invariant (record {
        sides = subst (λ (ts : List Tile). AreSides direction outer (tiles_picture ts) (with_inner direction ts sides)) w.tiles.ensures.value w.in_ok-sides.ensures.sides;
        bounded = w.in_ok-sides.ensures.bounded;
      }))))
  | else-is_none w ↦ rw w.lists-is c.loop-direction.invariant
]

pub returns-in_err-push : goal.returns-in_err-push
returns-in_err-push c = rw c.in_err-push.ensures.items c.loop-direction.invariant
