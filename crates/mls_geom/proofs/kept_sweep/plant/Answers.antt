-- Each piece reaches from one of the lines to another, and they ascend.
use Rattle.std.proofs.Common.{refl, sym, ap, ◌∙◌, subst, arith}
use Rattle.mls_geom.proofs.Definitions.{Rect, IsBetweenLines, Piece}
use Rattle.mls_geom.proofs.CutLines.{before_from_less}
use Rattle.mls_geom.proofs.PlantedPieces.{AreFirstPlanted-push, some_found}
use Rattle.mls_geom.proofs.EmptyTrees.{IsTree-added}
use Rattle.mls_geom.proofs.kept_sweep.plant.Goals as goal

pub unwrap-first-requires : goal.unwrap-first-requires
unwrap-first-requires c =
    let between = subst (λ (p : Piece). IsBetweenLines c.args.lines.now p.rect) (sym c.piece-item.is) (c.requires.between c.loop-piece.piece-index c.piece-item.result c.loop-piece-test.true) in
    let left = ap (λ (e : Rect). e.left) (c.edges.view_is ∙ c.area-edges.ensures.value) in
    some_found c.find_line.result _ c.find_line.ensures.none (rw left between.left)

pub unwrap-end-requires : goal.unwrap-end-requires
unwrap-end-requires c =
    let between = subst (λ (p : Piece). IsBetweenLines c.args.lines.now p.rect) (sym c.piece-item.is) (c.requires.between c.loop-piece.piece-index c.piece-item.result c.loop-piece-test.true) in
    let right = ap (λ (e : Rect). e.right) (c.edges.view_is ∙ c.area-edges.ensures.value) in
    some_found c.find_line-in-loop-piece.result _ c.find_line-in-loop-piece.ensures.none (rw right between.right)

pub loop-piece-preserved : goal.loop-piece-preserved
loop-piece-preserved c =
    let (first_in, first) = rw c.unwrap-first.ensures at c.find_line.ensures.found in
    let (end_in, end) = rw c.unwrap-end.ensures at c.find_line-in-loop-piece.ensures.found in
    let legal = c.area-edges.ensures.legal in
    let edges = c.edges.view_is ∙ c.area-edges.ensures.value in
    let left = ap (λ (e : Rect). e.left) edges in
    let right = ap (λ (e : Rect). e.right) edges in
    let so_far = c.loop-piece.invariant in
    let some = before_from_less c.args.lines.now c.requires.cuts.ascending _ _ first_in (omega (arith, first, end, left, right, legal.wide)) in
    let count = so_far.planted.count in
    let few = c.in-Ok.ensures.0 in
    record {
      tree = IsTree-added c.loop-piece.tree (record { width = c.loop-piece.tree.width; segments = c.push_reserved.new.self; nodes = c.loop-piece.tree.nodes; entries = c.loop-piece.tree.entries }) _ c.push_reserved.ensures.items refl refl some (omega (arith, end_in, so_far.slots)) (omega (arith, count, few)) so_far.tree;
      planted = rw c.push_reserved.ensures.items
          (AreFirstPlanted-push c.args.lines.now c.args.pieces.now c.loop-piece.piece-index c.loop-piece.tree.segments.items c.piece-item.result _ c.loop-piece-test.true c.piece-item.is
          record {
            left_in = first_in;
            left = first ∙ left;
            right_in = end_in;
            right = end ∙ right;
            end = ap (λ (e : Rect). e.top) edges;
            kind = cc;
          } c.loop-piece.invariant.planted);
      slots = so_far.slots;
      room = omega (arith, so_far.room, c.push_reserved.ensures.capacity);
    }
