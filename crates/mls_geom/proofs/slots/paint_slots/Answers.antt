-- This turn's piece lies over those visited, and fills the slots between its lines.
use Rattle.mls_geom.proofs.Common.{◌≡◌, ◌-◌, ◌≤◌, ◌&&◌, if◌then◌else◌, nat_le, nat_lt, Some, length, slice_get, slice_index, drop, replicate, take, refl, sym, ap, ◌∙◌, arith, rules, length-drop, length-take-le, take_all, Contains-get_or, slice_get_read}
use Rattle.mls_geom.proofs.Definitions.{uncovered, Rect, IsBetweenLines}
use Rattle.mls_geom.proofs.ActivePieces.{named_within, overlaid_active, pieces_at, pieces_at-push}
use Rattle.mls_geom.proofs.CutLines.{before_from_less, holds-indices}
use Rattle.mls_geom.proofs.FilledSlots.{HaveBytes-filled, length-filled, shown-filled}
use Rattle.mls_geom.proofs.Overlays.{overlaid_append}
use Rattle.mls_geom.proofs.slots.paint_slots.Goals as goal
use Rattle.mls_geom.proofs.slots.paint_slots.Goals.{After-unwrap-end}

-- the piece's slots
wide : (c : After-unwrap-end) → c.unwrap-first.result ≤ c.unwrap-end.result
wide c =
    let (first_in, first) = rw c.unwrap-first.ensures at c.find_line.ensures.found in
    let (end_in, end) = rw c.unwrap-end.ensures at c.find_line-in-loop-i.ensures.found in
    let legal = c.area-edges.ensures.legal in
    let left = ap (λ (e : Rect). e.left) (c.edges.view_is ∙ c.area-edges.ensures.value) in
    let right = ap (λ (e : Rect). e.right) (c.edges.view_is ∙ c.area-edges.ensures.value) in
    omega (arith, before_from_less c.args.lines.now c.requires.ascending c.unwrap-first.result c.unwrap-end.result first_in (omega (arith, first, end, left, right, legal.wide)))

pub slice_bounds-fill-count : goal.slice_bounds-fill-count
slice_bounds-fill-count c = wide (goal.at.slice_bounds-fill-count c).After-unwrap-end

pub slice_bounds-fill-start : goal.slice_bounds-fill-start
slice_bounds-fill-start c = wide (goal.at.slice_bounds-fill-start c).After-unwrap-end

pub loop-i-preserved : goal.loop-i-preserved
loop-i-preserved c =
    let lines = c.args.lines.now in
    let pieces = c.args.pieces.now in
    let active = c.args.active.now in
    let kinds = c.loop-i.kinds in
    let i = slice_index active c.loop-i.i-index in
    let piece = c.index-pieces-i.result in
    let in_list = c.loop-i-test.true in
    let first = c.unwrap-first.result in
    let end = c.unwrap-end.result in
    let (first_in, first_is) = rw c.unwrap-first.ensures at c.find_line.ensures.found in
    let (end_in, end_is) = rw c.unwrap-end.ensures at c.find_line-in-loop-i.ensures.found in
    let edges = c.edges.view_is ∙ c.area-edges.ensures.value in
    let before = wide (goal.at.loop-i-preserved c).After-unwrap-end in
    let so_far = c.loop-i.invariant in
    let is : slice_get pieces i ≡ Some piece =
    slice_get_read pieces (length pieces) i piece refl (named_within (λ p. IsBetweenLines lines p.rect) pieces i (c.requires.between c.loop-i.i-index 0 in_list)) c.index-pieces-i.is in
    let fits : end ≤ length kinds = omega (arith, so_far.len, c.requires.count, end_in) in
    let filled : c.fill.new.self ≡ replicate (end - first) (Some piece.kind) =
    c.fill.ensures.after (λ y clone. search rules) ∙ ap (λ n. replicate n (Some piece.kind)) (length-take-le (end - first) (drop first kinds) (omega (arith, length-drop first kinds, fits))) in
    record {
      len = length-filled kinds c.fill.new.self first end piece.kind before fits filled ∙ so_far.len;
      bytes = HaveBytes-filled kinds c.fill.new.self first end piece.kind before fits filled c.area-edges.ensures.kind so_far.bytes;
      slot_kinds = λ slot x y meet in_row after under.
          let long = length-filled kinds c.fill.new.self first end piece.kind before fits filled in
          let row = rw is at ((meet.members i).0 (Contains-get_or active c.loop-i.i-index 0 in_list)) in
          let covered = holds-indices lines piece.rect first end slot x y c.requires.ascending first_in end_in (omega (arith, long, so_far.len, c.requires.count, in_row)) (first_is ∙ ap (λ (e : Rect). e.left) edges) (end_is ∙ ap (λ (e : Rect). e.right) edges) row.0 row.1 after under in
          rw (pieces_at-push pieces active c.loop-i.i-index piece in_list is, overlaid_append (λ x y. uncovered) (pieces_at pieces (take c.loop-i.i-index active)) _, covered, shown-filled kinds c.fill.new.self first end piece.kind before fits filled slot)
          (ap (λ k. if nat_le first slot && nat_lt slot end then piece.kind else k) (so_far.slot_kinds slot x y meet (omega (arith, long, in_row)) after under));
    }

pub returns-clause-kinds : goal.returns-clause-kinds
returns-clause-kinds c = λ y meet.
    let pieces = c.args.pieces.now in
    let active = c.args.active.now in
    record {
      count = omega (arith, c.loop-i.invariant.len, c.requires.count);
      each = λ slot x in_row after before.
          sym (overlaid_active pieces active x y meet (λ x y. uncovered))
          ∙ (rw (take_all c.loop-i.i-index active c.loop-i-test.false) at c.loop-i.invariant.slot_kinds) slot x y meet in_row after before;
    }
