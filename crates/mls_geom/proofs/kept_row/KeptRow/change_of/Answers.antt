-- The runs that the mark meets or touches are those between what the two searches find.
use Rattle.mls_geom.proofs.Common.{◌≡◌, ◌≤◌, ◌<◌, ap, get_or, slice_index, sym, ◌∙◌, ◌-◌, arith, rules, IsPartitionPoint, get_or_default, length-map, IsPartitionPoint-from_clause}
use Rattle.mls_geom.proofs.Definitions.{Rect, run_of, begins_by, ends_before, runs_of, Run}
use Rattle.mls_geom.proofs.KeptRuns.{begins_point, ends_point, run_read}
use Rattle.mls_geom.proofs.MarkedRuns.{IsChangeOf-alone, IsChangeOf-runs}
use Rattle.mls_geom.proofs.kept_row.KeptRow.change_of.Goals as goal
use Rattle.mls_geom.proofs.kept_row.KeptRow.change_of.Goals.{After-partition_point-end}

-- the mark's lines, the runs that end before its left one, and those that begin by its right one
module _ (c : After-partition_point-end) where
  left_line : c.index.result.now ≡ slice_index c.args.self.now.lines.items c.args.mark.first
  left_line = c.index.ensures ∙ get_or_default c.args.self.now.lines.items c.args.mark.first _ 0 (omega (arith, c.requires.wide, c.requires.in_row))

  right_line : c.index-2.result.now ≡ slice_index c.args.self.now.lines.items c.args.mark.end
  right_line = c.index-2.ensures ∙ get_or_default c.args.self.now.lines.items c.args.mark.end _ 0 c.requires.in_row

  ended :
      IsPartitionPoint (λ run. run.right < slice_index c.args.self.now.lines.items c.args.mark.first) (λ run. slice_index c.args.self.now.lines.items c.args.mark.first ≤ run.right)
      (runs_of c.args.self.now.strips.items c.args.self.now.row.items) c.partition_point-first.result
  ended =
      let self = c.args.self.now in
      rw left_line at (ends_point self.strips.items self.row.items c.requires.known c.requires.ordered c.index.result.now c.partition_point-first.result (rw c.deref.ensures.value at c.partition_point-first.ensures.bound)
      (λ parted. IsPartitionPoint-from_clause (ends_before self.strips.items c.index.result.now) self.row.items c.partition_point-first.result
      (rw c.deref.ensures.value at c.partition_point-first.ensures.partitioned) parted (λ a r q k. search rules)))

  begun :
      IsPartitionPoint (λ run. run.left ≤ slice_index c.args.self.now.lines.items c.args.mark.end) (λ run. slice_index c.args.self.now.lines.items c.args.mark.end < run.left)
      (runs_of c.args.self.now.strips.items c.args.self.now.row.items) c.partition_point-end.result
  begun =
      let self = c.args.self.now in
      rw right_line at (begins_point self.strips.items self.row.items c.requires.known c.requires.ordered c.index-2.result.now c.partition_point-end.result (rw c.deref-2.ensures.value at c.partition_point-end.ensures.bound)
      (λ parted. IsPartitionPoint-from_clause (begins_by self.strips.items c.index-2.result.now) self.row.items c.partition_point-end.result
      (rw c.deref-2.ensures.value at c.partition_point-end.ensures.partitioned) parted (λ a r q k. search rules)))

pub returns-then-end-first : goal.returns-then-end-first
returns-then-end-first c =
    let here = (goal.at.returns-then-end-first c).After-partition_point-end in
    let self = c.args.self.now in
    let count = length-map self.row.items (run_of self.strips.items) in
    let (before, after) = ended here in
    let (left, right) = begun here in
    IsChangeOf-alone self.lines.items c.requires.cuts.ascending (runs_of self.strips.items self.row.items) c.requires.ordered c.args.mark c.requires.wide c.requires.in_row
    c.partition_point-first.result c.partition_point-end.result
    (rw count (rw c.deref.ensures.value at c.partition_point-first.ensures.bound)) (rw count (rw c.deref-2.ensures.value at c.partition_point-end.ensures.bound)) before after left right c.if-end-first.true

pub returns : goal.returns
returns c =
    let here = (goal.at.returns c).After-partition_point-end in
    let self = c.args.self.now in
    let lines = self.lines.items in
    let strips = self.strips.items in
    let row = self.row.items in
    let mark = c.args.mark in
    let (before, after) = ended here in
    let (left, right) = begun here in
    let count = length-map row (run_of strips) in
    let bound = rw c.deref.ensures.value at c.partition_point-first.ensures.bound in
    let last = rw c.deref-2.ensures.value at c.partition_point-end.ensures.bound in
    let first_run : (d : Run) → (get_or (runs_of strips row) c.partition_point-first.result d).left ≡ c.leftmost.inside.left =
    λ d. ap (λ (run : Run). run.left) (run_read strips c.as_slice-strips.result.now row c.partition_point-first.result c.index-3.result.now _ d c.requires.known (omega (arith, c.if-end-first.false, last)) c.index-3.ensures c.as_slice-strips.ensures.value)
    ∙ sym (ap (λ (e : Rect). e.left) (c.leftmost.view_is ∙ c.area-leftmost.ensures.value)) in
    let last_run : (d : Run) → (get_or (runs_of strips row) (c.partition_point-end.result - 1) d).right ≡ c.rightmost.inside.right =
    λ d. ap (λ (run : Run). run.right) (run_read strips c.as_slice-strips.result.now row (c.partition_point-end.result - 1) c.index-4.result.now _ d c.requires.known (omega (arith, c.if-end-first.false, last)) c.index-4.ensures c.as_slice-strips.ensures.value)
    ∙ sym (ap (λ (e : Rect). e.right) (c.rightmost.view_is ∙ c.area-rightmost.ensures.value)) in
    let left_is = left_line here in
    let right_is = right_line here in
    let found_left = rw c.deref-3.ensures.value at c.in_ok-find_line.ensures.found in
    let found_right = rw c.deref-4.ensures.value at c.in_ok-find_line-2.ensures.found in
    IsChangeOf-runs lines c.requires.cuts.ascending (runs_of strips row) c.requires.ordered mark c.requires.wide c.requires.in_row c.partition_point-first.result c.partition_point-end.result
    (rw count bound) (rw count (rw c.deref-2.ensures.value at c.partition_point-end.ensures.bound)) before after left right
    (record { first = c.in_ok-find_line.field-0; end = c.in_ok-find_line-2.field-0 }) c.leftmost.inside.left c.rightmost.inside.right (omega (arith, c.if-end-first.false)) first_run last_run
    found_left.0 found_right.0 (found_left.1 ∙ rw left_is at c.min.ensures) (found_right.1 ∙ rw right_is at c.max.ensures)
