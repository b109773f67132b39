use Rattle.std.proofs.Common.{◌≡◌, ◌||◌, ◌&&◌, not, ap, ◌∙◌}
use Rattle.mls_kinds.specs.KindSets.{has_bit}
use Rattle.mls_checker.specs.Copies.{copied_layout}
use Rattle.mls_checker.specs.Grids.{marked_squares, reached_squares}
use Rattle.mls_checker.proofs.MarkedSquares.{marked_where_forbidden}
use Rattle.mls_checker.proofs.mark_sink.MarkSink.mark_reached.Goals as goal

pub returns-clause-marked : goal.returns-clause-marked
returns-clause-marked c x y =
    let sink = c.args.self.now in
    let picture = copied_layout c.args.snapshot.now sink.check_plane in
    let grid = c.clear_kinds.new.grid in
    let left : reached_squares grid.bands x y ≡ (reached_squares sink.grid.bands x y && not (has_bit sink.ok_types (picture x y))) =
    marked_where_forbidden grid.rect picture _ c.as_slice.result.now sink.ok_types x y (reached_squares sink.grid.bands x y) (reached_squares grid.bands x y)
    c.tiles-tiles.ensures.tiles (c.as_slice.ensures ∙ c.tiles-tiles.ensures.value) c.mark_reached.ensures.legal (c.mark_reached.ensures.within x y) (c.clear_kinds.ensures.reached x y) in
    c.mark_reached.ensures.marked x y ∙ ap (λ b. b || reached_squares grid.bands x y) (c.clear_kinds.ensures.marked x y) ∙ ap (λ b. marked_squares sink.grid.bands x y || b) left
