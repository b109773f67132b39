use Rattle.std.proofs.Common.{◌≡◌, ℕ, ◌+◌, ◌*◌, ◌<◌, ◌==◌, ◌||◌, ◌&&◌}
use Rattle.mls_kinds.specs.KindSets.{has_bit}
use Rattle.mls_checker.specs.Grids.{has_column, is_between}
use Rattle.mls_checker.proofs.map_frame.fill_column.Given as goal

-- the rows before this one have the columns too
abbrev pub invariant-loop-row : goal.invariant-loop-row
invariant-loop-row l = (row other column : ℕ) → other < l.fn.words → has_column l.map (l.fn.words * row + other) column
    ≡ (has_column l.fn.map (l.fn.words * row + other) column || (is_between l.fn.from l.row row && (other == l.fn.word && has_bit l.fn.columns column)))
