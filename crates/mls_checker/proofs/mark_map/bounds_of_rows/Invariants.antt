use Rattle.std.proofs.Common.{◌&&◌}
use Rattle.std.specs.Prelude.{nat_lt}
use Rattle.mls_geom.specs.Rects.{holds}
use Rattle.mls_checker.specs.Maps.{has_place, place_of}
use Rattle.mls_checker.specs.MarkMaps.{IsTightOf}
use Rattle.mls_checker.specs.Marking.{differs}
use Rattle.mls_checker.proofs.mark_map.bounds_of_rows.Given as goal

-- those of the rows so far
abbrev pub invariant-loop-row : goal.invariant-loop-row
invariant-loop-row l =
    IsTightOf (λ x y. nat_lt y l.row && (holds l.part x y && differs l.is_marked (has_place l.words (place_of l.frame x y)))) l.bounds
