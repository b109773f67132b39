use Rattle.std.proofs.Common.{◌+◌, ◌-◌}
use Rattle.mls_layout.proofs.pieces.+push_flat.Given as goal

-- each part of a zone that is cut has fewer columns or fewer rows
abbrev pub decreases-push_flat : goal.decreases-push_flat
decreases-push_flat l = (l.zone.right - l.zone.left) + (l.zone.top - l.zone.bottom)
