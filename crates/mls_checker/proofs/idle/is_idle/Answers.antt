use Rattle.std.proofs.Common.{ap, ◌&&◌}
use Rattle.mls_checker.specs.Copies.{copied_layout}
use Rattle.mls_checker.specs.Forbids.{reaches}
use Rattle.mls_checker.proofs.NoReach.{no_edges-forbids}
use Rattle.mls_checker.proofs.idle.is_idle.Goals as goal

pub returns-then-has_no_edges : goal.returns-then-has_no_edges
returns-then-has_no_edges c _ p = no_edges-forbids c.args.rule.now (copied_layout c.args.snapshot.now) p (c.has_no_edges.ensures c.if-has_no_edges.true)

pub returns-else-has_no_edges : goal.returns-else-has_no_edges
returns-else-has_no_edges c all p = ap (λ b. b && reaches c.args.rule.now (copied_layout c.args.snapshot.now) p) (c.allows_all.ensures all p)
