use Rattle.std.proofs.Common.{◌≡◌, ◌*◌, length, vec_capacity}
use Rattle.mls_session.proofs.Common.{AddsOwners, AreAtHome, plane_reserve}
use Rattle.mls_session.proofs.Openings.{AreSpace}
use Rattle.mls_session.proofs.design.space_planes.Given as goal

-- the planes so far are as the contract has all
abbrev pub invariant-loop-plane : goal.invariant-loop-plane
invariant-loop-plane l = record {
  count : length l.planes.items ≡ l._plane;
  reserved : vec_capacity l.planes ≡ l.fn.setup.tech.plane_count;
  home : AreAtHome l.workspace.pool l.fn.setup.quota l.planes.items;
  space : AreSpace l.workspace.pool l.planes.items;
  added : AddsOwners l.fn.workspace.pool l.workspace.pool l.planes.items (length l.planes.items * plane_reserve l.fn.setup.quota);
}
