-- the uses so far have the likeness, and the pool is as it was
use Rattle.std.proofs.Common.{◌≡◌, ℕ, All, take}
use Rattle.mls_layout.specs.Likenesses.{ShowsAlike}
use Rattle.mls_layout.specs.Uses.{cell_layouts, use_layout}
use Rattle.mls_layout.proofs.alike_uses.each_is_alike.Given as goal

abbrev pub invariant-loop-index : goal.invariant-loop-index
invariant-loop-index l = record {
  each : All (λ cell_use. (plane : ℕ) → ShowsAlike l.fn.zone.likeness l.fn.zone.halo l.fn.zone.rect (use_layout (cell_layouts l.fn.workspace.pool l.fn.uses.library.now) cell_use plane))
      (take l.index l.fn.uses.list.now);
  pool : l.workspace.pool ≡ l.fn.workspace.pool;
}
