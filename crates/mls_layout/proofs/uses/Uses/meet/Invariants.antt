use Rattle.std.proofs.Common.{◌≡◌, ℕ, true, take}
use Rattle.std.specs.List.{All}
use Rattle.mls_geom.specs.Rects.{holds}
use Rattle.mls_library.specs.Libraries.{IsHome}
use Rattle.mls_tilepool.specs.Pools.{Pool}
use Rattle.mls_layout.specs.Uses.{cell_layouts, use_layout}
use Rattle.mls_layout.proofs.uses.Uses.meet.Given as goal

-- the uses so far show nothing in the area
abbrev pub invariant-loop-cell_use : goal.invariant-loop-cell_use
invariant-loop-cell_use l =
    (pool : Pool) → IsHome pool l.self.library.now → (plane x y : ℕ) → holds l.area x y ≡ true
    → All (λ cell_use. use_layout (cell_layouts pool l.self.library.now) cell_use plane x y ≡ 0) (take l.cell_use-index l.self.list.now)
