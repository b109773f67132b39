-- Cells that are placed in a layout, and what they show with its own paint. This project's own.
use Rattle.std.specs.Prelude.{ℕ, ◌≤◌, ◌==◌, if◌then◌else◌, List, [], ◌∷◌, length, map, slice_get}
use Rattle.std.specs.List.{All}
use Rattle.std.specs.Option.{unwrap_or}
use Rattle.mls_geom.specs.Layouts.{Layout}
use Rattle.mls_geom.specs.Pictures.{Picture, empty_picture}
use Rattle.mls_geom.specs.Rects.{holds}
use Rattle.mls_geom.specs.World.{world}
use Rattle.mls_library.specs.Libraries.{IsHome, Library, cell_layout}
use Rattle.mls_paint.specs.Planes.{layout_in, picture_in}
use Rattle.mls_stitch.specs.Tilings.{HasPlane}
use Rattle.mls_tilepool.specs.Pools.{Pool}
use Rattle.mls_layout.specs.Moves.{moved_picture}
use Rattle.mls_layout.specs.Workspaces.{FitsWorkspace}
use Rattle.mls_layout.specs.declared.uses.CellUse.{CellUse}
use Rattle.mls_layout.specs.declared.uses.Uses.{Uses}

-- how many uses a layout may have
abbrev pub most_uses : ℕ
most_uses = 256

-- ---- what uses show
-- the layout of the cell of this number; space, if there is none
abbrev pub cell_shown : List Layout → ℕ → Layout
cell_shown cells cell = unwrap_or (slice_get cells cell) (λ plane. empty_picture)

-- the squares of a use's cell, moved to where it is placed; outside the world all is space
abbrev pub use_layout : List Layout → CellUse → Layout
use_layout cells cell_use plane x y =
    if holds world x y then moved_picture (cell_shown cells cell_use.cell plane) cell_use.dx cell_use.dy x y else 0

-- the upper picture where it isn't space, and else the lower one
abbrev pub over : Picture → Picture → Picture
over upper lower x y = if upper x y == 0 then lower x y else upper x y

-- what the uses show, in the order in which they were placed: at each square the latest of them that isn't space there
abbrev pub uses_layout : List Layout → List CellUse → Layout
uses_layout cells [] plane = empty_picture
uses_layout cells (first ∷ later) plane = over (uses_layout cells later plane) (use_layout cells first plane)

-- ---- with a layout's own paint
-- the own paint where that isn't space, and else what the uses show
unfoldable pub flattened : List Layout → List CellUse → Layout → Layout
flattened cells uses paint plane = over (paint plane) (uses_layout cells uses plane)

-- ---- in a pool
-- the layouts of a library's cells
abbrev pub cell_layouts : Pool → Library → List Layout
cell_layouts pool cells = map (cell_layout pool) cells

-- what a plane of this number shows, with the uses
abbrev pub flat_plane : Pool → Uses → ℕ → ℕ → Picture
flat_plane pool uses number owner = over (picture_in pool owner) (uses_layout (cell_layouts pool uses.library.now) uses.list.now number)

-- what the planes of these owners show, the first on plane 0, with the uses
abbrev pub flat_layout : Pool → Uses → List ℕ → Layout
flat_layout pool uses planes = flattened (cell_layouts pool uses.library.now) uses.list.now (layout_in pool planes)

-- the library's cells lie in the pool, and none has more planes than these
pub record HasCells (pool : Pool) (planes : ℕ) (cells : Library) : Type 0 where
  pub home : IsHome pool cells
  pub few : All (λ cell. length cell.planes ≤ planes) cells

-- ---- what calls read
-- planes of the pool that a workspace has room for
pub record HasPlanes (pool : Pool) (owners : List ℕ) : Type 0 where
  pub each : All (HasPlane pool) owners
  pub fit : All (FitsWorkspace pool) owners

-- a layout: such planes, and cells that can be placed in it
pub record HasLayout (pool : Pool) (owners : List ℕ) (library : Library) : Type 0 where
  pub planes : HasPlanes pool owners
  pub cells : HasCells pool (length owners) library

-- one of its planes, and such cells
pub record HasFlatPlane (pool : Pool) (owner : ℕ) (library : Library) : Type 0 where
  pub plane : HasPlane pool owner
  pub fits : FitsWorkspace pool owner
  pub cells : IsHome pool library
