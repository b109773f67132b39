-- Cells at home in a pool stay so, and show what they showed, as tiles of other owners change and as owners are added.
use Rattle.std.proofs.Common.{◌≡◌, ℕ, List, length, get_or, All, Contains, ap, sym, ◌∙◌}
use Rattle.mls_geom.specs.Layouts.{Layout}
use Rattle.mls_stitch.specs.Tilings.{shown}
use Rattle.mls_tilepool.specs.Pools.{Pool, room_of, tiles_of}
use Rattle.mls_paint.specs.Owners.{AddsOwners, ChangesAmong}
use Rattle.mls_paint.proofs.OwnerFrames.{has_room-HasStrips, layout_in-kept, not_added, room_of-ChangesAmong}
use Rattle.mls_library.specs.Bounds.{painted_bounds}
use Rattle.mls_library.specs.Libraries.{IsCellHome, IsHome, Library, NamedCell, cell_layout}
use Rattle.mls_library.proofs.BuiltPlanes.{IsFrozen-kept}

-- the owner has the tiles and the reserve that it had
pub record IsKept (old new : Pool) (owner : ℕ) : Type 0 where
  pub tiles : tiles_of new owner ≡ tiles_of old owner
  pub room : room_of new owner ≡ room_of old owner

-- none of the owners is the cell's
abbrev pub IsCellApart : List ℕ → NamedCell → Type 0
IsCellApart owners cell = All (λ owner. ¬ (Contains owners owner)) cell.planes

module _ (old new : Pool) where
  -- ---- where the cells' owners are kept
  pub cell_layout-kept : (cell : NamedCell) → All (IsKept old new) cell.planes → cell_layout new cell ≡ cell_layout old cell
  cell_layout-kept cell kept = layout_in-kept old new cell.planes (λ k d within. ap shown (kept k d within).tiles)

  pub IsCellHome-kept : (cell : NamedCell) → All (IsKept old new) cell.planes → IsCellHome old cell → IsCellHome new cell
  IsCellHome-kept cell kept home = record {
    frozen = λ k d within. IsFrozen-kept old new (get_or cell.planes k d) (kept k d within).tiles (kept k d within).room (home.frozen k d within);
    apart = home.apart;
    bounded = λ plane x y outside. ap (λ (layout : Layout). layout plane x y) (cell_layout-kept cell kept) ∙ home.bounded plane x y outside;
    smallest = home.smallest ∙ ap (painted_bounds (length cell.planes)) (sym (cell_layout-kept cell kept));
  }

  pub IsHome-kept : (cells : Library) → All (λ cell. All (IsKept old new) cell.planes) cells → IsHome old cells → IsHome new cells
  IsHome-kept cells kept home = record {
    each = λ k d within. IsCellHome-kept (get_or cells k d) (kept k d within) (home.each k d within);
    apart = home.apart;
  }

  -- ---- where tiles of owners change that are no cell's
  module _ (owners : List ℕ) (changed : ChangesAmong old new owners) where
    kept-ChangesAmong : (cell : NamedCell) → IsCellApart owners cell → All (IsKept old new) cell.planes
    kept-ChangesAmong cell apart k d within = record {
      tiles = changed.others (get_or cell.planes k d) (apart k d within);
      room = room_of-ChangesAmong old new owners (get_or cell.planes k d) changed;
    }

    pub cell_layout-ChangesAmong : (cell : NamedCell) → IsCellApart owners cell → cell_layout new cell ≡ cell_layout old cell
    cell_layout-ChangesAmong cell apart = cell_layout-kept cell (kept-ChangesAmong cell apart)

    pub IsHome-ChangesAmong : (cells : Library) → All (IsCellApart owners) cells → IsHome old cells → IsHome new cells
    IsHome-ChangesAmong cells apart = IsHome-kept cells (λ k d within. kept-ChangesAmong (get_or cells k d) (apart k d within))

  -- ---- where owners are added
  module _ (owners : List ℕ) (tiles : ℕ) (added : AddsOwners old new owners tiles) where
    -- they are no cell's
    pub IsCellApart-AddsOwners : (cell : NamedCell) → IsCellHome old cell → IsCellApart owners cell
    IsCellApart-AddsOwners cell home k d within =
        let owner = get_or cell.planes k d in
        not_added old new owners owner tiles added (has_room-HasStrips old owner (home.frozen k d within).strips)

    kept-AddsOwners : (cell : NamedCell) → IsCellHome old cell → All (IsKept old new) cell.planes
    kept-AddsOwners cell home k d within =
        let apart = IsCellApart-AddsOwners cell home k d within in
        record {
          tiles = added.others (get_or cell.planes k d) apart;
          room = added.rooms (get_or cell.planes k d) apart;
        }

    pub cell_layout-AddsOwners : (cell : NamedCell) → IsCellHome old cell → cell_layout new cell ≡ cell_layout old cell
    cell_layout-AddsOwners cell home = cell_layout-kept cell (kept-AddsOwners cell home)

    pub IsHome-AddsOwners : (cells : Library) → IsHome old cells → IsHome new cells
    IsHome-AddsOwners cells home = IsHome-kept cells (λ k d within. kept-AddsOwners (get_or cells k d) (home.each k d within)) home
