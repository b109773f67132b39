-- A cell that is found by its number is one of the library's.
use Rattle.std.proofs.Common.{◌≡◌, ℕ, ◌≤◌, Option, Some, None, List, All, length, refl, ap, subst, ◌∙◌, arith}
use Rattle.std.specs.Prelude.{slice_get}
use Rattle.std.specs.Option.{option_map}
use Rattle.std.proofs.lemmas.Option.{get_or_from_slice_get, slice_get_within}
use Rattle.mls_geom.specs.Rects.{Rect}
use Rattle.mls_tilepool.specs.Pools.{Pool}
use Rattle.mls_paint.specs.Planes.{layout_in}
use Rattle.mls_paint.specs.Scratches.{HasRoomFor, Scratch}
use Rattle.mls_library.specs.Bounds.{painted_bounds}
use Rattle.mls_library.specs.Libraries.{IsCellHome, IsFrozen, IsHome, Library, NamedCell, ShowsWithin, cell_layout, most_tiles}

-- the cell a part of which is given
part_in : {T : Type 0} (part : NamedCell → T) (given : T) (found : Option NamedCell) → Some given ≡ option_map part found
    → (cell : NamedCell) × (found ≡ Some cell) × (part cell ≡ given)
part_in part given None e = absurd (cc e)
part_in part given (Some cell) e = (cell, refl, cc)

-- the cell of which `Library::get` gives the planes
pub cell_found : (cells : Library) (id : ℕ) (owners : List ℕ) → Some owners ≡ option_map (λ cell. cell.planes) (slice_get cells id)
    → (cell : NamedCell) × (slice_get cells id ≡ Some cell) × (cell.planes ≡ owners)
cell_found cells id owners e = part_in (λ cell. cell.planes) owners (slice_get cells id) e

-- the same of the cell of which it gives the bounds
pub bounds_found : (cells : Library) (id : ℕ) (bounds : Option Rect) → Some bounds ≡ option_map (λ cell. cell.bounds) (slice_get cells id)
    → (cell : NamedCell) × (slice_get cells id ≡ Some cell) × (cell.bounds ≡ bounds)
bounds_found cells id bounds e = part_in (λ cell. cell.bounds) bounds (slice_get cells id) e

-- what holds of each cell holds of one that is found
pub All-found : (P : NamedCell → Type 0) (cells : Library) (id : ℕ) (cell : NamedCell) → All P cells → slice_get cells id ≡ Some cell → P cell
All-found P cells id cell all e = subst P (get_or_from_slice_get cells id cell cell e) (all id cell (slice_get_within cells id cell e))

-- its planes are at home
pub IsFrozen-found :
    (pool : Pool) (cells : Library) (id : ℕ) (owners : List ℕ) → IsHome pool cells → Some owners ≡ option_map (λ cell. cell.planes) (slice_get cells id)
    → All (IsFrozen pool) owners
IsFrozen-found pool cells id owners home e =
    let found = cell_found cells id owners e in
    subst (All (IsFrozen pool)) found.2 (All-found (IsCellHome pool) cells id found.0 home.each found.1).frozen

-- it shows nothing outside its bounds
pub ShowsWithin-found :
    (pool : Pool) (cells : Library) (id : ℕ) (bounds : Option Rect) → IsHome pool cells → Some bounds ≡ option_map (λ cell. cell.bounds) (slice_get cells id)
    → (cell : NamedCell) × (slice_get cells id ≡ Some cell) × ((plane : ℕ) → ShowsWithin bounds (cell_layout pool cell plane))
ShowsWithin-found pool cells id bounds home e =
    let found = bounds_found cells id bounds e in
    let bounded = (All-found (IsCellHome pool) cells id found.0 home.each found.1).bounded in
    (found.0, found.1, λ plane. subst (λ within. ShowsWithin within (cell_layout pool found.0 plane)) found.2 (bounded plane))

-- they are the smallest round all that its planes show
smallest_in :
    (pool : Pool) (found : Option NamedCell) (owners : List ℕ) (bounds : Option Rect) → ((cell : NamedCell) → found ≡ Some cell → IsCellHome pool cell)
    → Some owners ≡ option_map (λ cell. cell.planes) found → Some bounds ≡ option_map (λ cell. cell.bounds) found
    → bounds ≡ painted_bounds (length owners) (layout_in pool owners)
smallest_in pool None owners bounds home planes is = absurd (cc planes)
smallest_in pool (Some cell) owners bounds home planes is =
    let same : bounds ≡ cell.bounds = cc is in
    let all : cell.planes ≡ owners = cc planes in
    same ∙ (home cell refl).smallest ∙ ap (λ these. painted_bounds (length these) (layout_in pool these)) all

pub smallest_found :
    (pool : Pool) (cells : Library) (id : ℕ) (owners : List ℕ) (bounds : Option Rect) → IsHome pool cells
    → Some owners ≡ option_map (λ cell. cell.planes) (slice_get cells id) → Some bounds ≡ option_map (λ cell. cell.bounds) (slice_get cells id)
    → bounds ≡ painted_bounds (length owners) (layout_in pool owners)
smallest_found pool cells id owners bounds home planes is =
    smallest_in pool (slice_get cells id) owners bounds (λ cell found. All-found (IsCellHome pool) cells id cell home.each found) planes is

-- and a scratch for as many tiles as a cell's plane may have has room for each
pub HasRoomFor-IsFrozen : (pool : Pool) (owner : ℕ) (scratch : Scratch) → IsFrozen pool owner → most_tiles ≤ scratch.room → HasRoomFor pool owner scratch
HasRoomFor-IsFrozen pool owner scratch frozen room = rw frozen.reserve (omega (arith, frozen.few, room))
