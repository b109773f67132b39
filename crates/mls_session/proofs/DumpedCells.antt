-- The cell of a number, and the step of a dump.
use Rattle.std.proofs.Common.{◌≡◌, Bool, true, false, ℕ, ℤ, Option, Some, None, List, All, length, get_or, slice_get, refl, sym, ap, ◌∙◌, subst, option_map}
use Rattle.std.specs.List.{list_any, range_with_len}
use Rattle.std.proofs.lemmas.Bool.{both_ways, false_from_ne_true}
use Rattle.std.proofs.lemmas.List.{get_or_default}
use Rattle.std.proofs.lemmas.Option.{get_or_from_slice_get, slice_get-map, slice_get_within}
use Rattle.mls_session.proofs.Common.{CellOutside, Config, Drawn, Layout, Library, NamedCell, Pool, cell_at, cell_layout, cell_layouts, change_step, dump_step, dumped_layout, layout_in, layout_leaves_world, leaves_world, picture_in}
use Rattle.mls_paint.proofs.OwnerFrames.{layout_in-at}
use Rattle.mls_session.specs.declared.reply.Reply.TheVariants.{Refused}
use Rattle.mls_library.proofs.FirstPlanes.{any_at}

-- the cell of this number has these planes
abbrev pub HasPlanes : Library → ℕ → List ℕ → Type 0
HasPlanes cells id planes = Some planes ≡ option_map (λ cell. cell.planes) (slice_get cells id)

cell_there : (planes : List ℕ) (at : Option NamedCell) → Some planes ≡ option_map (λ cell. cell.planes) at → (cell : NamedCell) × (at ≡ Some cell) × (planes ≡ cell.planes)
cell_there planes None h = absurd (cc h)
cell_there planes (Some cell) h = (cell, refl, cc h)

-- what holds of the planes of each cell holds of these
pub planes_there : (P : List ℕ → Type 0) (cells : Library) (id : ℕ) (planes : List ℕ) → All (λ cell. P cell.planes) cells → HasPlanes cells id planes → P planes
planes_there P cells id planes each has =
    let (cell, there, same) = cell_there planes (slice_get cells id) has in
    let found = ap (λ (c : NamedCell). c.planes) (get_or_from_slice_get cells id cell cell there) in
    subst P (found ∙ sym same) (each id cell (slice_get_within cells id cell there))

-- and they show the cell's layout
pub cell_at-HasPlanes :
    (config : Config) (pool : Pool) (cells : Library) (id : ℕ) (planes : List ℕ) → config.cells ≡ cell_layouts pool cells → HasPlanes cells id planes
    → cell_at config (Some id) ≡ Some (layout_in pool planes)
cell_at-HasPlanes config pool cells id planes same has =
    let (cell, there, is) = cell_there planes (slice_get cells id) has in
    ap (λ layouts. slice_get layouts id) same ∙ slice_get-map (cell_layout pool) cells id ∙ ap (option_map (cell_layout pool)) there
    ∙ ap (λ owners. Some (layout_in pool owners)) (sym is)

-- where no plane of the cell leaves the world, each stays
pub each_stays :
    (pool : Pool) (planes : List ℕ) (dx dy : ℤ) → layout_leaves_world (length planes) (layout_in pool planes) dx dy ≡ false
    → All (λ owner. leaves_world (picture_in pool owner) dx dy ≡ false) planes
each_stays pool planes dx dy none k d within =
    let owner = get_or planes k d in
    let is : owner ≡ get_or planes k owner = get_or_default planes k d owner within in
    let test : ℕ → Bool = λ plane. leaves_world (layout_in pool planes plane) dx dy in
    ap (λ picture. leaves_world picture dx dy) (sym (layout_in-at pool planes k owner within is))
    ∙ false_from_ne_true (test k) (λ leaves. both_ways (list_any test (range_with_len 0 (length planes))) none (any_at test (length planes) k within leaves))

-- ---- the step
module _ (config : Config) (own : Drawn) (cell : Option ℕ) (layout : Layout) (dx dy : ℤ) (planes : ℕ) (found : cell_at config cell ≡ Some layout) (count : config.tech.plane_count ≡ planes) where
  pub dump_step-CellOutside : layout_leaves_world planes layout dx dy ≡ true → dump_step config own (cell_at config cell) dx dy ≡ (own, Refused CellOutside)
  dump_step-CellOutside leaves = rw (found, count, leaves) refl

  pub dump_step-change_step : layout_leaves_world planes layout dx dy ≡ false → dump_step config own (cell_at config cell) dx dy ≡ change_step config own (dumped_layout own.paint layout dx dy)
  dump_step-change_step stays = rw (found, count, stays) refl
