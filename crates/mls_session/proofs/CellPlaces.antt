-- A cell of the library that is to be dumped or placed: its layout, where it lies, and the command's step.
use Rattle.std.proofs.Common.{◌≡◌, ℕ, ℤ, ◌≤◌, ◌<◌, ◌∷◌, ◌++◌, [], true, false, Option, Some, Ok, Err, List, length, slice_get, refl, sym, ap, ◌∙◌, option_map}
use Rattle.mls_session.proofs.Common.{CanDump, CellOutside, Design, Designed, Pool, Rect, Refusal, Setup, TooManyUses, cell_at, change_step, checking_of, config_of, design_step, designed_of, dirty_after, dump_step, dumped_in, dumped_layout, dumped_rect, edit_step, get_step, layout_in, layout_leaves_world, most_uses, painted_bounds, placed_bounds}
use Rattle.mls_library.proofs.FoundCells.{smallest_found}
use Rattle.mls_session.specs.declared.command.Command.TheVariants.{Dump, GetCell}
use Rattle.mls_session.specs.declared.reply.Reply.TheVariants.{Done, Refused}
use Rattle.mls_session.proofs.CommandSteps.{edit_step-Refused}
use Rattle.mls_session.proofs.DumpedCells.{HasPlanes, cell_at-HasPlanes, dump_step-CellOutside, dump_step-change_step, planes_there}
use Rattle.mls_session.proofs.PlacedBounds.{placed-Err, placed-Ok}
use Rattle.mls_session.proofs.PlacedCells.{get_step-CellOutside, get_step-TooManyUses, place-Done}

module _ (setup : Setup) (pool : Pool) (owners : List ℕ) (can : CanDump setup pool owners) (id : ℕ) (planes : List ℕ) (there : HasPlanes setup.library id planes) where
  -- it has a plane for each of the technology's
  pub as_many : setup.tech.plane_count ≡ length planes
  as_many = sym (planes_there (λ list. length list ≡ setup.tech.plane_count) setup.library id planes can.planes there)

  pub layout-there : cell_at (config_of setup pool) (Some id) ≡ Some (layout_in pool planes)
  layout-there = cell_at-HasPlanes (config_of setup pool) pool setup.library id planes refl there

  module _ (bounds : Option Rect) (are : Some bounds ≡ option_map (λ cell. cell.bounds) (slice_get setup.library id)) (dx dy : ℤ) where
    smallest : bounds ≡ painted_bounds (length planes) (layout_in pool planes)
    smallest = smallest_found pool setup.library id planes bounds can.home there are

    -- ---- where its bounds stay in the world
    pub stays : (rect : Option Rect) → Ok rect ≡ placed_bounds bounds dx dy → layout_leaves_world (length planes) (layout_in pool planes) dx dy ≡ false
    stays rect placed = (placed-Ok (length planes) (layout_in pool planes) dx dy bounds rect smallest placed).0

    -- it lies where they do
    pub dumped_in-placed : (rect : Option Rect) → Ok rect ≡ placed_bounds bounds dx dy → dumped_in (config_of setup pool) (cell_at (config_of setup pool) (Some id)) dx dy ≡ rect
    dumped_in-placed rect placed =
        ap (λ cell. dumped_in (config_of setup pool) cell dx dy) layout-there
        ∙ ap (λ n. dumped_rect n (layout_in pool planes) dx dy) as_many
        ∙ sym (placed-Ok (length planes) (layout_in pool planes) dx dy bounds rect smallest placed).1

    module _ (own : Designed) where
      pub dump-placed :
          (rect : Option Rect) → Ok rect ≡ placed_bounds bounds dx dy
          → design_step (config_of setup pool) own (Dump (Some id) dx dy)
          ≡ edit_step (config_of setup pool) own rect (change_step (config_of setup pool) own.drawn (dumped_layout own.drawn.paint (layout_in pool planes) dx dy))
      unfolding design_step
      dump-placed rect placed =
          let step = dump_step (config_of setup pool) own.drawn (cell_at (config_of setup pool) (Some id)) dx dy in
          ap (λ e. edit_step (config_of setup pool) own e step) (dumped_in-placed rect placed)
          ∙ ap (edit_step (config_of setup pool) own rect)
          (dump_step-change_step (config_of setup pool) own.drawn (Some id) (layout_in pool planes) dx dy (length planes) layout-there as_many (stays rect placed))

      get-placed :
          (rect : Option Rect) → Ok rect ≡ placed_bounds bounds dx dy
          → design_step (config_of setup pool) own (GetCell (Some id) dx dy) ≡ edit_step (config_of setup pool) own rect (get_step (config_of setup pool) own.drawn (Some id) dx dy)
      unfolding design_step
      get-placed rect placed =
          ap (λ e. edit_step (config_of setup pool) own e (get_step (config_of setup pool) own.drawn (Some id) dx dy)) (dumped_in-placed rect placed)

      -- and is not placed beside as many uses as there may be
      pub get-TooManyUses :
          (rect : Option Rect) → Ok rect ≡ placed_bounds bounds dx dy → most_uses ≤ length own.drawn.uses
          → design_step (config_of setup pool) own (GetCell (Some id) dx dy) ≡ (own, Refused TooManyUses)
      unfolding design_step
      get-TooManyUses rect placed many =
          edit_step-Refused (config_of setup pool) own (dumped_in (config_of setup pool) (cell_at (config_of setup pool) (Some id)) dx dy)
          (get_step (config_of setup pool) own.drawn (Some id) dx dy) TooManyUses
          (get_step-TooManyUses (config_of setup pool) own.drawn id (layout_in pool planes) dx dy (length planes) layout-there as_many (stays rect placed) many)

      -- ---- where they leave it
      module _ (refusal : Refusal) (outside : Err refusal ≡ placed_bounds bounds dx dy) where
        lost : (refusal ≡ CellOutside) × (layout_leaves_world (length planes) (layout_in pool planes) dx dy ≡ true)
        lost = placed-Err (length planes) (layout_in pool planes) dx dy bounds refusal smallest outside

        pub dump-refused : design_step (config_of setup pool) own (Dump (Some id) dx dy) ≡ (own, Refused refusal)
        unfolding design_step
        dump-refused =
            edit_step-Refused (config_of setup pool) own (dumped_in (config_of setup pool) (cell_at (config_of setup pool) (Some id)) dx dy)
            (dump_step (config_of setup pool) own.drawn (cell_at (config_of setup pool) (Some id)) dx dy) refusal
            (dump_step-CellOutside (config_of setup pool) own.drawn (Some id) (layout_in pool planes) dx dy (length planes) layout-there as_many lost.1
            ∙ ap (λ r. (own.drawn, Refused r)) (sym lost.0))

        pub get-refused : design_step (config_of setup pool) own (GetCell (Some id) dx dy) ≡ (own, Refused refusal)
        unfolding design_step
        get-refused =
            edit_step-Refused (config_of setup pool) own (dumped_in (config_of setup pool) (cell_at (config_of setup pool) (Some id)) dx dy)
            (get_step (config_of setup pool) own.drawn (Some id) dx dy) refusal
            (get_step-CellOutside (config_of setup pool) own.drawn id (layout_in pool planes) dx dy (length planes) layout-there as_many lost.1
            ∙ ap (λ r. (own.drawn, Refused r)) (sym lost.0))

    -- with room for its use, it is placed
    pub get-Done :
        (design after : Design) (rect : Option Rect) → Ok rect ≡ placed_bounds bounds dx dy → length design.uses < most_uses → after.box ≡ design.box
        → after.planes ≡ design.planes → after.uses ≡ design.uses ++ record { cell = id; dx = dx; dy = dy } ∷ []
        → checking_of pool after.errors ≡ dirty_after setup.rules rect Done (checking_of pool design.errors)
        → design_step (config_of setup pool) (designed_of pool design) (GetCell (Some id) dx dy) ≡ (designed_of pool after, Done)
    get-Done design after rect placed few box same uses dirtied =
        get-placed (designed_of pool design) rect placed
        ∙ place-Done (config_of setup pool) pool design after rect id (layout_in pool planes) dx dy (length planes) layout-there as_many (stays rect placed) few box same uses dirtied
