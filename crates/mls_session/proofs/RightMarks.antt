-- Marks that are right outside the areas that await checking stay so, whatever a command does.
use Rattle.std.proofs.Common.{◌≡◌, ℕ, ℤ, ◌≤◌, false, ◌⊎◌, inl, inr, Option, Some, None, List, All, get_or, slice_get, refl, sym, ap, ◌∙◌, subst, option_and_then}
use Rattle.std.proofs.Math.Path.{fun_ext}
use Rattle.std.proofs.lemmas.List.Elements.{All-map}
use Rattle.std.proofs.lemmas.Option.{get_or_from_slice_get, slice_get_within}
use Rattle.mls_session.proofs.Common.{AgreeOutside, CellUse, Checking, Command, Config, DesignRunsOut, DesignSteps, Designed, Drawn, EdgeRule, Finding, HasFinished, HasRightMarks, HasStepped, IsChecked, Layout, Outcome, Pool, Rect, Reply, Stepped, area_of, catch_up_step, cell_at, cell_layouts, checked, count_step, design_step, dirty_after, dumped_in, dumped_layout, dumped_rect, edit_step, empty_picture, erased_layout, flattened, holds, layout_leaves_world, layout_of, moved_picture, rect_of, save_step, why_step, world}
use Rattle.mls_library.specs.Libraries.{HavePlanes, IsHome as AreCellsHome, Library, cell_layout}
use Rattle.mls_errorplane.specs.declared.error_plane.Outcome.TheVariants as outcome
use Rattle.mls_errorplane.specs.declared.error_plane.Stepped.TheVariants as stepped
use Rattle.mls_errorplane.proofs.CheckedSquares.{edit-IsChecked, step-IsChecked}
use Rattle.mls_layout.proofs.PlacedUses.{flattened-agrees, flattened-placed, use_layout-moved}
use Rattle.mls_session.specs.declared.command.Command.TheVariants.{Box, Paint, Erase, Dump, GetCell, What, Save, Check, CatchUp, Why, Count}
use Rattle.mls_session.specs.declared.reply.Reply.TheVariants.{Done}
use Rattle.mls_session.proofs.CheckedDesigns.{caught_up-keeps, checked_some, checked_times-keeps}
use Rattle.mls_session.proofs.DrawnSteps.{HoldsOfChanges, box_holds, check_holds, dump_holds, erase_holds, get_holds, paint_holds, paint_with, what_holds, with_use}
use Rattle.mls_session.proofs.DumpedRects.{layout_in-beyond, layout_in-outside}
use Rattle.mls_session.proofs.EditedSquares.{AgreeOutside-dumped, AgreeOutside-erased, AgreeOutside-painted, dumped-None, moved-None, moved_picture-outside}

-- ---- edits
-- a step leaves the layout, or it is accepted and changes squares of its rectangle alone
abbrev IsEdit : Config → Drawn → Option Rect → Drawn × Reply → Type 0
IsEdit config drawn rect step =
    (layout_of config step.0 ≡ layout_of config drawn)
    ⊎ ((e : Rect) × (rect ≡ Some e) × (step.1 ≡ Done) × AgreeOutside e (layout_of config drawn) (layout_of config step.0))

kept : (rules : List EdgeRule) (layout : Layout) (checking : Checking) (rect : Option Rect) (reply : Reply) → IsChecked rules layout checking
    → IsChecked rules layout (dirty_after rules rect reply checking)
kept rules layout checking None reply right = right
kept rules layout checking (Some e) Done right = edit-IsChecked rules e layout layout checking (λ plane x y out. refl) right
kept rules layout checking (Some e) reply right = right

edited : (rules : List EdgeRule) (old new : Layout) (checking : Checking) (rect : Option Rect) (reply : Reply) (e : Rect) → rect ≡ Some e → reply ≡ Done
    → AgreeOutside e old new → IsChecked rules old checking → IsChecked rules new (dirty_after rules rect reply checking)
edited rules old new checking rect reply e is done agree right =
    subst (λ (r : Option Rect). IsChecked rules new (dirty_after rules r reply checking)) (sym is)
    (subst (λ (r : Reply). IsChecked rules new (dirty_after rules (Some e) r checking)) (sym done) (edit-IsChecked rules e old new checking agree right))

after_edit :
    (config : Config) (old new : Designed) (rect : Option Rect) (step : Drawn × Reply) (reply : Reply) → IsEdit config old.drawn rect step
    → edit_step config old rect step ≡ (new, reply) → HasRightMarks config old → HasRightMarks config new
after_edit config old new rect step reply (inl same) is right =
    subst (HasRightMarks config) (ap (λ (r : Designed × Reply). r.0) is)
    (subst (λ (layout : Layout). IsChecked config.rules layout (dirty_after config.rules rect step.1 old.checking)) (sym same)
    (kept config.rules (layout_of config old.drawn) old.checking rect step.1 right))
after_edit config old new rect step reply (inr (e, at, done, agree)) is right =
    subst (HasRightMarks config) (ap (λ (r : Designed × Reply). r.0) is)
    (edited config.rules (layout_of config old.drawn) (layout_of config step.0) old.checking rect step.1 e at done agree right)

-- an edit of the own paint shows squares of the same rectangle alone
own_edit :
    (config : Config) (drawn : Drawn) (e : Rect) (paint : Layout) → AgreeOutside e drawn.paint paint
    → IsEdit config drawn (Some e) (record drawn { paint = paint }, Done)
own_edit config drawn e paint agree =
    inr (e, refl, refl, λ plane x y out. flattened-agrees config.cells drawn.uses drawn.paint paint plane x y (agree plane x y out))

-- a cell's layout is space past its planes and outside the world
pub record IsCellLayout (planes : ℕ) (cell : Layout) : Type 0 where
  pub beyond : (plane : ℕ) → planes ≤ plane → cell plane ≡ empty_picture
  pub outside : (plane x y : ℕ) → holds world x y ≡ false → cell plane x y ≡ 0

-- a dump of one that stays in the world changes squares of its rectangle alone
dump_edit_in :
    (config : Config) (drawn : Drawn) (cell : Layout) (dx dy : ℤ) (rect : Option Rect) → IsCellLayout config.tech.plane_count cell
    → layout_leaves_world config.tech.plane_count cell dx dy ≡ false → dumped_rect config.tech.plane_count cell dx dy ≡ rect
    → IsEdit config drawn rect (record drawn { paint = dumped_layout drawn.paint cell dx dy }, Done)
dump_edit_in config drawn cell dx dy None is stays at =
    inl (ap (flattened config.cells drawn.uses) (dumped-None config.tech.plane_count cell dx dy is.beyond is.outside drawn.paint stays at))
dump_edit_in config drawn cell dx dy (Some e) is stays at =
    own_edit config drawn e (dumped_layout drawn.paint cell dx dy)
    (AgreeOutside-dumped config.tech.plane_count cell dx dy is.beyond is.outside drawn.paint e at)

-- a cell that is placed shows squares of the same rectangle alone
module _ (config : Config) (drawn : Drawn) (id : ℕ) (cell : Layout) (dx dy : ℤ) (there : slice_get config.cells id ≡ Some cell) (is : IsCellLayout config.tech.plane_count cell) where
  same_square : (plane x y : ℕ) → moved_picture (cell plane) dx dy x y ≡ 0 → layout_of config drawn plane x y ≡ layout_of config (with_use drawn id dx dy) plane x y
  same_square plane x y space =
      let placed : CellUse = record { cell = id; dx = dx; dy = dy } in
      flattened-placed config.cells drawn.uses placed drawn.paint plane x y (use_layout-moved config.cells placed cell plane x y there space)

  place_edit_in :
      (rect : Option Rect) → layout_leaves_world config.tech.plane_count cell dx dy ≡ false → dumped_rect config.tech.plane_count cell dx dy ≡ rect
      → IsEdit config drawn rect (with_use drawn id dx dy, Done)
  place_edit_in None stays at =
      inl (sym (fun_ext (λ plane. fun_ext (λ x. fun_ext (λ y. same_square plane x y (moved-None config.tech.plane_count cell dx dy is.beyond is.outside stays at plane x y))))))
  place_edit_in (Some e) stays at =
      inr (e, refl, refl, λ plane x y out. same_square plane x y (moved_picture-outside config.tech.plane_count cell dx dy is.beyond is.outside e at plane x y out))

-- so does each step
module _ (config : Config) (cells : (cell : Option ℕ) (layout : Layout) → cell_at config cell ≡ Some layout → IsCellLayout config.tech.plane_count layout) (drawn : Drawn) where
  edits : HoldsOfChanges config drawn (IsEdit config drawn)
  edits = record {
    refused = λ rect refusal memory full. inl refl;
    looked = λ kinds. inl refl;
    asked = λ e. inl refl;
    boxed = λ e. inl refl;
    paints = λ e kind plane on. own_edit config drawn e (paint_with drawn e kind plane) (AgreeOutside-painted drawn.paint plane e kind);
    erases = λ e kinds. own_edit config drawn e (erased_layout drawn.paint e kinds) (AgreeOutside-erased drawn.paint e kinds);
    dumps = λ id cell dx dy at stays. dump_edit_in config drawn cell dx dy (dumped_rect config.tech.plane_count cell dx dy) (cells id cell at) stays refl;
    places = λ id cell dx dy at stays. place_edit_in config drawn id cell dx dy at (cells (Some id) cell at) (dumped_rect config.tech.plane_count cell dx dy) stays refl;
  }

-- ---- check steps
pub HasStepped-IsChecked :
    (rules : List EdgeRule) (layout : Layout) (limit : ℕ) (old new : Checking) (ended : Stepped) → HasStepped rules layout limit old ended new
    → IsChecked rules layout old → IsChecked rules layout new
HasStepped-IsChecked rules layout limit old new stepped.Idle (none, same) right = subst (IsChecked rules layout) (sym same) right
HasStepped-IsChecked rules layout limit old new stepped.Done (some, fits, is) right = subst (IsChecked rules layout) (sym is) (step-IsChecked rules layout old right)
HasStepped-IsChecked rules layout limit old new stepped.Full (some, full, same) right = subst (IsChecked rules layout) (sym same) right
HasStepped-IsChecked rules layout limit old new stepped.Memory (some, same) right = subst (IsChecked rules layout) (sym same) right

pub HasFinished-IsChecked :
    (rules : List EdgeRule) (planes : ℕ) (layout : Layout) (limit : ℕ) (old new : Checking) (finding : Finding) (ended : Outcome)
    → HasFinished rules planes layout limit old finding ended new → IsChecked rules layout old → IsChecked rules layout new
HasFinished-IsChecked rules planes layout limit old new finding outcome.Finished (fresh, fits, is) right =
    subst (IsChecked rules layout) (sym is) (step-IsChecked rules layout old right)
HasFinished-IsChecked rules planes layout limit old new finding outcome.Stale (stale, same) right = subst (IsChecked rules layout) (sym same) right
HasFinished-IsChecked rules planes layout limit old new finding outcome.Full (fresh, full, same) right = subst (IsChecked rules layout) (sym same) right

-- so does a check step of the design that is accepted
checked-right : (config : Config) (old new : Designed) → checked config old ≡ Some new → HasRightMarks config old → HasRightMarks config new
checked-right config old new is right =
    let (some, fits, same) = checked_some config old new is in
    subst (HasRightMarks config) (sym same) (step-IsChecked config.rules (layout_of config old.drawn) old.checking right)

-- ---- commands that only look
unchanged :
    (config : Config) (old new : Designed) (reply : Reply) (step : Designed × Reply) → step.0 ≡ old → step ≡ (new, reply)
    → HasRightMarks config old → HasRightMarks config new
unchanged config old new reply step same is right = subst (HasRightMarks config) (sym same ∙ ap (λ (r : Designed × Reply). r.0) is) right

why_keeps : (config : Config) (old : Designed) (box : Option Rect) → (why_step config old box).0 ≡ old
why_keeps config old None = refl
why_keeps config old (Some e) = refl

-- ---- all commands
module _ (config : Config) (old new : Designed) (reply : Reply) where
  after_catching_up : catch_up_step config old ≡ (new, reply) → HasRightMarks config old → HasRightMarks config new
  after_catching_up is right =
      subst (HasRightMarks config) (ap (λ (r : Designed × Reply). r.0) is) (caught_up-keeps config (HasRightMarks config) (checked-right config) (area_of old.checking.dirty) old right)

  after_step :
      (command : Command) → ((cell : Option ℕ) (layout : Layout) → cell_at config cell ≡ Some layout → IsCellLayout config.tech.plane_count layout)
      → design_step config old command ≡ (new, reply) → HasRightMarks config old → HasRightMarks config new
  unfolding design_step
  after_step (Box left bottom right top) cells step =
      after_edit config old new None _ reply (box_holds config old.drawn (IsEdit config old.drawn) (edits config cells old.drawn) (rect_of left bottom right top)) step
  after_step (Paint kind) cells step = after_edit config old new old.drawn.box _ reply (paint_holds config old.drawn (IsEdit config old.drawn) (edits config cells old.drawn) old.drawn.box kind) step
  after_step (Erase kinds) cells step = after_edit config old new old.drawn.box _ reply (erase_holds config old.drawn (IsEdit config old.drawn) (edits config cells old.drawn) old.drawn.box kinds) step
  after_step (Dump cell dx dy) cells step =
      after_edit config old new (dumped_in config (cell_at config cell) dx dy) _ reply (dump_holds config old.drawn (IsEdit config old.drawn) (edits config cells old.drawn) cell dx dy) step
  after_step (GetCell cell dx dy) cells step =
      after_edit config old new (dumped_in config (cell_at config cell) dx dy) _ reply (get_holds config old.drawn (IsEdit config old.drawn) (edits config cells old.drawn) cell dx dy) step
  after_step What cells step = after_edit config old new None _ reply (what_holds config old.drawn (IsEdit config old.drawn) (edits config cells old.drawn) old.drawn.box) step
  after_step Save cells step = unchanged config old new reply (save_step config old) refl step
  after_step Check cells step = after_edit config old new old.drawn.box _ reply (check_holds config old.drawn (IsEdit config old.drawn) (edits config cells old.drawn) old.drawn.box) step
  after_step CatchUp cells step = after_catching_up step
  after_step Why cells step = unchanged config old new reply (why_step config old old.drawn.box) (why_keeps config old old.drawn.box) step
  after_step Count cells step = unchanged config old new reply (count_step old) refl step

  -- where memory runs out
  after_running_out : (command : Command) → DesignRunsOut config old command reply new → HasRightMarks config old → HasRightMarks config new
  after_running_out CatchUp (count, done, left, stopped) right = checked_times-keeps config (HasRightMarks config) (checked-right config) count old new done right
  after_running_out Why (boxed, refused, same) right = subst (HasRightMarks config) (sym same) right
  after_running_out What (boxed, placed, refused, same) right = subst (HasRightMarks config) (sym same) right
  after_running_out _ out right = absurd out

  pub HasRightMarks-DesignSteps :
      (command : Command) → ((cell : Option ℕ) (layout : Layout) → cell_at config cell ≡ Some layout → IsCellLayout config.tech.plane_count layout)
      → DesignSteps config old command reply new → HasRightMarks config old → HasRightMarks config new
  HasRightMarks-DesignSteps command cells (inl taken) right = after_step command cells taken right
  HasRightMarks-DesignSteps command cells (inr out) right = after_running_out command out right

-- ---- the cells of a library
at_number : (P : Layout → Type 0) (cells : List Layout) (cell : Option ℕ) (layout : Layout) → All P cells → option_and_then (slice_get cells) cell ≡ Some layout → P layout
at_number P cells None layout all is = absurd (cc is)
at_number P cells (Some id) layout all is = subst P (get_or_from_slice_get cells id layout layout is) (all id layout (slice_get_within cells id layout is))

pub IsCellLayout-at :
    (pool : Pool) (cells : Library) (planes : ℕ) (cell : Option ℕ) (layout : Layout) → AreCellsHome pool cells → HavePlanes planes cells
    → option_and_then (slice_get (cell_layouts pool cells)) cell ≡ Some layout → IsCellLayout planes layout
IsCellLayout-at pool cells planes cell layout home count is =
    at_number (IsCellLayout planes) (cell_layouts pool cells) cell layout (All-map (IsCellLayout planes) (cell_layout pool) cells each) is
  where
    each : All (λ c. IsCellLayout planes (cell_layout pool c)) cells
    each k d within =
        let owners = (get_or cells k d).planes in
        record {
          beyond = λ plane over. layout_in-beyond pool owners plane (subst (λ n. n ≤ plane) (sym (count k d within)) over);
          outside = layout_in-outside pool owners (λ i e inside. ((home.each k d within).frozen i e inside).strips);
        }
