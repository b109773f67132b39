-- Own paint shows types on their own planes alone, whatever was said, where the cells do; and so does the layout.
use Rattle.std.proofs.Common.{◌≡◌, ◌≢◌, ℕ, zero, suc, ◌+◌, ℤ, pos, negsuc, ◌-ℤ◌, ◌==◌, ◌&&◌, Bool, true, false, cond, if◌then◌else◌, Option, Some, None, List, [], ◌∷◌, All, slice_get, refl, sym, ap, ◌∙◌, subst, eqb-true, option_and_then, option_map, unwrap_or, eq-eqb}
use Rattle.std.proofs.lemmas.Bool.{cond-false, cond-true}
use Rattle.std.proofs.lemmas.List.Elements.{All-map}
use Rattle.std.proofs.lemmas.Option.{get_or_from_slice_get, same_Some, slice_get_within}
use Rattle.mls_session.proofs.Common.{CellUse, Command, Config, Designed, Drawn, Entry, HasStrips, HaveOwnCells, HoldsOwnTypes, IsLegal, JournalFull, Kept, Layout, OwnState, Picture, Pool, Rect, Reply, Run, Setup, ShowOwnTypes, ShowsOwnTypes, Tech, Terms, area_of, cell_at, cell_layout, cell_shown, checked, checks, design_step, dumped_layout, empty_picture, erased_layout, flattened, holds, kind_or_space, layout_in, layout_of, moved_picture, over, own_check, own_step, painted, plane_of_type, rect_of, run_from, said_next, terms_of, use_layout, uses_layout, why_step, with_plane, world}
use Rattle.mls_kinds.specs.KindSets.{has_bit as has_type}
use Rattle.mls_session.specs.declared.command.Command.TheVariants.{Box, Paint, Erase, Dump, GetCell, What, Save, Check, CatchUp, Why, Count}
use Rattle.mls_session.specs.declared.reply.Reply.TheVariants.{Refused}
use Rattle.mls_session.proofs.CheckedDesigns.{caught_up-keeps, checked_some}
use Rattle.mls_session.proofs.DrawnSteps.{HoldsOfChanges, box_holds, check_holds, dump_holds, erase_holds, get_holds, paint_holds, what_holds}
use Rattle.mls_session.proofs.DumpedRects.{layout_in-outside}
use Rattle.mls_session.proofs.JournalRuns.{Leads-from}

over_space : (upper lower : Picture) (x y : ℕ) → upper x y ≡ 0 → lower x y ≡ 0 → over upper lower x y ≡ 0
over_space upper lower x y none space = cond-true (upper x y == 0) (lower x y) (upper x y) (eq-eqb (upper x y) 0 none) ∙ space

module _ (config : Config) where
  abbrev IsOwn : Layout → Type 0
  IsOwn layout = ShowsOwnTypes config.tech layout

  -- the kind may stand on this plane
  abbrev Own : ℕ → ℕ → Type 0
  Own plane kind = kind ≢ 0 → plane_of_type config.tech.type_planes kind ≡ Some plane

  own_either : (test : Bool) (plane : ℕ) (one other : ℕ) → Own plane one → Own plane other → Own plane (cond test one other)
  own_either true plane one other a b = a
  own_either false plane one other a b = b

  own_space : (plane : ℕ) → Own plane 0
  own_space plane solid = absurd (solid refl)

  -- ---- what edits make
  own_painted : (layout : Layout) (e : Rect) (kind plane : ℕ) → plane_of_type config.tech.type_planes kind ≡ Some plane → IsOwn layout
      → IsOwn (with_plane layout plane (painted (layout plane) (record { rect = e; kind = kind })))
  own_painted layout e kind plane on own p x y = by (p == plane) refl
    where
      by : (same : Bool) → (p == plane) ≡ same → Own p ((if same then painted (layout plane) (record { rect = e; kind = kind }) else layout p) x y)
      by true same =
          subst (λ q. Own q (cond (holds e x y) kind (layout plane x y))) (sym (eqb-true p plane same))
          (own_either (holds e x y) plane kind (layout plane x y) (λ solid. on) (own plane x y))
      by false same = own p x y

  own_erased : (layout : Layout) (e : Rect) (kinds : ℕ) → IsOwn layout → IsOwn (erased_layout layout e kinds)
  own_erased layout e kinds own plane x y =
      own_either (holds e x y && has_type kinds (layout plane x y)) plane 0 (layout plane x y) (own_space plane) (own plane x y)

  own_moved : (cell : Layout) (dx dy : ℤ) → IsOwn cell → (plane x y : ℕ) → Own plane (moved_picture (cell plane) dx dy x y)
  unfolding moved_picture
  own_moved cell dx dy own plane x y = at (pos x -ℤ dx) (pos y -ℤ dy)
    where
      at : (zx zy : ℤ) → Own plane (kind_or_space (cell plane) zx zy)
      at (pos a) (pos b) = own plane a b
      at (pos a) (negsuc b) = own_space plane
      at (negsuc a) zy = own_space plane

  own_dumped : (layout cell : Layout) (dx dy : ℤ) → IsOwn layout → IsOwn cell → IsOwn (dumped_layout layout cell dx dy)
  own_dumped layout cell dx dy own others plane x y =
      own_either (moved_picture (cell plane) dx dy x y == 0) plane (layout plane x y) (moved_picture (cell plane) dx dy x y) (own plane x y)
      (own_moved cell dx dy others plane x y)

  -- ---- check steps draw nothing
  checked_own : (old new : Designed) → checked config old ≡ Some new → IsOwn old.drawn.paint → IsOwn new.drawn.paint
  checked_own old new is own = let (some, fits, same) = checked_some config old new is in subst (λ (d : Designed). IsOwn d.drawn.paint) (sym same) own

  why_own : (old : Designed) (box : Option Rect) → IsOwn old.drawn.paint → IsOwn (why_step config old box).0.drawn.paint
  why_own old None own = own
  why_own old (Some e) own = own

  -- ---- with cells of such types
  module _ (cells : All IsOwn config.cells) where
    cell_own : (cell : Option ℕ) (layout : Layout) → cell_at config cell ≡ Some layout → IsOwn layout
    cell_own None layout is = absurd (cc is)
    cell_own (Some id) layout is = subst IsOwn (get_or_from_slice_get config.cells id layout layout is) (cells id layout (slice_get_within config.cells id layout is))

    abbrev DrawsOwn : Option Rect → Drawn × Reply → Type 0
    DrawsOwn rect step = IsOwn step.0.paint

    draws_own : (drawn : Drawn) → IsOwn drawn.paint → HoldsOfChanges config drawn DrawsOwn
    draws_own drawn own = record {
      refused = λ rect refusal memory full. own;
      looked = λ kinds. own;
      asked = λ e. own;
      boxed = λ e. own;
      paints = λ e kind plane on. own_painted drawn.paint e kind plane on own;
      erases = λ e kinds. own_erased drawn.paint e kinds own;
      dumps = λ id cell dx dy at stays. own_dumped drawn.paint cell dx dy own (cell_own id cell at);
      places = λ id cell dx dy at stays. own;
    }

    step_own : (old : Designed) (command : Command) → IsOwn old.drawn.paint → IsOwn (design_step config old command).0.drawn.paint
    unfolding design_step
    step_own old (Box left bottom right top) own = box_holds config old.drawn DrawsOwn (draws_own old.drawn own) (rect_of left bottom right top)
    step_own old (Paint kind) own = paint_holds config old.drawn DrawsOwn (draws_own old.drawn own) old.drawn.box kind
    step_own old (Erase kinds) own = erase_holds config old.drawn DrawsOwn (draws_own old.drawn own) old.drawn.box kinds
    step_own old (Dump cell dx dy) own = dump_holds config old.drawn DrawsOwn (draws_own old.drawn own) cell dx dy
    step_own old (GetCell cell dx dy) own = get_holds config old.drawn DrawsOwn (draws_own old.drawn own) cell dx dy
    step_own old What own = what_holds config old.drawn DrawsOwn (draws_own old.drawn own) old.drawn.box
    step_own old Save own = own
    step_own old Check own = check_holds config old.drawn DrawsOwn (draws_own old.drawn own) old.drawn.box
    step_own old CatchUp own = caught_up-keeps config (λ d. IsOwn d.drawn.paint) checked_own (area_of old.checking.dirty) old own
    step_own old Why own = why_own old old.drawn.box own
    step_own old Count own = own

    -- ---- what uses show
    use_own : (cell_use : CellUse) → IsOwn (use_layout config.cells cell_use)
    use_own cell_use plane x y =
        own_either (holds world x y) plane (moved_picture (cell_shown config.cells cell_use.cell plane) cell_use.dx cell_use.dy x y) 0
        (own_moved (cell_shown config.cells cell_use.cell) cell_use.dx cell_use.dy (shown (slice_get config.cells cell_use.cell) refl) plane x y) (own_space plane)
      where
        shown : (found : Option Layout) → slice_get config.cells cell_use.cell ≡ found → IsOwn (unwrap_or found (λ plane. empty_picture))
        shown None at = λ plane x y. own_space plane
        shown (Some cell) at = cell_own (Some cell_use.cell) cell at

    uses_own : (uses : List CellUse) → IsOwn (uses_layout config.cells uses)
    uses_own [] plane x y = own_space plane
    uses_own (first ∷ later) plane x y =
        own_either (uses_layout config.cells later plane x y == 0) plane (use_layout config.cells first plane x y) (uses_layout config.cells later plane x y)
        (use_own first plane x y) (uses_own later plane x y)

    pub layout_own : (drawn : Drawn) → IsOwn drawn.paint → IsOwn (layout_of config drawn)
    unfolding flattened
    layout_own drawn own plane x y =
        own_either (drawn.paint plane x y == 0) plane (uses_layout config.cells drawn.uses plane x y) (drawn.paint plane x y) (uses_own drawn.uses plane x y) (own plane x y)

-- ---- journals
module _ (terms : Terms) (cells : HaveOwnCells terms) where
  abbrev HasOwn : OwnState → Type 0
  HasOwn own = ShowsOwnTypes terms.config.tech own.design.drawn.paint

  said_either : (test : Bool) (one other : OwnState × Reply) → HasOwn one.0 → HasOwn other.0 → HasOwn (cond test one other).0
  said_either true one other a b = a
  said_either false one other a b = b

  said_own : (own : OwnState) (command : Command) → HasOwn own → HasOwn (own_step terms own command).0
  unfolding own_step
  said_own own command has =
      let step = design_step terms.config own.design command in
      said_either (own.entries == terms.journal) (own, Refused JournalFull) (record { design = step.0; entries = own.entries + 1 }, step.1) has
      (step_own terms.config cells own.design command has)

  checked_next : (old new : OwnState) (next : Option Designed) → checked terms.config old.design ≡ next
      → option_map (λ design. record old { design = design }) next ≡ Some new → HasOwn old → HasOwn new
  checked_next old new None at is has = absurd cc
  checked_next old new (Some design) at is has =
      subst HasOwn (same_Some (record old { design = design }) new is) (checked_own terms.config old.design design at has)

  check_keeps_own : (old new : OwnState) → own_check terms old ≡ Some new → HasOwn old → HasOwn new
  unfolding own_check
  check_keeps_own old new is has = checked_next old new (checked terms.config old.design) refl is has

  checks_next : (count : ℕ) (old new : OwnState) (next : Option OwnState) → own_check terms old ≡ next
      → ((mid : OwnState) → checks terms count mid ≡ Some new → HasOwn mid → HasOwn new)
      → option_and_then (checks terms count) next ≡ Some new → HasOwn old → HasOwn new
  checks_next count old new None at more is has = absurd cc
  checks_next count old new (Some mid) at more is has = more mid is (check_keeps_own old mid at has)

  checks_own : (count : ℕ) (old new : OwnState) → checks terms count old ≡ Some new → HasOwn old → HasOwn new
  checks_own zero old new is has = subst HasOwn (same_Some old new is) has
  checks_own (suc count) old new is has = checks_next count old new (own_check terms old) refl (λ mid. checks_own count mid new) is has

  run_next : (from to : Run) (entry : Entry) (rest : List Entry) (next : Option OwnState) → checks terms entry.checks_before from.own ≡ next
      → ((run : Run) → run_from terms run rest ≡ Some to → HasOwn run.own → HasOwn to.own)
      → option_and_then (λ own. run_from terms (said_next terms from own entry.said.command) rest) next ≡ Some to → HasOwn from.own → HasOwn to.own
  run_next from to entry rest None at more is has = absurd cc
  run_next from to entry rest (Some own) at more is has =
      more (said_next terms from own entry.said.command) is (said_own own entry.said.command (checks_own entry.checks_before from.own own at has))

  run_own : (from to : Run) (journal : List Entry) → run_from terms from journal ≡ Some to → HasOwn from.own → HasOwn to.own
  run_own from to [] is has = subst (λ (run : Run). HasOwn run.own) (same_Some from to is) has
  run_own from to (entry ∷ rest) is has =
      run_next from to entry rest (checks terms entry.checks_before from.own) refl (λ run. run_own run to rest) is has

  -- so does the own paint of a session with a legal journal
  pub legal_own : (kept : Kept) → IsLegal terms kept → HasOwn kept.own
  legal_own kept legal =
      let leads = Leads-from terms kept.journal kept.checks kept.own _ legal.leads in
      checks_own kept.checks leads.run.own kept.own leads.steps (run_own _ leads.run kept.journal leads.ran (λ plane x y. own_space terms.config plane))

-- ---- cells in a pool
pub own_cells : (setup : Setup) (pool : Pool) → ShowOwnTypes setup.tech pool setup.library → HaveOwnCells (terms_of setup pool)
own_cells setup pool each = All-map (ShowsOwnTypes setup.tech) (cell_layout pool) setup.library each

-- ---- what is saved
-- the own paint of a session at home and its layout hold types on their own planes, and nothing outside the world
module _ (pool : Pool) (owners : List ℕ) (strips : All (HasStrips pool) owners) where
  pub holds_paint : (tech : Tech) → ShowsOwnTypes tech (layout_in pool owners) → HoldsOwnTypes tech (layout_in pool owners)
  holds_paint tech own = record { own = own; within = layout_in-outside pool owners strips }

  pub holds_layout : (config : Config) (drawn : Drawn) → drawn.paint ≡ layout_in pool owners → All (ShowsOwnTypes config.tech) config.cells → ShowsOwnTypes config.tech drawn.paint
      → HoldsOwnTypes config.tech (layout_of config drawn)
  unfolding flattened
  holds_layout config drawn paint cells own = record { own = layout_own config cells drawn own; within = within }
    where
      none_placed : (uses : List CellUse) (plane x y : ℕ) → holds world x y ≡ false → uses_layout config.cells uses plane x y ≡ 0
      none_placed [] plane x y outside = refl
      none_placed (first ∷ later) plane x y outside =
          over_space (uses_layout config.cells later plane) (use_layout config.cells first plane) x y (none_placed later plane x y outside)
          (cond-false (holds world x y) (moved_picture (cell_shown config.cells first.cell plane) first.dx first.dy x y) 0 outside)

      within : (plane x y : ℕ) → holds world x y ≡ false → layout_of config drawn plane x y ≡ 0
      within plane x y outside =
          over_space (drawn.paint plane) (uses_layout config.cells drawn.uses plane) x y
          (ap (λ (layout : Layout). layout plane x y) paint ∙ layout_in-outside pool owners strips plane x y outside)
          (none_placed drawn.uses plane x y outside)
