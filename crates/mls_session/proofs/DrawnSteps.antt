-- What holds of each change of what is drawn, and of each refusal, holds of the step of every command that draws or looks.
use Rattle.std.proofs.Common.{◌≡◌, ℕ, ℤ, Bool, true, false, if◌then◌else◌, nat_le, nat_lt, not, Option, Some, None, Result, Ok, Err, ◌++◌, ◌∷◌, [], length, slice_get, refl}
use Rattle.mls_session.proofs.Common.{CellOutside, Config, Drawn, Empty, EmptyBox, Layout, NoBox, Outside, OutsideWorld, Quota, Rect, RectFault, Refusal, Reply, TooManyUses, UnknownCell, UnknownType, are_types, box_step, cell_at, change_step, check_in, dump_step, dumped_in, dumped_layout, dumped_rect, erase_step, erased_layout, exceeds_quota, get_in, get_step, is_full, is_memory, layout_leaves_world, most_uses, paint_on, paint_step, painted, plane_of_type, tile_count, what_step, with_plane, world}
use Rattle.mls_session.specs.declared.reply.Reply.TheVariants.{Done, Kinds, Refused}

-- the own paint with a rectangle painted on the type's plane
abbrev pub paint_with : Drawn → Rect → ℕ → ℕ → Layout
paint_with own e kind plane = with_plane own.paint plane (painted (own.paint plane) (record { rect = e; kind = kind }))

-- what is drawn with one cell more that is placed
abbrev pub with_use : Drawn → ℕ → ℤ → ℤ → Drawn
with_use own id dx dy = record own { uses = own.uses ++ record { cell = id; dx = dx; dy = dy } ∷ [] }

-- the property, of the rectangle that changes and of what a step makes and replies, holds of refusals that are for neither memory nor the journal's room, and of every change
pub record HoldsOfChanges (config : Config) (own : Drawn) (P : Option Rect → Drawn × Reply → Type 0) : Type 0 where
  pub refused : (rect : Option Rect) (refusal : Refusal) → is_memory refusal ≡ false → is_full refusal ≡ false → P rect (own, Refused refusal)
  pub looked : (kinds : ℕ) → P None (own, Kinds kinds)
  pub asked : (e : Rect) → P (Some e) (own, Done)
  pub boxed : (e : Rect) → P None (record own { box = Some e }, Done)
  pub paints : (e : Rect) (kind plane : ℕ) → plane_of_type config.tech.type_planes kind ≡ Some plane → P (Some e) (record own { paint = paint_with own e kind plane }, Done)
  pub erases : (e : Rect) (kinds : ℕ) → P (Some e) (record own { paint = erased_layout own.paint e kinds }, Done)
  pub dumps : (id : Option ℕ) (cell : Layout) (dx dy : ℤ) → cell_at config id ≡ Some cell → layout_leaves_world config.tech.plane_count cell dx dy ≡ false
      → P (dumped_rect config.tech.plane_count cell dx dy) (record own { paint = dumped_layout own.paint cell dx dy }, Done)
  pub places : (id : ℕ) (cell : Layout) (dx dy : ℤ) → slice_get config.cells id ≡ Some cell → layout_leaves_world config.tech.plane_count cell dx dy ≡ false
      → P (dumped_rect config.tech.plane_count cell dx dy) (with_use own id dx dy, Done)

module _ (config : Config) (own : Drawn) (P : Option Rect → Drawn × Reply → Type 0) (each : HoldsOfChanges config own P) where
  unless : (rect : Option Rect) (over : Bool) (refusal : Refusal) (step : Drawn × Reply) → is_memory refusal ≡ false → is_full refusal ≡ false → (over ≡ false → P rect step)
      → P rect (if over then (own, Refused refusal) else step)
  unless rect true refusal step memory full made = each.refused rect refusal memory full
  unless rect false refusal step memory full made = made refl

  change_holds : (rect : Option Rect) (layout : Layout) → P rect (record own { paint = layout }, Done) → P rect (change_step config own layout)
  change_holds rect layout made = unless rect (exceeds_quota config layout) Quota (record own { paint = layout }, Done) refl refl (λ fits. made)

  pub box_holds : (made : Result Rect RectFault) → P None (box_step own made)
  box_holds (Ok e) = each.boxed e
  box_holds (Err Empty) = each.refused None EmptyBox refl refl
  box_holds (Err Outside) = each.refused None OutsideWorld refl refl

  paint_on_holds : (e : Rect) (kind : ℕ) (plane : Option ℕ) → plane_of_type config.tech.type_planes kind ≡ plane → P (Some e) (paint_on config own e kind plane)
  paint_on_holds e kind None on = each.refused (Some e) UnknownType refl refl
  paint_on_holds e kind (Some plane) on =
      unless (Some e) (nat_lt config.quota (tile_count world (painted (own.paint plane) (record { rect = e; kind = kind })))) Quota
      (record own { paint = paint_with own e kind plane }, Done) refl refl (λ fits. each.paints e kind plane on)

  pub paint_holds : (box : Option Rect) (kind : Option ℕ) → P box (paint_step config own box kind)
  paint_holds None kind = each.refused None NoBox refl refl
  paint_holds (Some e) None = each.refused (Some e) UnknownType refl refl
  paint_holds (Some e) (Some kind) = paint_on_holds e kind (plane_of_type config.tech.type_planes kind) refl

  pub erase_holds : (box : Option Rect) (kinds : Option ℕ) → P box (erase_step config own box kinds)
  erase_holds None kinds = each.refused None NoBox refl refl
  erase_holds (Some e) None = each.refused (Some e) UnknownType refl refl
  erase_holds (Some e) (Some kinds) =
      let layout = erased_layout own.paint e kinds in
      unless (Some e) (not (are_types config.tech kinds)) UnknownType (change_step config own layout) refl refl (λ known. change_holds (Some e) layout (each.erases e kinds))

  dump_in_holds : (id : Option ℕ) (cell : Option Layout) (dx dy : ℤ) → cell_at config id ≡ cell → P (dumped_in config cell dx dy) (dump_step config own cell dx dy)
  dump_in_holds id None dx dy at = each.refused None UnknownCell refl refl
  dump_in_holds id (Some cell) dx dy at =
      let rect = dumped_rect config.tech.plane_count cell dx dy in
      let layout = dumped_layout own.paint cell dx dy in
      unless rect (layout_leaves_world config.tech.plane_count cell dx dy) CellOutside (change_step config own layout) refl refl
      (λ stays. change_holds rect layout (each.dumps id cell dx dy at stays))

  pub dump_holds : (id : Option ℕ) (dx dy : ℤ) → P (dumped_in config (cell_at config id) dx dy) (dump_step config own (cell_at config id) dx dy)
  dump_holds id dx dy = dump_in_holds id (cell_at config id) dx dy refl

  get_in_holds : (id : ℕ) (cell : Option Layout) (dx dy : ℤ) → slice_get config.cells id ≡ cell → P (dumped_in config cell dx dy) (get_in config own id cell dx dy)
  get_in_holds id None dx dy at = each.refused None UnknownCell refl refl
  get_in_holds id (Some cell) dx dy at =
      let rect = dumped_rect config.tech.plane_count cell dx dy in
      unless rect (layout_leaves_world config.tech.plane_count cell dx dy) CellOutside _ refl refl (λ stays.
      unless rect (nat_le most_uses (length own.uses)) TooManyUses (with_use own id dx dy, Done) refl refl (λ few. each.places id cell dx dy at stays))

  pub get_holds : (id : Option ℕ) (dx dy : ℤ) → P (dumped_in config (cell_at config id) dx dy) (get_step config own id dx dy)
  get_holds None dx dy = each.refused None UnknownCell refl refl
  get_holds (Some id) dx dy = get_in_holds id (slice_get config.cells id) dx dy refl

  pub what_holds : (box : Option Rect) → P None (what_step config own box)
  what_holds None = each.refused None NoBox refl refl
  what_holds (Some e) = each.looked _

  pub check_holds : (box : Option Rect) → P box (check_in own box)
  check_holds None = each.refused None NoBox refl refl
  check_holds (Some e) = each.asked e
