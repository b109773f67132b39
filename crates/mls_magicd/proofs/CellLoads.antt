-- Cells that are loaded one after another.
use Rattle.std.proofs.Common.{◌≡◌, ◌∙◌, ◌<◌, ℕ, suc, ◌+◌, List, [], ◌∷◌, ◌++◌, length, get_or, map, take, drop, refl, sym, ap, subst}
use Rattle.std.specs.Prelude.{Result, Ok, Err}
use Rattle.std.specs.Result.{IsOkAnd}
use Rattle.std.proofs.lemmas.List.{map-append}
use Rattle.mls_lines.specs.mls_library.CellFiles.{layout_of_rects}
use Rattle.mls_lines.specs.mls_library.Libraries.{loading_of, tile_counts, total}
use Rattle.mls_lines.specs.mls_server.Events.{LoadsCell, with_cell}
use Rattle.mls_lines.specs.mls_server.Settings.{NamedLayout, cell_names}
use Rattle.mls_lines.specs.mls_server.Worlds.{World}
use Rattle.mls_magicd.specs.Cells.{FailsToLoad, LoadsFile, LoadsCells, StopsAtCell}
use Rattle.mls_magicd.proofs.Taken.{map-take_more, split-at}
use Rattle.mls_magicd.specs.CommandLines.{NamedFile}
use Rattle.mls_magicd.specs.declared.cells.LoadFault.{LoadFault}

-- what each value gives is given where there is one
IsOkAnd-gives : {A E : Type 0} (r : Result A E) (P : A → Type 0) (Q : Type 0) → ((x : A) → P x → Q) → IsOkAnd r P → Q
IsOkAnd-gives (Ok x) P Q f p = f x p
IsOkAnd-gives (Err e) P Q f p = absurd p

-- a loaded cell leaves what having one cell more leaves
loaded-keeps : {A : Type 0} (part : World → A) (old new : World) (name bytes : List ℕ) (id : ℕ) → ((cell : NamedLayout) (tiles : ℕ) → part (with_cell old cell tiles) ≡ part old)
    → LoadsCell old name bytes (Ok id) new → part new ≡ part old
loaded-keeps part old new name bytes id kept loads =
    IsOkAnd-gives (loading_of old.setting.tech (cell_names old.setting) old.setting.cell_tiles old.room name bytes)
    (λ rects. (id ≡ length old.setting.cells) × (new ≡ with_cell old (record { name = name; layout = layout_of_rects rects }) (total (tile_counts old.setting.tech.plane_count rects))))
    (part new ≡ part old) (λ rects is. ap part is.1 ∙ kept _ _) loads

module _ (reads_as : List ℕ → List ℕ → Type 0) where
  -- none was loaded
  pub LoadsCells-nil : (on : World) → LoadsCells reads_as on [] on
  unfolding LoadsCells
  LoadsCells-nil on = refl

  -- one cell more
  pub LoadsCells-more : (old mid new : World) (files : List NamedFile) (file : NamedFile)
      → LoadsCells reads_as old files mid → LoadsFile reads_as mid file new → LoadsCells reads_as old (files ++ file ∷ []) new
  unfolding LoadsCells
  LoadsCells-more old mid new [] file before loads = (new, subst (λ (on : World). LoadsFile reads_as on file new) before loads, refl)
  LoadsCells-more old mid new (first ∷ files) file before loads = (before.0, before.1, LoadsCells-more before.0 mid new files file before.2 loads)

  -- the technology stays
  pub LoadsCells-tech : (old new : World) (files : List NamedFile) → LoadsCells reads_as old files new → new.setting.tech ≡ old.setting.tech
  unfolding LoadsCells
  LoadsCells-tech old new [] loads = ap (λ (on : World). on.setting.tech) loads
  LoadsCells-tech old new (file ∷ files) loads =
      LoadsCells-tech loads.0 new files loads.2 ∙ loaded-keeps (λ on. on.setting.tech) old loads.0 file.name loads.1.0 loads.1.1 (λ cell tiles. refl) loads.1.3

  -- no session is opened
  pub LoadsFile-idle : (old new : World) (file : NamedFile) → LoadsFile reads_as old file new → old.seats ≡ [] → new.seats ≡ []
  LoadsFile-idle old new file loads idle = loaded-keeps (λ on. on.seats) old new file.name loads.0 loads.1 (λ cell tiles. refl) loads.3 ∙ idle

  module _ {X : Type 0} (file_at : X → NamedFile) (cells : List X) (i : ℕ) (d : X) (low : i < length cells) where
    -- the cells up to one, and that one
    pub LoadsCells-taken : (old mid new : World) → LoadsCells reads_as old (map file_at (take i cells)) mid → LoadsFile reads_as mid (file_at (get_or cells i d)) new
        → LoadsCells reads_as old (map file_at (take (i + 1) cells)) new
    LoadsCells-taken old mid new before loads =
        subst (λ (files : List NamedFile). LoadsCells reads_as old files new) (sym (map-take_more file_at cells i d low))
        (LoadsCells-more old mid new (map file_at (take i cells)) (file_at (get_or cells i d)) before loads)

    -- those up to one are loaded, and that one isn't
    pub stops-at : (may_fail : List ℕ → Type 0) (old mid : World) (fault : LoadFault) → LoadsCells reads_as old (map file_at (take i cells)) mid
        → FailsToLoad reads_as may_fail mid (file_at (get_or cells i d)) fault → StopsAtCell reads_as may_fail old (map file_at cells) fault
    stops-at may_fail old mid fault loaded failed = record {
      before = map file_at (take i cells);
      file = file_at (get_or cells i d);
      after = map file_at (drop (suc i) cells);
      order = ap (map file_at) (split-at cells i d low) ∙ map-append file_at (take i cells) (get_or cells i d ∷ drop (suc i) cells);
      mid = mid;
      loads = loaded;
      fails = failed;
    }
