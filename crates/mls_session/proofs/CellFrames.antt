-- A command changes tiles of the design's planes alone, so the library's cells stay as they are.
use Rattle.std.proofs.Common.{◌≡◌, ℕ, suc, List, [], ◌∷◌, All, get_or, refl, sym, ap, subst, ◌∙◌, arith}
use Rattle.mls_session.proofs.Common.{CanDump, ChangesAmong, Pool, Setup, ShowsOwnTypes, cell_layouts}
use Rattle.mls_library.specs.Libraries.{IsHome as AreCellsHome, Library, ShowOwnTypes, cell_layout}
use Rattle.mls_library.proofs.KeptCells.{IsCellApart, IsHome-ChangesAmong, cell_layout-ChangesAmong}

module _ (old new : Pool) (owners : List ℕ) (only : ChangesAmong old new owners) where
  -- they are at home
  pub home-ChangesAmong : (setup : Setup) → CanDump setup old owners → AreCellsHome new setup.library
  home-ChangesAmong setup can = IsHome-ChangesAmong old new owners only setup.library can.apart can.home

  -- show types on their own planes
  pub own_types-ChangesAmong : (setup : Setup) → CanDump setup old owners → ShowOwnTypes setup.tech new setup.library
  own_types-ChangesAmong setup can k d within =
      subst (ShowsOwnTypes setup.tech) (sym (cell_layout-ChangesAmong old new owners only (get_or setup.library k d) (can.apart k d within))) (can.own_types k d within)

  layouts_kept : (cells : Library) → All (IsCellApart owners) cells → cell_layouts new cells ≡ cell_layouts old cells
  layouts_kept [] apart = refl
  layouts_kept (cell ∷ cells) apart =
      ap (λ layout. layout ∷ cell_layouts new cells) (cell_layout-ChangesAmong old new owners only cell (apart 0 cell (omega arith)))
      ∙ ap (λ layouts. cell_layout old cell ∷ layouts) (layouts_kept cells (λ k d within. apart (suc k) d (omega (arith, within))))

  -- and show what they showed
  pub layouts-ChangesAmong : (setup : Setup) → CanDump setup old owners → cell_layouts new setup.library ≡ cell_layouts old setup.library
  layouts-ChangesAmong setup can = layouts_kept setup.library can.apart
