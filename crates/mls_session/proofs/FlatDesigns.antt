-- A design's layout is what its planes show with the uses of its cells, and these lie in the pool beside them.
use Rattle.std.proofs.Common.{◌≡◌, ◌≢◌, ℕ, ◌<◌, ◌≤◌, List, [], ◌∷◌, length, get_or, All, Contains, sym, ap, ◌∙◌, subst, arith}
use Rattle.std.proofs.lemmas.List.Elements.{Contains-append_right}
use Rattle.mls_session.proofs.Common.{CellUse, FitsWorkspace, HasFlatPlane, HasLayout, HasPlane, HasPlanes, Picture, Pool, Setup, StandsApart, Uses, cell_layouts, config_of, flat_layout, flat_plane, flattened, layout_in, layout_of, most_quota, over, uses_layout}
use Rattle.mls_library.specs.Libraries.{IsHome as AreCellsHome, Library}
use Rattle.mls_paint.proofs.OwnerFrames.{layout_in-at}
use Rattle.mls_session.specs.Designs.{CanDump, Design, HasErrorPlane, IsHome, IsMadeFor, drawn_of, owners_of}
use Rattle.mls_session.proofs.ErrorPlanes.{FitsWorkspace-home, HasPlane-home}

-- ---- what it shows
pub flat_layout-design :
    (setup : Setup) (pool : Pool) (design : Design) (uses : Uses) → uses.library.now ≡ setup.library → uses.list.now ≡ design.uses → (planes : List ℕ) → planes ≡ design.planes
    → flat_layout pool uses planes ≡ layout_of (config_of setup pool) (drawn_of pool design)
flat_layout-design setup pool design uses library list planes same =
    ap (λ (cells : Library). flattened (cell_layouts pool cells) uses.list.now (layout_in pool planes)) library
    ∙ ap (λ (placed : List CellUse). flattened (cell_layouts pool setup.library) placed (layout_in pool planes)) list
    ∙ ap (λ (owners : List ℕ). flattened (cell_layouts pool setup.library) design.uses (layout_in pool owners)) same

-- on one plane
pub flat_plane-at :
    (pool : Pool) (uses : Uses) (planes : List ℕ) (plane owner : ℕ) → plane < length planes → owner ≡ get_or planes plane owner
    → flat_plane pool uses plane owner ≡ flat_layout pool uses planes plane
unfolding flattened
flat_plane-at pool uses planes plane owner within is =
    ap (λ (own : Picture). over own (uses_layout (cell_layouts pool uses.library.now) uses.list.now plane)) (sym (layout_in-at pool planes plane owner within is))

-- ---- the plane under an index, as a turn of a loop over the planes reads it
module _ (pool mid : Pool) (uses : Uses) (owners : List ℕ) (i owner : ℕ) (same : mid ≡ pool) (within : i < length owners) (is : owner ≡ get_or owners i owner) where
  -- it has what each of them has
  lent_has : (Has : Pool → ℕ → Type 0) → All (Has pool) owners → Has mid owner
  lent_has Has all = subst (λ (now : Pool). Has now owner) (sym same) (subst (Has pool) (sym is) (all i owner within))

  pub HasFlatPlane-lent : All (HasPlane pool) owners → All (FitsWorkspace pool) owners → AreCellsHome pool uses.library.now → HasFlatPlane mid owner uses.library.now
  HasFlatPlane-lent planes fit cells =
      record { plane = lent_has HasPlane planes; fits = lent_has FitsWorkspace fit; cells = subst (λ (now : Pool). AreCellsHome now uses.library.now) (sym same) cells }

  -- and shows with the uses what the layout does
  pub flat_plane-lent : flat_plane mid uses i owner ≡ flat_layout pool uses owners i
  flat_plane-lent = ap (λ (now : Pool). flat_plane now uses i owner) same ∙ flat_plane-at pool uses owners i owner within is

-- ---- what calls of its error plane ask for
module _ (setup : Setup) (pool : Pool) (design : Design) (can : CanDump setup pool (owners_of design)) (library : Library) (same : library ≡ setup.library) where
  -- its planes and the cells lie in the pool, and no cell has more planes than the design
  pub HasLayout-design : (planes : List ℕ) → IsHome pool design → design.quota ≤ most_quota → IsMadeFor setup design → planes ≡ design.planes → HasLayout pool planes library
  HasLayout-design planes home few made_for is =
      let count = ap length is in
      subst (HasLayout pool planes) (sym same) (record {
        planes = subst (HasPlanes pool) (sym is) (record {
          each = HasPlane-home pool design.quota design.planes home.layout;
          fit = FitsWorkspace-home pool design.quota design.planes home.layout few;
        });
        cells = record { home = can.home; few = λ k d within. omega (arith, count, made_for.planes, can.planes k d within) };
      })

  -- the error plane stands apart from both
  pub StandsApart-design : (owner : ℕ) (planes : List ℕ) → HasErrorPlane pool design → owner ≡ design.errors.owner → planes ≡ design.planes → StandsApart owner planes library
  StandsApart-design owner planes errors is lent =
      subst (λ (o : ℕ). StandsApart o planes library) (sym is) (record {
        planes = subst (All (λ other. other ≢ design.errors.owner)) (sym lent) errors.apart;
        cells = subst (All (λ cell. All (λ other. ¬ (Contains (design.errors.owner ∷ []) other)) cell.planes)) (sym same)
            (λ k d within i e among found. can.apart k d within i e among (Contains-append_right design.planes (design.errors.owner ∷ []) _ found));
      })
