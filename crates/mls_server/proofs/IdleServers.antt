-- A server on which no session is open, and the cells that are loaded then.
use Rattle.std.proofs.Common.{◌≡◌, ℕ, ◌+◌, ◌-◌, not, cond, List, [], ◌∷◌, ◌++◌, length, map, Ok, Err, Result, OnErr, refl, sym, ap, subst, ◌∙◌, arith}
use Rattle.std.specs.List.{position, position_or_len}
use Rattle.std.specs.Result.{IsOkAnd}
use Rattle.std.proofs.lemmas.List.{length-map, map-append}
use Rattle.std.proofs.lemmas.Simd.{map-map}
use Rattle.mls_geom.specs.Layouts.{Layout}
use Rattle.mls_session.specs.mls_library.Faults.{UnlessMemory}
use Rattle.mls_session.specs.mls_library.Libraries.{HavePlanes, Library, LoadsUnlessMemory, NamedCell, ShowOwnTypes, cell_layout, cell_named, loading_of, names_of}
use Rattle.mls_session.specs.mls_library.Libraries.{IsHome as AreCellsHome}
use Rattle.mls_session.specs.mls_library.declared.fault.CellFault.{CellFault}
use Rattle.mls_paint.specs.Owners.{AddsOwners}
use Rattle.mls_session.specs.declared.setup.Setup.{Setup}
use Rattle.mls_text.specs.Words.{same_word}
use Rattle.mls_tilepool.specs.Pools.{Pool, unreserved}
use Rattle.mls_server.specs.Events.{LoadsCell, with_cell}
use Rattle.mls_server.specs.Servers.{AreOpen, Server, seat_for, world_of}
use Rattle.mls_server.specs.declared.server.OpenSession.{OpenSession}
use Rattle.mls_server.specs.Settings.{NamedLayout, cell_names, named_layout, named_layouts}
use Rattle.mls_server.specs.Worlds.{Seat}
use Rattle.mls_server.proofs.OtherSessions.{AreOpenIn, cells_apart-AddsOwners, named_layouts-apart, others-AddsOwners}

-- ---- no open session
module _ (pool : Pool) where
  no_session : (entries : List (List ℕ × OpenSession)) → map (seat_for pool) entries ≡ [] → entries ≡ []
  no_session [] none = refl
  no_session (entry ∷ entries) none = absurd cc

-- then only the cells need be at home
pub AreOpen-none :
    (setup : Setup) (pool : Pool) (given : ℕ) → AreCellsHome pool setup.library → HavePlanes setup.tech.plane_count setup.library → ShowOwnTypes setup.tech pool setup.library
    → AreOpen setup pool given []
AreOpen-none setup pool given home planes own_types = record {
  cells_home = record {
    home = home;
    apart = λ k d within i o below found. let inside = found.1 in omega (arith, inside);
    planes = planes;
    own_types = own_types;
  };
  made = λ k d within. absurd (omega (arith, within));
  apart = λ a b d less within. absurd (omega (arith, within));
  rising = λ a b d less within. absurd (omega (arith, within));
  within = λ k d within. absurd (omega (arith, within));
  few = omega arith;
}

-- a library without cells is at home in any pool
pub home-none : (pool : Pool) → AreCellsHome pool []
home-none pool = record {
  each = λ k d within. absurd (omega (arith, within));
  apart = λ a b d less within. absurd (omega (arith, within));
}

-- ---- the cell of a name
module _ (pool : Pool) (name : List ℕ) where
  place_in-layouts : (cells : Library) → position_or_len (λ cell. same_word name cell.name) (named_layouts pool cells) ≡ position_or_len (λ cell. same_word name cell.name) cells
  place_in-layouts [] = refl
  place_in-layouts (cell ∷ cells) = ap (λ n. cond (not (same_word name cell.name)) (1 + n) 0) (place_in-layouts cells)

  pub position-layouts : (cells : Library) → position (λ cell. same_word name cell.name) (named_layouts pool cells) ≡ cell_named cells name
  position-layouts cells = rw (place_in-layouts cells, length-map cells (named_layout pool)) refl

-- ---- loading a cell
-- what holds of a value, where the result is that value
is_ok_and : {T E : Type 0} (r : Result T E) (x : T) (P : T → Type 0) → r ≡ Ok x → P x → IsOkAnd r P
is_ok_and r x P e p = subst (λ found. IsOkAnd found P) (sym e) p

module _ (server : Server) (are : AreOpenIn server)
    (idle : (world_of server).seats ≡ []) where
  none : server.sessions ≡ []
  none = no_session server.pool server.sessions idle

  -- the server with this pool and this library
  abbrev pub loaded : Pool → Library → Server
  loaded pool library = record server { pool = pool; setup = record server.setup { library = library } }

  pub AreOpen-loaded :
      (pool : Pool) (library : Library) → AreCellsHome pool library → (HavePlanes server.setup.tech.plane_count server.setup.library → HavePlanes server.setup.tech.plane_count library)
      → (ShowOwnTypes server.setup.tech server.pool server.setup.library → ShowOwnTypes server.setup.tech pool library) → AreOpenIn (loaded pool library)
  AreOpen-loaded pool library home planes own_types =
      subst (AreOpen (loaded pool library).setup pool server.given) (sym none) (AreOpen-none (loaded pool library).setup pool server.given home (planes are.cells_home.planes)
      (own_types are.cells_home.own_types))

  names-layouts : cell_names (world_of server).setting ≡ names_of server.setup.library
  names-layouts = map-map (λ cell. cell.name) (named_layout server.pool) server.setup.library

  loading-world : (name bytes : List ℕ)
      → loading_of server.setup.tech (cell_names (world_of server).setting) server.setup.cell_tiles (unreserved server.pool) name bytes ≡ loading_of server.setup.tech (names_of server.setup.library) server.setup.cell_tiles (unreserved server.pool) name bytes
  loading-world name bytes = ap (λ names. loading_of server.setup.tech names server.setup.cell_tiles (unreserved server.pool) name bytes) names-layouts

  -- one cell more
  module _ (pool : Pool) (library : Library) (tiles : ℕ) (cell : NamedCell) (added : AddsOwners server.pool pool cell.planes tiles) where
    cells-loaded :
        (name : List ℕ) (layout : Layout) → cell.name ≡ name → library ≡ server.setup.library ++ cell ∷ [] → cell_layout pool cell ≡ layout
        → named_layouts pool library ≡ named_layouts server.pool server.setup.library ++ record { name = name; layout = layout } ∷ []
    cells-loaded name layout named more shows =
        ap (named_layouts pool) more ∙ map-append (named_layout pool) server.setup.library (cell ∷ [])
        ∙ ap (λ (front : List NamedLayout). front ++ named_layout pool cell ∷ []) (named_layouts-apart (others-AddsOwners added) server.setup.library (cells_apart-AddsOwners added server.setup.library are.cells_home.home))
        ∙ ap (λ (called : List ℕ). named_layouts server.pool server.setup.library ++ record { name = called; layout = cell_layout pool cell } ∷ []) named
        ∙ ap (λ (shown : Layout). named_layouts server.pool server.setup.library ++ record { name = name; layout = shown } ∷ []) shows

    with_cell-loaded :
        (name : List ℕ) (layout : Layout) → cell.name ≡ name → library ≡ server.setup.library ++ cell ∷ [] → cell_layout pool cell ≡ layout
        → world_of (loaded pool library) ≡ with_cell (world_of server) (record { name = name; layout = layout }) tiles
    with_cell-loaded name layout named more shows =
        ap (λ (cells : List NamedLayout). record {
          setting = record (world_of server).setting { cells = cells };
          given = server.given;
          seats = map (seat_for pool) server.sessions;
          room = unreserved pool;
        }) (cells-loaded name layout named more shows)
        ∙ ap (λ (seats : List Seat). record (with_cell (world_of server) (record { name = name; layout = layout }) tiles) { seats = seats; room = unreserved pool })
        (ap (map (seat_for pool)) none ∙ sym (ap (map (seat_for server.pool)) none))
        ∙ ap (λ (room : ℕ). record (with_cell (world_of server) (record { name = name; layout = layout }) tiles) { room = room }) left
      where
        left : unreserved pool ≡ unreserved server.pool - tiles
        left = let taken = added.taken in omega (arith, taken)

  pub LoadsCell-loaded :
      (pool : Pool) (library : Library) (name bytes : List ℕ) (result : Result ℕ CellFault)
      → LoadsUnlessMemory server.setup.tech server.setup.cell_tiles server.pool pool server.setup.library library name bytes result → OnErr result (library ≡ server.setup.library) → OnErr result (pool ≡ server.pool)
      → LoadsCell (world_of server) name bytes result (world_of (loaded pool library))
  LoadsCell-loaded pool library name bytes (Ok id) loads same_library same_pool =
      let added = loads.2 in
      is_ok_and _ loads.0 _ (loading-world name bytes ∙ loads.1) (
        added.number ∙ sym (length-map server.setup.library (named_layout server.pool)),
        with_cell-loaded pool library _ added.cell added.reserves name _ added.named added.added added.shows,
      )
  LoadsCell-loaded pool library name bytes (Err fault) loads same_library same_pool = (
    subst (λ loading. UnlessMemory fault.kind fault.line (loading ≡ Err fault)) (sym (loading-world name bytes)) loads,
    ap (λ (cells : Library). world_of (loaded pool cells)) same_library ∙ ap (λ (tiles : Pool). world_of (loaded tiles server.setup.library)) same_pool,
  )
