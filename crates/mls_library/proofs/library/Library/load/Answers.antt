use Rattle.std.proofs.Common.{◌≡◌, slice_get, ℕ, ◌<◌, ◌≤◌, [], ◌∷◌, ◌++◌, map, true, Some, None, Err, length, nat_lt, All, ap, sym, subst, ◌∙◌, arith}
use Rattle.std.specs.List.{list_any}
use Rattle.std.proofs.lemmas.List.{length-map}
use Rattle.std.proofs.lemmas.List.Elements.{All-map, All-push}
use Rattle.mls_geom.specs.Locality.{AreUnorderedStrips}
use Rattle.mls_geom.specs.Pictures.{picture_of}
use Rattle.mls_geom.specs.World.{world}
use Rattle.mls_tilepool.specs.Pools.{unreserved}
use Rattle.mls_paint.specs.Owners.{AddsOwners}
use Rattle.mls_library.specs.Bounds.{any_painted, bounds_of}
use Rattle.mls_library.specs.CellFiles.{layout_of_rects, reading_of}
use Rattle.mls_library.specs.Inner.{AreBuilt, IsFrozenList, cells_in, named_cell}
use Rattle.mls_library.specs.Libraries as spec
use Rattle.mls_library.specs.Libraries.{HavePlanes, IsHome, KeepsCells, NamedCell, ShowOwnTypes, ShowsWithin, cell_layout}
use Rattle.mls_library.specs.SavedCells.{ShowsOwnTypes}
use Rattle.mls_library.specs.declared.fault.CellFault.{CellFault}
use Rattle.mls_library.specs.declared.fault.CellFaultKind.TheVariants.{PoolFull, TooManyTiles}
use Rattle.mls_library.proofs.CellBounds.{AreBuilt-within, ShowsWithin-lists, painted_bounds-built}
use Rattle.mls_library.proofs.CellLayouts.{layout_in-rects}
use Rattle.mls_library.proofs.CellNames.{KeepsCells-append, cells_in-new, place_of_new}
use Rattle.mls_library.proofs.HomeCells.{IsHome-push}
use Rattle.mls_library.proofs.Loading.{All-unmap, LoadsUnlessMemory-fault, UnlessMemory-map, counts_few, counts_listed, few-within, lists_frozen, loading_of-file, loading_of-name, loading_of-room, room_fault-full, room_fault-none, room_fault-tiles}
use Rattle.mls_library.proofs.OwnTypes.{own_types-AddsOwners, rects_show_own}
use Rattle.mls_library.proofs.ReadingLemmas.{unless_memory}
use Rattle.mls_library.proofs.library.Library.load.Goals as goal

pub returns-in-Some-clause-loads : goal.returns-in-Some-clause-loads
returns-in-Some-clause-loads c =
    rw c.of_cell.ensures (unless_memory c.in-Some.kind (loading_of-name c.args.tech.now (spec.names_of c.args.self.now) c.args.limit (unreserved c.args.pool.now) c.args.file.now.name.now c.args.file.now.bytes.now c.in-Some.kind (sym c.in-Some.ensures)))

pub returns-in_err-rects-clause-loads : goal.returns-in_err-rects-clause-loads
returns-in_err-rects-clause-loads c =
    let named : spec.name_fault (spec.names_of c.args.self.now) c.args.file.now.name.now ≡ None = sym c.in_default.ensures in
    LoadsUnlessMemory-fault c.args.tech.now c.args.limit c.args.pool.now c.args.pool.now c.args.self.now c.args.self.now c.args.file.now.name.now c.args.file.now.bytes.now c.in_err-rects.field-0.0
    c.from_residual.result c.from_residual.ensures.1
    (UnlessMemory-map {P = reading_of c.args.tech.now c.args.file.now.bytes.now ≡ Err c.in_err-rects.field-0.0} {Q = spec.loading_of c.args.tech.now (spec.names_of c.args.self.now) c.args.limit (unreserved c.args.pool.now) c.args.file.now.name.now c.args.file.now.bytes.now ≡ Err c.in_err-rects.field-0.0}
    c.in_err-rects.field-0.0.kind c.in_err-rects.field-0.0.line c.in_err-rects.ensures.value
    (λ read. loading_of-file c.args.tech.now (spec.names_of c.args.self.now) c.args.limit (unreserved c.args.pool.now) c.args.file.now.name.now c.args.file.now.bytes.now named c.in_err-rects.field-0.0 read))

pub returns-in_err-strips-clause-loads : goal.returns-in_err-strips-clause-loads
returns-in_err-strips-clause-loads c =
    let named : spec.name_fault (spec.names_of c.args.self.now) c.args.file.now.name.now ≡ None = sym c.in_default.ensures in
    let rects = c.in_ok-rects.rects.items in
    let fault : CellFault = c.in_err-strips.field-0.0 in
    let free = unreserved c.args.pool.now in
    let counts = spec.tile_counts c.args.tech.now.plane_count rects in
    let many : list_any (λ count. nat_lt c.args.limit count) (spec.tile_counts c.planes.result c.deref.result.now) ≡ true → list_any (λ count. nat_lt c.args.limit count) counts ≡ true =
    λ found. rw (c.planes.ensures.value, c.deref.ensures.value) at found
    in
    LoadsUnlessMemory-fault c.args.tech.now c.args.limit c.args.pool.now c.args.pool.now c.args.self.now c.args.self.now c.args.file.now.name.now c.args.file.now.bytes.now fault
    c.from_residual-in_err-strips.result c.from_residual-in_err-strips.ensures.1
    (UnlessMemory-map
    {P = (fault ≡ record { line = 0; kind = TooManyTiles }) × (list_any (λ count. nat_lt c.args.limit count) (spec.tile_counts c.planes.result c.deref.result.now) ≡ true)}
    {Q = spec.loading_of c.args.tech.now (spec.names_of c.args.self.now) c.args.limit free c.args.file.now.name.now c.args.file.now.bytes.now ≡ Err fault}
    fault.kind fault.line c.in_err-strips.ensures.fault
    (λ found.
    loading_of-room c.args.tech.now (spec.names_of c.args.self.now) c.args.limit free c.args.file.now.name.now c.args.file.now.bytes.now named rects (Some TooManyTiles) c.in_ok-rects.ensures.value (room_fault-tiles c.args.limit free counts (many found.1))
    ∙ ap Err (sym found.0)))

pub count_tiles-requires-clause-limit : goal.count_tiles-requires-clause-limit
count_tiles-requires-clause-limit c =
    let few = All-unmap (λ list. list.items) (λ list. length list ≤ c.args.limit) c.in_ok-strips.strips.items c.in_ok-strips.ensures.strips.few in
    rw c.deref-2.ensures.value (few-within (λ list. list.items) c.in_ok-strips.strips.items c.args.limit spec.most_tiles few c.get-most.ensures.legal.bounded)

pub returns-then-unreserved-count_tiles-clause-loads : goal.returns-then-unreserved-count_tiles-clause-loads
returns-then-unreserved-count_tiles-clause-loads c =
    let named : spec.name_fault (spec.names_of c.args.self.now) c.args.file.now.name.now ≡ None = sym c.in_default.ensures in
    let rects = c.in_ok-rects.rects.items in
    let strips = c.in_ok-strips.strips.items in
    let free = unreserved c.args.pool.now in
    let planes = c.args.tech.now.plane_count in
    let listed = rw c.deref.ensures.value at c.in_ok-strips.ensures.strips in
    let number : length strips ≡ planes = c.in_ok-strips.ensures.count ∙ c.planes.ensures.value in
    let counts = counts_listed (λ list. list.items) strips rects planes c.args.limit listed number in
    let few = counts_few (λ list. list.items) strips rects planes c.args.limit listed number in
    let tiles : c.count_tiles.result ≡ spec.total (spec.tile_counts planes rects) =
    c.count_tiles.ensures ∙ ap (λ lists. spec.total (map (λ list. length list.items) lists)) c.deref-2.ensures.value ∙ ap spec.total counts
    in
    let full : free < spec.total (spec.tile_counts planes rects) = omega (arith, tiles, c.unreserved.ensures, c.if-unreserved-count_tiles.true) in
    rw c.of_cell-then-unreserved-count_tiles.ensures
    (loading_of-room c.args.tech.now (spec.names_of c.args.self.now) c.args.limit free c.args.file.now.name.now c.args.file.now.bytes.now named rects (Some PoolFull) c.in_ok-rects.ensures.value
    (room_fault-full c.args.limit free (spec.tile_counts planes rects) few full))

pub build_planes-requires-clause-strips : goal.build_planes-requires-clause-strips
build_planes-requires-clause-strips c =
    let rects = c.in_ok-rects.rects.items in
    let strips = c.in_ok-strips.strips.items in
    let listed = rw c.deref.ensures.value at c.in_ok-strips.ensures.strips in
    let number : length strips ≡ c.args.tech.now.plane_count = c.in_ok-strips.ensures.count ∙ c.planes.ensures.value in
    rw c.deref-4.ensures.value (lists_frozen (λ list. list.items) strips rects c.args.tech.now.plane_count c.args.limit listed number c.get-most.ensures.legal.bounded)

pub build_planes-requires-clause-tiles_fit : goal.build_planes-requires-clause-tiles_fit
build_planes-requires-clause-tiles_fit c =
    let strips = c.in_ok-strips.strips.items in
    let few = All-unmap (λ list. list.items) (λ list. length list ≤ c.args.limit) strips c.in_ok-strips.ensures.strips.few in
    let room : c.args.limit ≤ c.in_ok-scratch.scratch.room = omega (arith, c.in_ok-scratch.ensures.0, c.get-most.ensures.value) in
    rw c.deref-4.ensures.value (few-within (λ list. list.items) strips c.args.limit c.in_ok-scratch.scratch.room few room)

pub returns : goal.returns
returns c =
    let named : spec.name_fault (spec.names_of c.args.self.now) c.args.file.now.name.now ≡ None = sym c.in_default.ensures in
    let key = c.in_ok-name.name in
    let cells = c.args.self.now in
    let new = c.build_planes.new.pool in
    let owners = c.build_planes.new.planes.items in
    let rects = c.in_ok-rects.rects.items in
    let strips = c.in_ok-strips.strips.items in
    let lists = map (λ list. list.items) strips in
    let free = unreserved c.args.pool.now in
    let planes = c.args.tech.now.plane_count in
    let built : AreBuilt c.args.pool.now new owners lists =
    subst (λ found. AreBuilt c.args.pool.now new owners (map (λ list. list.items) found)) c.deref-4.ensures.value c.build_planes.ensures.built
    in
    let listed = rw c.deref.ensures.value at c.in_ok-strips.ensures.strips in
    let number : length strips ≡ planes = c.in_ok-strips.ensures.count ∙ c.planes.ensures.value in
    let all : length lists ≡ planes = length-map strips (λ list. list.items) ∙ number in
    let few = counts_few (λ list. list.items) strips rects planes c.args.limit listed number in
    let tiles : c.count_tiles.result ≡ spec.total (spec.tile_counts planes rects) =
    c.count_tiles.ensures ∙ ap (λ lists. spec.total (map (λ list. length list.items) lists)) c.deref-2.ensures.value
    ∙ ap spec.total (counts_listed (λ list. list.items) strips rects planes c.args.limit listed number)
    in
    let room : spec.total (spec.tile_counts planes rects) ≤ free = omega (arith, tiles, c.unreserved.ensures, c.if-unreserved-count_tiles.false) in
    let unnamed : spec.name_fault (spec.names_of cells) key.items ≡ None = ap (spec.name_fault (spec.names_of cells)) c.in_ok-name.ensures.items ∙ named in
    let inserted = rw c.unwrap-index.ensures at c.insert_full.ensures in
    let entries = c.reserve.new.self.entries in
    let same : cells_in (λ name. name.items) (λ cell. cell) entries ≡ cells =
    ap (cells_in (λ name. name.items) (λ cell. cell)) c.in_ok-reserve.ensures.entries ∙ c.self.view_is
    in
    let bounds = c.bounds_of-bounds.result in
    let cell : NamedCell = record { name = key.items; planes = owners; bounds = bounds } in
    let grown : cells_in (λ name. name.items) (λ cell. cell) c.insert_full.new.self.entries ≡ cells ++ cell ∷ [] =
    ap (cells_in (λ name. name.items) (λ cell. cell)) inserted.entries
    ∙ cells_in-new (λ name. name.items) (λ cell. cell) cells entries key same unnamed c.new-cell.result
    ∙ ap (λ made. cells ++ named_cell key.items made ∷ []) c.new-cell.ensures
    in
    -- each rectangle that is read lies on a plane of the technology
    let known : All (λ painted. painted.plane < length owners) rects =
    subst (λ n. All (λ painted. painted.plane < n) rects) (sym (built.count ∙ all)) (λ k d within. (c.in_ok-rects.ensures.known k d within).known)
    in
    let smallest : bounds ≡ bounds_of (any_painted lists) =
    c.bounds_of-bounds.ensures ∙ ap (λ found. bounds_of (any_painted (map (λ list. list.items) found))) c.deref-3.ensures.value
    in
    let frozen = lists_frozen (λ list. list.items) strips rects planes c.args.limit listed number c.get-most.ensures.legal.bounded in
    let shown : All (λ list. AreUnorderedStrips world (picture_of list) list) lists = λ k d within. (All-map (λ list. IsFrozenList list) (λ list. list.items) strips frozen k d within).strips in
    let bounded : (plane : ℕ) → ShowsWithin bounds (cell_layout new cell plane) =
    subst (λ found. (plane : ℕ) → ShowsWithin found (cell_layout new cell plane)) (sym smallest)
    (AreBuilt-within c.args.pool.now new owners lists (bounds_of (any_painted lists)) built (ShowsWithin-lists lists shown))
    in
    let home : IsHome new (cells ++ cell ∷ []) =
    IsHome-push c.args.pool.now new cells cell _ c.requires.home built.added (record { frozen = built.frozen; apart = built.apart; bounded = bounded; smallest = smallest ∙ painted_bounds-built lists shown c.args.pool.now new owners built })
    in
    let shows : cell_layout new cell ≡ layout_of_rects rects =
    layout_in-rects new owners rects known
    (λ k d within. let in_lists : k < length lists = omega (arith, within, built.count) in
    built.shows k d [] in_lists ∙ (listed.each k [] in_lists).shows)
    in
    record {
      loads = (
        rects,
        loading_of-room c.args.tech.now (spec.names_of cells) c.args.limit free c.args.file.now.name.now c.args.file.now.bytes.now named rects None c.in_ok-rects.ensures.value (room_fault-none c.args.limit free (spec.tile_counts planes rects) few room),
        record {
          cell = cell;
          named = c.in_ok-name.ensures.items;
          number = inserted.index ∙ place_of_new (λ name. name.items) (λ cell. cell) cells entries key same unnamed;
          added = grown;
          planes = built.count ∙ all;
          shows = shows;
          reserves = subst (AddsOwners c.args.pool.now new owners) (ap spec.total (listed.counts ∙ ap (λ n. spec.tile_counts n rects) all)) built.added;
        },
      );
      home = subst (IsHome new) (sym grown) home;
      planes = λ before. subst (HavePlanes planes) (sym grown) (All-push (λ cell. length cell.planes ≡ planes) cells cell before (built.count ∙ all));
      own_types =
          λ before. subst (ShowOwnTypes c.args.tech.now new) (sym grown)
          (All-push (λ cell. ShowsOwnTypes c.args.tech.now (cell_layout new cell)) cells cell
          (own_types-AddsOwners c.args.tech.now c.args.pool.now new cells owners _ built.added c.requires.home before)
          (subst (ShowsOwnTypes c.args.tech.now) (sym shows) (rects_show_own c.args.tech.now rects c.in_ok-rects.ensures.known)));
      cells_kept = subst (KeepsCells cells) (sym grown) (KeepsCells-append cells (cell ∷ []));
      library_kept = tt;
      pool_kept = tt;
    }

-- nothing was added
pub returns-in_err-reserve-clause-cells_kept : goal.returns-in_err-reserve-clause-cells_kept
returns-in_err-reserve-clause-cells_kept c = λ id within. rw c.reserve.ensures.entries (ap (λ cells. slice_get cells id) c.self.view_is)

pub returns-in_err-reserve-clause-own_types : goal.returns-in_err-reserve-clause-own_types
returns-in_err-reserve-clause-own_types c =
    λ before. rw c.reserve.ensures.entries (subst (ShowOwnTypes c.args.tech.now c.args.pool.now) (sym c.self.view_is) before)
