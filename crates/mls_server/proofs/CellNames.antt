-- The names of a library's cells.
use Rattle.std.proofs.Common.{◌≡◌, ℕ, ◌+◌, List, [], ◌∷◌, ◌++◌, map, take, slice_get, Some, refl, sym, ap, ◌∙◌}
use Rattle.std.proofs.lemmas.List.{take_more}
use Rattle.std.proofs.lemmas.Option.{get_or_from_slice_get, slice_get_within}
use Rattle.mls_session.specs.mls_library.Libraries.{Library, names_of}
use Rattle.mls_tilepool.specs.Pools.{Pool}
use Rattle.mls_server.specs.Settings.{named_layouts}

pub names-named_layouts : (pool : Pool) (cells : Library) → map (λ cell. cell.name) (named_layouts pool cells) ≡ names_of cells
names-named_layouts pool [] = refl
names-named_layouts pool (cell ∷ cells) = ap (λ (names : List (List ℕ)). cell.name ∷ names) (names-named_layouts pool cells)

-- one name more
pub names-next : (names : List (List ℕ)) (place : ℕ) (name : List ℕ) → slice_get names place ≡ Some name → take place names ++ name ∷ [] ≡ take (place + 1) names
names-next names place name is =
    ap (λ (last : List ℕ). take place names ++ last ∷ []) (sym (get_or_from_slice_get names place name name is))
    ∙ sym (take_more names place name (slice_get_within names place name is))
