-- A cell of new owners joins those at home in a pool.
use Rattle.std.proofs.Common.{ℕ, [], ◌∷◌, ◌++◌, get_or}
use Rattle.std.proofs.lemmas.List.Elements.{All-push}
use Rattle.std.proofs.lemmas.List.Quantifiers.{all_pairs_push}
use Rattle.mls_tilepool.specs.Pools.{Pool}
use Rattle.mls_paint.specs.Owners.{AddsOwners}
use Rattle.mls_library.specs.Libraries.{AreApart, IsCellHome, IsHome, Library, NamedCell}
use Rattle.mls_library.proofs.KeptCells.{IsCellApart-AddsOwners, IsHome-AddsOwners}

pub IsHome-push :
    (old new : Pool) (cells : Library) (cell : NamedCell) (tiles : ℕ) → IsHome old cells → AddsOwners old new cell.planes tiles → IsCellHome new cell
    → IsHome new (cells ++ cell ∷ [])
IsHome-push old new cells cell tiles home added joins = record {
  each = All-push (IsCellHome new) cells cell (IsHome-AddsOwners old new cell.planes tiles added cells home).each joins;
  apart = all_pairs_push AreApart cells cell home.apart (λ k d within. IsCellApart-AddsOwners old new cell.planes tiles added (get_or cells k d) (home.each k d within));
}
