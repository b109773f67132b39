-- The entries of a map from names as the names with their numbers.
use Rattle.std.specs.Prelude.{ℕ, List, map}
use Rattle.mls_tech.specs.Readings.{Numbered}

-- the entries, where each name is read as its bytes
abbrev pub names_in : {K : Type 0} → (K → List ℕ) → List (K × ℕ) → Numbered
names_in bytes entries = map (λ entry. (bytes entry.0, entry.1)) entries
