-- How many tiles a plane may have. This project's own.
use Rattle.std.specs.Prelude.{ℕ, ◌+◌}
use Rattle.mls_bounded.specs.Ranges.{IsInRange}

-- one rectangle in the middle of the world makes five
abbrev pub least_quota : ℕ
least_quota = 5

abbrev pub most_quota : ℕ
most_quota = 16384

abbrev pub default_quota : ℕ
default_quota = 1024

-- a plane may have this number of tiles at most
abbrev pub IsQuota : ℕ → Type 0
IsQuota = IsInRange least_quota most_quota

-- how many tiles each plane reserves: some more than it may have
abbrev pub plane_reserve : ℕ → ℕ
plane_reserve quota = quota + 64
