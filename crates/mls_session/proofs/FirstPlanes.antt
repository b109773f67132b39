-- Numbers of tiles of the first planes, one plane more at a time.
use Rattle.std.proofs.Common.{◌≡◌, ℕ, ◌+◌, ◌++◌, ◌∷◌, [], arith}
use Rattle.std.proofs.lemmas.List.FromFn.{map-range_with_len_more}
use Rattle.mls_session.proofs.Common.{Layout, tile_count, tile_counts, world}

-- one plane more has a number of tiles more
pub tile_counts-more : (n : ℕ) (layout : Layout) → tile_counts (n + 1) layout ≡ tile_counts n layout ++ tile_count world (layout n) ∷ []
tile_counts-more n layout = map-range_with_len_more (λ plane. tile_count world (layout plane)) 0 n n (omega arith)
