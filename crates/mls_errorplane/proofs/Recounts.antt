-- How many squares are marked, once those of a piece were marked anew.
use Rattle.std.proofs.Common.{◌≡◌, ℕ, ◌+◌, ◌-◌, ◌≤◌, sym, subst, arith}
use Rattle.mls_errorplane.proofs.Common.{ErrorPlane, Picture, Pool, ShowsMarks, marked_count, picture_in, world}
use Rattle.mls_errorplane.proofs.MarkCounts.{marked_count-le}

-- what was counted is what the plane shows, under any names of the plane and the pool
pub counted-as :
    (pool same : Pool) (errors named : ErrorPlane) → ShowsMarks pool errors → named ≡ errors → same ≡ pool → named.marked ≡ marked_count world (picture_in same named.owner)
counted-as pool same errors named shows is_errors is_pool =
    subst (λ (p : Pool). named.marked ≡ marked_count world (picture_in p named.owner)) (sym is_pool)
    (subst (λ (e : ErrorPlane). e.marked ≡ marked_count world (picture_in pool e.owner)) (sym is_errors) shows.counted)

module _ (old new : Picture) (marked before after : ℕ) where
  -- no more squares are marked than the world has
  pub recount-few :
      marked ≡ marked_count world old → marked_count world new + before ≡ marked_count world old + after → before ≤ marked_count world old
      → marked - before + after ≤ 4398046511104
  recount-few counted recounted few = omega (arith, counted, recounted, few, marked_count-le world new)

  pub recount-before : marked ≡ marked_count world old → before ≤ marked_count world old → before ≤ marked
  recount-before counted few = omega (arith, counted, few)

  -- and as many as were counted
  pub recount-is :
      (now : ℕ) → marked ≡ marked_count world old → marked_count world new + before ≡ marked_count world old + after → now + before ≡ marked + after
      → now ≡ marked_count world new
  recount-is now counted recounted is = omega (arith, counted, recounted, is)
