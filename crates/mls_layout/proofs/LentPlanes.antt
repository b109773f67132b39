-- A pool that is lent for searches.
use Rattle.std.proofs.Common.{◌≡◌, sym, ap, subst, ◌∙◌}
use Rattle.mls_tilepool.specs.Pools.{Pool}

-- where neither the pool nor what else is lent has changed, what held holds still
pub lent : {X : Type 0} (P : Pool → X → Type 0) (pool now : Pool) (x given : X) → now ≡ pool → given ≡ x → P pool x → P now given
lent {X} P pool now x given same_pool same has = subst (λ (p : Pool). P p given) (sym same_pool) (subst (P pool) (sym same) has)

-- and what is computed of them is as it was
pub lent-same : {X Y : Type 0} (f : Pool → X → Y) (pool now : Pool) (x given : X) → now ≡ pool → given ≡ x → f now given ≡ f pool x
lent-same f pool now x given same_pool same = ap (λ (p : Pool). f p given) same_pool ∙ ap (f pool) same
