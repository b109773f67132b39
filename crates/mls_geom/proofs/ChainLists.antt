-- Chains with one more piece.
use Rattle.mls_geom.proofs.Common.{◌≡◌, ◌≢◌, ℕ, ◌-◌, ◌<◌, ◌≤◌, ◌⊎◌, suc, false, nat_lt, nat_le, List, [], ◌∷◌, inl, inr, refl, arith, ltb-true, leb-true, cases_Bool, leb-false, ltb-false}
use Rattle.mls_geom.proofs.Definitions.{Hides, IsHiddenBy, Each, IsStaircase, rank_of, outliving, linked, IsRankOf}
use Rattle.mls_geom.proofs.EachOfChain.{Each-weaker, Each-linked, outliving-passed}

-- the pieces under one that doesn't lie over the piece don't
each-lower : (ends : ℕ → ℕ) (piece over : ℕ) (chain : List ℕ) → over ≤ piece → Each (λ under. (under < over) × (ends over < ends under)) chain → Each (λ under. under ≤ piece) chain
each-lower ends piece over [] above each = tt
each-lower ends piece over (under ∷ rest) above (here, each) = (omega (arith, here.0, above), each-lower ends piece over rest above each)

-- so where the topmost one doesn't lie over the piece none of the chain does
all-lower : (ends : ℕ → ℕ) (piece over : ℕ) (rest : List ℕ) → nat_lt piece over ≡ false → Each (λ under. (under < over) × (ends over < ends under)) rest → Each (λ under. under ≤ piece) (over ∷ rest)
all-lower ends piece over rest higher each = (ltb-false piece over higher, each-lower ends piece over rest (ltb-false piece over higher) each)

-- what those that are left out hide, the piece hides too
outliving-hides :
    (ends : ℕ → ℕ) (piece x : ℕ) (chain : List ℕ) → Each (λ under. under ≤ piece) chain → IsHiddenBy ends chain x → Hides ends piece x ⊎ IsHiddenBy ends (outliving ends piece chain) x
outliving-hides ends piece x [] each hides = absurd hides
outliving-hides ends piece x (under ∷ rest) (lower, each) hides = elim (cases_Bool (nat_le (ends under) (ends piece))) [
  | inl gone ↦ elim hides [
    | inl here ↦ inl (omega (arith, here.0, lower), omega (arith, here.1, leb-true _ _ gone))
    | inr deeper ↦ rw gone (outliving-hides ends piece x rest each deeper)
  ]
  | inr stays ↦ rw stays (inr hides)
]

-- a piece that one of the chain hides is hidden once there is one more
pub linked-hides :
    (ends : ℕ → ℕ) (piece x : ℕ) (chain : List ℕ) → IsStaircase ends chain → IsHiddenBy ends chain x → IsHiddenBy ends (linked ends piece chain) x
linked-hides ends piece x [] stairs hides = absurd hides
linked-hides ends piece x (over ∷ rest) (under, stairs) hides = elim (cases_Bool (nat_lt piece over)) [
  | inl lower ↦ elim (cases_Bool (nat_le (ends piece) (ends over))) [
    | inl hidden ↦ rw (lower, hidden) hides
    | inr deeper ↦ rw (lower, deeper) (elim hides [
      | inl here ↦ inl here
      | inr below ↦ inr (linked-hides ends piece x rest stairs below)
    ])
  ]
  | inr higher ↦ rw higher (outliving-hides ends piece x (over ∷ rest) (all-lower ends piece over rest higher under) hides)
]

-- the chain with a piece hides it
pub linked-hides-new : (ends : ℕ → ℕ) (piece : ℕ) (chain : List ℕ) → IsHiddenBy ends (linked ends piece chain) piece
linked-hides-new ends piece [] = inl (omega arith, omega arith)
linked-hides-new ends piece (over ∷ rest) = elim (cases_Bool (nat_lt piece over)) [
  | inl lower ↦ elim (cases_Bool (nat_le (ends piece) (ends over))) [
    | inl hidden ↦ rw (lower, hidden) (inl (omega (arith, ltb-true _ _ lower), leb-true _ _ hidden))
    | inr deeper ↦ rw (lower, deeper) (inr (linked-hides-new ends piece rest))
  ]
  | inr higher ↦ rw higher (inl (omega arith, omega arith))
]

-- those that are left when the first ones are left out stand as they did
IsStaircase-outliving : (ends : ℕ → ℕ) (piece : ℕ) (chain : List ℕ) → IsStaircase ends chain → IsStaircase ends (outliving ends piece chain)
IsStaircase-outliving ends = outliving-passed (IsStaircase ends) (λ over rest stairs. stairs.1) ends

-- and end after the piece
outliving-after :
    (ends : ℕ → ℕ) (piece : ℕ) (chain : List ℕ) → IsStaircase ends chain → Each (λ under. under < piece) chain
    → Each (λ under. (under < piece) × (ends piece < ends under)) (outliving ends piece chain)
outliving-after ends piece [] stairs lower = tt
outliving-after ends piece (under ∷ rest) (below, stairs) (here, lower) = elim (cases_Bool (nat_le (ends under) (ends piece))) [
  | inl gone ↦ rw gone (outliving-after ends piece rest stairs lower)
  | inr stays ↦
      let later = leb-false (ends under) (ends piece) stays in
      rw stays ((here, later), Each-weaker _ _ rest (λ other steps. (omega (arith, here, steps.0), omega (arith, later, steps.1))) below)
]

-- a chain with one more piece stands as it should
pub IsStaircase-linked :
    (ends : ℕ → ℕ) (piece : ℕ) (chain : List ℕ) → IsStaircase ends chain → Each (λ other. other ≢ piece) chain → IsStaircase ends (linked ends piece chain)
IsStaircase-linked ends piece [] stairs new = (tt, tt)
IsStaircase-linked ends piece (over ∷ rest) (below, stairs) (here, new) = elim (cases_Bool (nat_lt piece over)) [
  | inl lower ↦ elim (cases_Bool (nat_le (ends piece) (ends over))) [
    | inl hidden ↦ rw (lower, hidden) (below, stairs)
    | inr deeper ↦ rw (lower, deeper) (
      Each-linked ends (λ under. (under < over) × (ends over < ends under)) piece rest (ltb-true _ _ lower, leb-false (ends piece) (ends over) deeper) below,
      IsStaircase-linked ends piece rest stairs new,
    )
  ]
  | inr higher ↦
      let least : over < piece = grind (arith, ltb-false piece over higher, here) in
      rw higher (
        outliving-after ends piece (over ∷ rest) (below, stairs) (least, Each-weaker _ _ rest (λ under steps. omega (arith, steps.0, least)) below),
        IsStaircase-outliving ends piece (over ∷ rest) (below, stairs),
      )
]

-- what one of a chain hides doesn't lie over its topmost one
hidden-below : (ends : ℕ → ℕ) (over x : ℕ) (chain : List ℕ) → Each (λ under. (under < over) × (ends over < ends under)) chain → IsHiddenBy ends chain x → x < over
hidden-below ends over x [] below hides = absurd hides
hidden-below ends over x (under ∷ rest) (here, below) hides = elim hides [
  | inl one ↦ omega (arith, one.0, here.0)
  | inr deeper ↦ hidden-below ends over x rest below deeper
]

-- a chain that hides all pieces of a set, and has no others, has the set's rank
pub IsRankOf-chain :
    (ends : ℕ → ℕ) (P : ℕ → Type 0) (chain : List ℕ) → IsStaircase ends chain → Each P chain → ((x : ℕ) → P x → IsHiddenBy ends chain x) → IsRankOf P (rank_of chain)
IsRankOf-chain ends P [] stairs each all = record { over = λ i p. absurd (all i p); some = inl refl }
IsRankOf-chain ends P (over ∷ rest) (below, stairs) (here, each) all = record {
  over = λ i p. elim (all i p) [
    | inl top ↦ omega (arith, top.0)
    | inr deeper ↦ omega (arith, hidden-below ends over i rest below deeper)
  ];
  some = inr (let one : suc over - 1 ≡ over = omega arith in rw one here);
}

-- where a piece ends before all others of a set, or with one over it, it is the topmost of a chain or isn't in it
pub taken-hides :
    (ends : ℕ → ℕ) (piece over x : ℕ) (rest : List ℕ) → over ≡ piece → x ≢ piece → (ends piece < ends x) ⊎ ((ends piece ≡ ends x) × (piece < x))
    → IsHiddenBy ends (over ∷ rest) x → IsHiddenBy ends rest x
taken-hides ends piece over x rest is other first hides = elim hides [
  | inl top ↦ absurd (elim first [
    | inl sooner ↦ (let up : ends x ≤ ends piece = rw is at top.1 in omega (arith, up, sooner))
    | inr with_it ↦ (let down : x ≤ piece = rw is at top.0 in omega (arith, down, with_it.1))
  ])
  | inr deeper ↦ deeper
]
