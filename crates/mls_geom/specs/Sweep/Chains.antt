-- The chain of a node: the present pieces that have it, from the top down, without those that one over them hides until they end.
use Rattle.std.specs.Prelude.{◌≡◌, ℕ, ◌<◌, ◌≤◌, ◌⊎◌, ◌==◌, ◌++◌, suc, nat_lt, nat_le, if◌then◌else◌, Option, Some, None, List, [], ◌∷◌, length, slice_get, slice_index_or, IsSomeAnd}
use Rattle.mls_geom.specs.declared.chain.Entry.{Entry}
use Rattle.mls_geom.specs.declared.chain.Step.{Step}
use Rattle.mls_geom.specs.declared.chain.Step.TheVariants.{Begins, Ends}

-- the piece is the other one, or lies over it and ends no sooner
abbrev pub Hides : (ℕ → ℕ) → ℕ → ℕ → Type 0
Hides ends over piece = (piece ≤ over) × (ends piece ≤ ends over)

-- one of the chain hides the piece
abbrev pub IsHiddenBy : (ℕ → ℕ) → List ℕ → ℕ → Type 0
IsHiddenBy ends [] piece = ⊥
IsHiddenBy ends (over ∷ rest) piece = Hides ends over piece ⊎ IsHiddenBy ends rest piece

-- P holds of each of the chain
abbrev pub Each : (ℕ → Type 0) → List ℕ → Type 0
Each P [] = Unit {0}
Each P (piece ∷ rest) = P piece × Each P rest

-- from the top down each of the chain ends after those over it
abbrev pub IsStaircase : (ℕ → ℕ) → List ℕ → Type 0
IsStaircase ends [] = Unit {0}
IsStaircase ends (over ∷ rest) = Each (λ piece. (piece < over) × (ends over < ends piece)) rest × IsStaircase ends rest

-- from the top down each of the chain lies under those over it
abbrev pub IsFalling : List ℕ → Type 0
IsFalling [] = Unit {0}
IsFalling (over ∷ rest) = Each (λ piece. piece < over) rest × IsFalling rest

-- the chain has pieces of which P holds, and hides all others
pub record IsChainOf (ends : ℕ → ℕ) (P : ℕ → Type 0) (chain : List ℕ) : Type 0 where
  pub each : Each P chain
  pub hidden : (i : ℕ) → P i → IsHiddenBy ends chain i
  pub stairs : IsStaircase ends chain

-- the rank of the topmost one
abbrev pub rank_of : List ℕ → ℕ
rank_of [] = 0
rank_of (piece ∷ rest) = suc piece

-- the chain without those at its front that end no later than the piece
abbrev pub outliving : (ℕ → ℕ) → ℕ → List ℕ → List ℕ
outliving ends piece [] = []
outliving ends piece (under ∷ rest) = if nat_le (ends under) (ends piece) then outliving ends piece rest else (under ∷ rest)

-- the chain with one more piece
abbrev pub linked : (ℕ → ℕ) → ℕ → List ℕ → List ℕ
linked ends piece [] = piece ∷ []
linked ends piece (over ∷ rest) =
    if nat_lt piece over
    then (if nat_le (ends piece) (ends over) then (over ∷ rest) else (over ∷ linked ends piece rest))
    else (piece ∷ outliving ends piece (over ∷ rest))

-- the chain without the piece, if that is its topmost one
abbrev pub unlinked : ℕ → List ℕ → List ℕ
unlinked piece [] = []
unlinked piece (top ∷ rest) = if top == piece then rest else (top ∷ rest)

-- the chain once the piece begins or ends
abbrev pub stepped : Step → (ℕ → ℕ) → ℕ → List ℕ → List ℕ
stepped Begins ends piece chain = linked ends piece chain
stepped Ends ends piece chain = unlinked piece chain

-- the node's entries, from this one down, have these pieces
abbrev pub IsChain : List Entry → ℕ → Option ℕ → List ℕ → Type 0
IsChain entries node next [] = next ≡ None
IsChain entries node next (piece ∷ rest) =
    IsSomeAnd next (λ e. IsSomeAnd (slice_get entries e) (λ entry. (entry.node ≡ node) × (entry.piece ≡ piece) × IsChain entries node entry.under rest))

-- a chain, of which each piece lies under those over it, and is one of the first ones
abbrev pub HasChain : List Entry → ℕ → ℕ → Option ℕ → Type 0
HasChain entries count node head = (chain : List ℕ) × IsChain entries node head chain × IsFalling chain × Each (λ piece. piece < count) chain

-- an entry of the list
abbrev pub entry_at : List Entry → ℕ → Entry
entry_at entries e = slice_index_or entries e (record { node = 0; piece = 0; under = None })

-- the entry under this one, or the first one where there is none
abbrev pub under_of : List Entry → Option ℕ → Option ℕ → Option ℕ
under_of entries head None = head
under_of entries head (Some e) = (entry_at entries e).under

-- the node's entries, from one down to the one over another, have these pieces
abbrev pub IsFront : List Entry → ℕ → Option ℕ → Option ℕ → List ℕ → Type 0
IsFront entries node head next [] = head ≡ next
IsFront entries node head next (piece ∷ rest) =
    IsSomeAnd head (λ e. (e < length entries) × ((entry_at entries e).node ≡ node) × ((entry_at entries e).piece ≡ piece) × IsFront entries node (entry_at entries e).under next rest)

-- the node's entries, from one down to another, if there is one, have these pieces
abbrev pub IsFrontTo : List Entry → ℕ → Option ℕ → Option ℕ → List ℕ → Type 0
IsFrontTo entries node head None front = front ≡ []
IsFrontTo entries node head (Some e) front =
    (over : List ℕ) × (front ≡ over ++ (entry_at entries e).piece ∷ []) × IsFront entries node head (Some e) over × (e < length entries) × ((entry_at entries e).node ≡ node)

-- the chain's pieces down to an entry, if there is one, stay where the piece is linked, and those under it are left
pub record IsSplitAt (ends : ℕ → ℕ) (piece : ℕ) (entries : List Entry) (node : ℕ) (head : Option ℕ) (chain : List ℕ) (over : Option ℕ) : Type 0 where
  pub front : List ℕ
  pub rest : List ℕ
  pub whole : chain ≡ front ++ rest
  pub stays : linked ends piece chain ≡ front ++ linked ends piece rest
  pub down : IsFrontTo entries node head over front
  pub under : IsChain entries node (under_of entries head over) rest
