-- The set that a list means, and its leftmost name that isn't known, each by itself.
use Rattle.std.proofs.Common.{◌≡◌, ℕ, ◌^◌, ◌<◌, ◌==◌, not, ◌||◌, ◌&&◌, Option, Some, None, Result, Ok, Err, refl, sym, ap, ◌∙◌}
use Rattle.std.proofs.lemmas.Nat.{pow_pos}
use Rattle.mls_tech.specs.TypeLists.{Scope, TypeTest, TypeList, Nothing, Named, AllBut, Both, OnPlane, or_fault, ◌>>=◌, types_of}
use Rattle.mls_kinds.specs.KindSets.{set_of}
use Rattle.mls_kinds.specs.KindSets.{union, intersection, difference}
use Rattle.mls_tech.specs.Inner.ListReaders.{first_fault, fault_unless, named_set, plane_set, unless_unknown}
use Rattle.mls_tech.specs.declared.fault.TechFaultKind.{TechFaultKind}
use Rattle.mls_tech.specs.declared.fault.TechFaultKind.TheVariants.{UnknownPlane, UnknownType}
use Rattle.mls_kinds.proofs.KindSetLemmas.{set_of-lt, set_of_none, union-set_of, intersection-set_of, difference-set_of}

-- the set of a list, where unknown types are none, and unknown planes have all types
abbrev pub set_in : Scope → TypeList → ℕ
set_in scope Nothing = 0
set_in scope (Named name) = named_set (scope.type_of name)
set_in scope (AllBut term) = difference (set_of scope.is_type) (set_in scope term)
set_in scope (Both first others) = union (set_in scope first) (set_in scope others)
set_in scope (OnPlane term plane) = plane_set scope (set_in scope term) (scope.plane_of plane)

-- the leftmost name of a list that isn't known
abbrev pub unknown_in : Scope → TypeList → Option TechFaultKind
unknown_in scope Nothing = None
unknown_in scope (Named name) = fault_unless (scope.type_of name) UnknownType
unknown_in scope (AllBut term) = unknown_in scope term
unknown_in scope (Both first others) = first_fault (unknown_in scope first) (unknown_in scope others)
unknown_in scope (OnPlane term plane) = first_fault (unknown_in scope term) (fault_unless (scope.plane_of plane) UnknownPlane)

named_set-lt : (known : Option ℕ) → named_set known < 2 ^ 64
named_set-lt None = pow_pos 64
named_set-lt (Some known) = set_of-lt _

plane_set-lt : (scope : Scope) (set : ℕ) (plane : Option ℕ) → set < 2 ^ 64 → plane_set scope set plane < 2 ^ 64
unfolding intersection
plane_set-lt scope set None fits = fits
plane_set-lt scope set (Some known) fits = set_of-lt _

pub set_in-lt : (scope : Scope) (list : TypeList) → set_in scope list < 2 ^ 64
unfolding union difference
set_in-lt scope Nothing = pow_pos 64
set_in-lt scope (Named name) = named_set-lt (scope.type_of name)
set_in-lt scope (AllBut term) = set_of-lt _
set_in-lt scope (Both first others) = set_of-lt _
set_in-lt scope (OnPlane term plane) = plane_set-lt scope _ (scope.plane_of plane) (set_in-lt scope term)

-- a result is this set where there is no fault, and the fault otherwise
abbrev Means : Result TypeTest TechFaultKind → Option TechFaultKind → ℕ → Type 0
Means (Ok set) None bits = bits ≡ set_of set
Means (Ok set) (Some fault) bits = ⊥
Means (Err fault) None bits = ⊥
Means (Err fault) (Some unknown) bits = unknown ≡ fault

named-means : (known : Option ℕ) → Means (or_fault UnknownType known >>= λ known. Ok (λ kind. kind == known)) (fault_unless known UnknownType) (named_set known)
named-means None = refl
named-means (Some known) = refl

all_but-means : (scope : Scope) (r : Result TypeTest TechFaultKind) (unknown : Option TechFaultKind) (bits : ℕ) → Means r unknown bits →
    Means (r >>= λ set. Ok (λ kind. scope.is_type kind && not (set kind))) unknown (difference (set_of scope.is_type) bits)
all_but-means scope (Ok set) None bits h = ap (difference (set_of scope.is_type)) h ∙ difference-set_of scope.is_type set
all_but-means scope (Ok set) (Some fault) bits h = absurd h
all_but-means scope (Err fault) None bits h = absurd h
all_but-means scope (Err fault) (Some unknown) bits h = h

both-means : (r s : Result TypeTest TechFaultKind) (unknown also : Option TechFaultKind) (bits more : ℕ) → Means r unknown bits → Means s also more →
    Means (r >>= λ xs. s >>= λ ys. Ok (λ kind. xs kind || ys kind)) (first_fault unknown also) (union bits more)
both-means (Ok xs) (Ok ys) None None bits more h i = rw (h, i) (union-set_of xs ys)
both-means (Ok xs) (Ok ys) None (Some also) bits more h i = absurd i
both-means (Ok xs) (Err fault) None None bits more h i = absurd i
both-means (Ok xs) (Err fault) None (Some also) bits more h i = i
both-means (Ok xs) s (Some unknown) also bits more h i = absurd h
both-means (Err fault) s None also bits more h i = absurd h
both-means (Err fault) s (Some unknown) also bits more h i = h

plane-means : (scope : Scope) (r : Result TypeTest TechFaultKind) (unknown : Option TechFaultKind) (bits : ℕ) (plane : Option ℕ) → Means r unknown bits →
    Means (r >>= λ set. or_fault UnknownPlane plane >>= λ known. Ok (λ kind. set kind && scope.lies_on known kind)) (first_fault unknown (fault_unless plane UnknownPlane)) (plane_set scope bits plane)
plane-means scope (Ok set) None bits None h = refl
plane-means scope (Ok set) None bits (Some known) h = rw h (intersection-set_of set (scope.lies_on known))
plane-means scope (Ok set) (Some fault) bits plane h = absurd h
plane-means scope (Err fault) None bits plane h = absurd h
plane-means scope (Err fault) (Some unknown) bits plane h = h

types_of-means : (scope : Scope) (list : TypeList) → Means (types_of scope list) (unknown_in scope list) (set_in scope list)
unfolding types_of
types_of-means scope Nothing = set_of_none
types_of-means scope (Named name) = named-means (scope.type_of name)
types_of-means scope (AllBut term) = all_but-means scope (types_of scope term) (unknown_in scope term) (set_in scope term) (types_of-means scope term)
types_of-means scope (Both first others) =
    both-means (types_of scope first) (types_of scope others) (unknown_in scope first) (unknown_in scope others) _ _ (types_of-means scope first) (types_of-means scope others)
types_of-means scope (OnPlane term plane) =
    plane-means scope (types_of scope term) (unknown_in scope term) (set_in scope term) (scope.plane_of plane) (types_of-means scope term)

meant : (r : Result TypeTest TechFaultKind) (unknown : Option TechFaultKind) (bits : ℕ) → Means r unknown bits → (r >>= λ set. Ok (set_of set)) ≡ unless_unknown unknown bits
meant (Ok set) None bits h = ap Ok (sym h)
meant (Ok set) (Some fault) bits h = absurd h
meant (Err fault) None bits h = absurd h
meant (Err fault) (Some unknown) bits h = ap Err (sym h)

pub types_of-is : (scope : Scope) (list : TypeList) → (types_of scope list >>= λ set. Ok (set_of set)) ≡ unless_unknown (unknown_in scope list) (set_in scope list)
types_of-is scope list = meant (types_of scope list) (unknown_in scope list) (set_in scope list) (types_of-means scope list)
