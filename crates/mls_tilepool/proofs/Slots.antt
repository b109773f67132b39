-- Lists of slots, each with a value or none: what follows where two of them agree at each key, or at each key but one.
use Rattle.std.proofs.Common.{◌≡◌, ◌≢◌, ℕ, zero, suc, ◌+◌, ◌≤◌, List, [], ◌∷◌, get_or, Option, Some, None, refl, sym, ◌∙◌, arith}
use Rattle.mls_tilepool.proofs.Common.{sum_by, entries_from}
use Rattle.std.proofs.lemmas.List.Sums.{sum_by-cons}

-- a sum over nothing but empty slots
sum_by-empty : {X : Type 0} (f : Option X → ℕ) (slots : List (Option X)) → ((key : ℕ) → f (get_or slots key None) ≡ 0) → sum_by f slots ≡ 0
sum_by-empty f [] empty = refl
sum_by-empty f (slot ∷ rest) empty = omega (arith, sum_by-cons f slot rest, empty 0, sum_by-empty f rest (λ key. empty (suc key)))

-- two sums agree where the slots of each key do
pub sum_by-same :
    {X : Type 0} (f : Option X → ℕ) (old new : List (Option X)) → f None ≡ 0
    → ((key : ℕ) → f (get_or new key None) ≡ f (get_or old key None)) → sum_by f new ≡ sum_by f old
sum_by-same f [] new none same = sum_by-empty f new (λ key. same key ∙ none)
sum_by-same f (slot ∷ rest) [] none same =
    sym (sum_by-empty f (slot ∷ rest) (λ key. sym (same key) ∙ none))
sum_by-same f (slot ∷ rest) (other ∷ others) none same =
    omega (arith, sum_by-cons f slot rest, sum_by-cons f other others, same 0, sum_by-same f rest others none (λ key. same (suc key)))

-- where the slots of one key alone differ, so do the sums
pub sum_by-change :
    {X : Type 0} (f : Option X → ℕ) (old new : List (Option X)) (key : ℕ) → f None ≡ 0
    → ((other : ℕ) → other ≢ key → f (get_or new other None) ≡ f (get_or old other None))
    → sum_by f new + f (get_or old key None) ≡ sum_by f old + f (get_or new key None)
sum_by-change f [] [] key none others = refl
sum_by-change f [] (slot ∷ rest) zero none others =
    omega (arith, none, sum_by-cons f slot rest, sum_by-same f [] rest none (λ key. others (suc key) (λ same. absurd (omega arith))))
sum_by-change f [] (slot ∷ rest) (suc key) none others =
    omega (arith, none, sum_by-cons f slot rest, others 0 (λ same. absurd (omega arith)), sum_by-change f [] rest key none (λ other differs. others (suc other) (λ same. differs (omega arith))))
sum_by-change f (slot ∷ rest) [] zero none others =
    omega (arith, none, sum_by-cons f slot rest, sum_by-same f rest [] none (λ key. others (suc key) (λ same. absurd (omega arith))))
sum_by-change f (slot ∷ rest) [] (suc key) none others =
    omega (arith, none, sum_by-cons f slot rest, others 0 (λ same. absurd (omega arith)), sum_by-change f rest [] key none (λ other differs. others (suc other) (λ same. differs (omega arith))))
sum_by-change f (slot ∷ rest) (other ∷ rest') zero none others =
    omega (arith, sum_by-cons f slot rest, sum_by-cons f other rest', sum_by-same f rest rest' none (λ key. others (suc key) (λ same. absurd (omega arith))))
sum_by-change f (slot ∷ rest) (other ∷ rest') (suc key) none others =
    omega (arith, sum_by-cons f slot rest, sum_by-cons f other rest', others 0 (λ same. absurd (omega arith)), sum_by-change f rest rest' key none (λ k differs. others (suc k) (λ same. differs (omega arith))))

-- a sum that is at most the other at each key is at most the other
pub sum_by-le : {X : Type 0} (f g : Option X → ℕ) (slots : List (Option X)) → ((key : ℕ) → f (get_or slots key None) ≤ g (get_or slots key None)) → sum_by f slots ≤ sum_by g slots
sum_by-le f g [] within = omega arith
sum_by-le f g (slot ∷ rest) within =
    omega (arith, sum_by-cons f slot rest, sum_by-cons g slot rest, within 0, sum_by-le f g rest (λ key. within (suc key)))

-- and where it is less at one key, it is less by as much
pub sum_by-gap :
    {X : Type 0} (f g : Option X → ℕ) (slots : List (Option X)) (key : ℕ) → f None ≡ 0 → g None ≡ 0
    → ((other : ℕ) → f (get_or slots other None) ≤ g (get_or slots other None))
    → sum_by f slots + g (get_or slots key None) ≤ sum_by g slots + f (get_or slots key None)
sum_by-gap f g [] key f_none g_none within = omega (arith, f_none, g_none)
sum_by-gap f g (slot ∷ rest) zero f_none g_none within =
    omega (arith, sum_by-cons f slot rest, sum_by-cons g slot rest, sum_by-le f g rest (λ key. within (suc key)))
sum_by-gap f g (slot ∷ rest) (suc key) f_none g_none within =
    omega (arith, sum_by-cons f slot rest, sum_by-cons g slot rest, within 0, sum_by-gap f g rest key f_none g_none (λ other. within (suc other)))

-- slots that are all empty have no entries
entries_from-empty : {X : Type 0} (first : ℕ) (slots : List (Option X)) → ((key : ℕ) → get_or slots key None ≡ None) → entries_from first slots ≡ []
entries_from-empty first [] empty = refl
entries_from-empty first (None ∷ rest) empty = entries_from-empty (first + 1) rest (λ key. empty (suc key))
entries_from-empty first (Some x ∷ rest) empty = let wrong = empty 0 in cc

-- slots that agree at each key have the same entries
pub entries_from-same :
    {X : Type 0} (first : ℕ) (old new : List (Option X)) → ((key : ℕ) → get_or new key None ≡ get_or old key None)
    → entries_from first new ≡ entries_from first old
entries_from-same first [] new same = entries_from-empty first new same
entries_from-same first (slot ∷ rest) [] same = sym (entries_from-empty first (slot ∷ rest) (λ key. sym (same key)))
entries_from-same first (None ∷ rest) (None ∷ others) same = entries_from-same (first + 1) rest others (λ key. same (suc key))
entries_from-same first (None ∷ rest) (Some y ∷ others) same = let wrong = same 0 in cc
entries_from-same first (Some x ∷ rest) (None ∷ others) same = let wrong = same 0 in cc
entries_from-same first (Some x ∷ rest) (Some y ∷ others) same =
    let later = entries_from-same (first + 1) rest others (λ key. same (suc key)) in
    let here = same 0 in
    cc
