-- How many strips are listed.
use Rattle.std.proofs.Common.{◌≡◌, ℕ, ◌+◌, ◌<◌, List, [], ◌∷◌, ◌++◌, length, map, append_assoc, sym, ap, ◌∙◌, arith}
use Rattle.std.proofs.lemmas.List.Sums.{sum_by-append, sum_by-cons}
use Rattle.mls_errorplane.specs.Violations.{Violation, strip_count}

abbrev strips_of_one : Violation → ℕ
strips_of_one violation = length violation.strips

-- the strips of one more are too many
pub over-limit :
    (list rest all : List Violation) (violation : Violation) (left limit : ℕ) → list ++ violation ∷ rest ≡ all → strip_count list + left ≡ limit
    → left < length violation.strips → limit < strip_count all
over-limit list rest all violation left limit is fits more =
    omega (arith, ap strip_count is, sum_by-append strips_of_one list (violation ∷ rest), sum_by-cons strips_of_one violation rest, fits, more)

-- with one more they are as many more
pub count-push :
    (list new : List Violation) (violation : Violation) (left rest limit : ℕ) → new ≡ list ++ violation ∷ [] → strip_count list + left ≡ limit
    → rest + length violation.strips ≡ left → strip_count new + rest ≡ limit
count-push list new violation left rest limit pushed fits taken =
    omega (arith, ap strip_count pushed, sum_by-append strips_of_one list (violation ∷ []), sum_by-cons strips_of_one violation [], fits, taken)

-- the list goes on with the next
pub listed-next :
    (f : ℕ → Violation) (list new all : List Violation) (violation : Violation) (n : ℕ) (numbers rest : List ℕ) → numbers ≡ n ∷ rest → new ≡ list ++ violation ∷ []
    → violation ≡ f n → list ++ map f numbers ≡ all → new ++ map f rest ≡ all
listed-next f list new all violation n numbers rest steps pushed is listed =
    ap (λ (xs : List Violation). xs ++ map f rest) pushed ∙ append_assoc list (violation ∷ []) (map f rest)
    ∙ ap (λ (v : Violation). list ++ v ∷ map f rest) is ∙ ap (λ (ns : List ℕ). list ++ map f ns) (sym steps) ∙ listed
