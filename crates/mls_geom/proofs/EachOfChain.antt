-- What holds of each piece of a chain.
use Rattle.std.proofs.Common.{ℕ, nat_lt, nat_le, ◌==◌, Bool, true, false, if◌then◌else◌, List, [], ◌∷◌, ◌++◌}
use Rattle.mls_geom.proofs.Definitions.{Each, linked, outliving, stepped, unlinked, Step, Begins, Ends}

-- what holds of each piece of joined lists holds of each of the second one
pub Each-right : (P : ℕ → Type 0) (front rest : List ℕ) → Each P (front ++ rest) → Each P rest
Each-right P [] rest each = each
Each-right P (piece ∷ front) rest each = Each-right P front rest each.1

-- what follows from what holds of each piece
pub Each-weaker : (P Q : ℕ → Type 0) (chain : List ℕ) → ((piece : ℕ) → P piece → Q piece) → Each P chain → Each Q chain
Each-weaker P Q [] weaker each = record {}
Each-weaker P Q (piece ∷ rest) weaker each = (weaker piece each.0, Each-weaker P Q rest weaker each.1)

-- and from two facts of each
pub Each-both : {P Q R : ℕ → Type 0} (chain : List ℕ) → ((i : ℕ) → P i → Q i → R i) → Each P chain → Each Q chain → Each R chain
Each-both [] both one other = tt
Each-both (piece ∷ rest) both (here, one) (there, other) = (both piece here there, Each-both rest both one other)

-- what holds of all pieces holds of each of a chain
pub Each-always : (P : ℕ → Type 0) (chain : List ℕ) → ((piece : ℕ) → P piece) → Each P chain
Each-always P [] always = record {}
Each-always P (piece ∷ rest) always = (always piece, Each-always P rest always)

-- what holds of two chains holds of the one that a test chooses
pub either : (P : List ℕ → Type 0) (b : Bool) (one other : List ℕ) → P one → P other → P (if b then one else other)
either P true one other left right = left
either P false one other left right = right

-- what each chain passes on to the rest under its topmost piece holds of those that outlive a piece
pub outliving-passed :
    (P : List ℕ → Type 0) → ((over : ℕ) (rest : List ℕ) → P (over ∷ rest) → P rest) → (ends : ℕ → ℕ) (piece : ℕ) (chain : List ℕ) → P chain → P (outliving ends piece chain)
outliving-passed P pass ends piece [] held = held
outliving-passed P pass ends piece (under ∷ rest) held =
    either P (nat_le (ends under) (ends piece)) (outliving ends piece rest) (under ∷ rest) (outliving-passed P pass ends piece rest (pass under rest held)) held

-- and of the chain where the piece is unlinked
pub unlinked-passed : (P : List ℕ → Type 0) → ((over : ℕ) (rest : List ℕ) → P (over ∷ rest) → P rest) → (piece : ℕ) (chain : List ℕ) → P chain → P (unlinked piece chain)
unlinked-passed P pass piece [] held = held
unlinked-passed P pass piece (top ∷ rest) held = either P (top == piece) rest (top ∷ rest) (pass top rest held) held

-- so what holds of each piece of a chain holds of each that outlives one
pub Each-outliving : (ends : ℕ → ℕ) (P : ℕ → Type 0) (piece : ℕ) (chain : List ℕ) → Each P chain → Each P (outliving ends piece chain)
Each-outliving ends P = outliving-passed (Each P) (λ over rest each. each.1) ends

-- what holds of the piece and of each of a chain holds of each where the piece is linked
pub Each-linked : (ends : ℕ → ℕ) (P : ℕ → Type 0) (piece : ℕ) (chain : List ℕ) → P piece → Each P chain → Each P (linked ends piece chain)
Each-linked ends P piece [] new each = (new, record {})
Each-linked ends P piece (over ∷ rest) new each =
    let under = Each-linked ends P piece rest new each.1 in
    either (Each P) (nat_lt piece over) _ _ (either (Each P) (nat_le (ends piece) (ends over)) (over ∷ rest) (over ∷ linked ends piece rest) each (each.0, under))
    (new, Each-outliving ends P piece (over ∷ rest) each)

-- what holds of the piece and of each of a chain holds of each once the piece begins or ends
pub Each-stepped : (step : Step) (ends : ℕ → ℕ) (P : ℕ → Type 0) (piece : ℕ) (chain : List ℕ) → P piece → Each P chain → Each P (stepped step ends piece chain)
Each-stepped Begins ends P piece chain here each = Each-linked ends P piece chain here each
Each-stepped Ends ends P piece chain here each = unlinked-passed (Each P) (λ over rest each. each.1) piece chain each
