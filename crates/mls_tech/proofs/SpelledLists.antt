-- What the grammar leaves of the tokens: no more than there were, and after a list no comma.
use Rattle.std.proofs.Common.{◌≡◌, ℕ, suc, zero, ◌≤◌, Bool, true, false, if◌then◌else◌, Some, None, List, [], ◌∷◌, length, codes, refl, arith}
use Rattle.std.specs.Option.{option_and_then, option_map}
use Rattle.mls_tech.specs.Names.{is_name}
use Rattle.mls_text.specs.Words.{same_word}
use Rattle.mls_tech.specs.TypeLists.{Token, Comma, Slash, Tilde, Opening, Closing, Word, TypeList, Nothing, Named, AllBut, Both, OnPlane, Spelled, Term, WholeList, Part, spelled, closed, spelled_on_plane, at_comma, after_first, word_term}

-- no more tokens are left than there were
abbrev pub IsShorter : ℕ → Spelled → Type 0
IsShorter n None = Unit {0}
IsShorter n (Some found) = length found.1 ≤ n

-- after a list there is no comma
abbrev pub NoComma : Spelled → Type 0
NoComma None = Unit {0}
NoComma (Some found) = at_comma found ≡ false

if-shorter : (n : ℕ) (b : Bool) (found other : Spelled) → IsShorter n found → IsShorter n other → IsShorter n (if b then found else other)
if-shorter n true found other h i = h
if-shorter n false found other h i = i

word_term-shorter : (word : List ℕ) (tokens : List Token) → IsShorter (suc (length tokens)) (word_term word tokens)
word_term-shorter word tokens =
    if-shorter _ (same_word word (codes "0")) (Some (Nothing, tokens)) (if is_name word then Some (Named word, tokens) else None) (omega arith)
    (if-shorter _ (is_name word) (Some (Named word, tokens)) None (omega arith) tt)

pub spelled_on_plane-shorter : (n : ℕ) (term : Spelled) → IsShorter n term → IsShorter n (option_and_then spelled_on_plane term)
spelled_on_plane-shorter n None h = tt
spelled_on_plane-shorter n (Some (term, [])) h = h
spelled_on_plane-shorter n (Some (term, (Slash ∷ []))) h = tt
spelled_on_plane-shorter n (Some (term, (Slash ∷ Word plane ∷ tokens))) h =
    if-shorter n (is_name plane) (Some (OnPlane term plane, tokens)) None (omega (arith, h)) tt
spelled_on_plane-shorter n (Some (term, (Slash ∷ token ∷ tokens))) h = tt
spelled_on_plane-shorter n (Some (term, (token ∷ tokens))) h = h

closed-shorter : (n : ℕ) (list : Spelled) → IsShorter n list → IsShorter (suc n) (option_and_then closed list)
closed-shorter n None h = tt
closed-shorter n (Some (list, [])) h = tt
closed-shorter n (Some (list, (Closing ∷ tokens))) h = omega (arith, h)
closed-shorter n (Some (list, (token ∷ tokens))) h = tt

mapped-shorter : (n m : ℕ) (f : TypeList → TypeList) (found : Spelled) → n ≤ m → IsShorter n found → IsShorter m (option_map (λ found. (f found.0, found.1)) found)
mapped-shorter n m f None within h = tt
mapped-shorter n m f (Some (list, tokens)) within h = omega (arith, h)

-- what a list goes on with after an item
abbrev pub more_items : ℕ → TypeList × List Token → Spelled
more_items n item = if at_comma item then option_map (λ others. (Both item.0 others.0, others.1)) (spelled n WholeList (after_first item.1)) else Some item

more_items-shorter : (n m : ℕ) → ((tokens : List Token) → IsShorter (length tokens) (spelled n WholeList tokens)) → (item : Spelled) → IsShorter m item → IsShorter m (option_and_then (more_items n) item)
more_items-shorter n m ih None h = tt
more_items-shorter n m ih (Some (item, [])) h = h
more_items-shorter n m ih (Some (item, (Comma ∷ tokens))) h = mapped-shorter (length tokens) m (Both item) _ (omega (arith, h)) (ih tokens)
more_items-shorter n m ih (Some (item, (token ∷ tokens))) h = h

pub spelled-shorter : (n : ℕ) (part : Part) (tokens : List Token) → IsShorter (length tokens) (spelled n part tokens)
unfolding spelled
spelled-shorter zero part tokens = tt
spelled-shorter (suc n) Term [] = tt
spelled-shorter (suc n) Term (Word word ∷ tokens) = word_term-shorter word tokens
spelled-shorter (suc n) Term (Tilde ∷ tokens) = mapped-shorter (length tokens) _ AllBut (spelled n Term tokens) (omega arith) (spelled-shorter n Term tokens)
spelled-shorter (suc n) Term (Opening ∷ tokens) = closed-shorter (length tokens) (spelled n WholeList tokens) (spelled-shorter n WholeList tokens)
spelled-shorter (suc n) Term (token ∷ tokens) = tt
spelled-shorter (suc n) WholeList tokens =
    more_items-shorter n (length tokens) (spelled-shorter n WholeList) _ (spelled_on_plane-shorter (length tokens) (spelled n Term tokens) (spelled-shorter n Term tokens))

mapped-no_comma : (f : TypeList → TypeList) (found : Spelled) → NoComma found → NoComma (option_map (λ found. (f found.0, found.1)) found)
mapped-no_comma f None h = tt
mapped-no_comma f (Some (list, [])) h = refl
mapped-no_comma f (Some (list, (Comma ∷ tokens))) h = h
mapped-no_comma f (Some (list, (token ∷ tokens))) h = refl

more_items-no_comma : (n : ℕ) → ((tokens : List Token) → NoComma (spelled n WholeList tokens)) → (item : Spelled) → NoComma (option_and_then (more_items n) item)
more_items-no_comma n ih None = tt
more_items-no_comma n ih (Some (item, [])) = refl
more_items-no_comma n ih (Some (item, (Comma ∷ tokens))) = mapped-no_comma (Both item) _ (ih tokens)
more_items-no_comma n ih (Some (item, (token ∷ tokens))) = refl

pub spelled-no_comma : (n : ℕ) (tokens : List Token) → NoComma (spelled n WholeList tokens)
unfolding spelled
spelled-no_comma zero tokens = tt
spelled-no_comma (suc n) tokens = more_items-no_comma n (spelled-no_comma n) (option_and_then spelled_on_plane (spelled n Term tokens))
