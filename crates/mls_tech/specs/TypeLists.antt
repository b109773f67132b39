-- Lists of types, as rules spell them: a set of types. This project's own spelling and meaning:
--     list = item { "," item }      item = term [ "/" plane ]      term = "0" | name | "~" term | "(" list ")"
-- Commas unite, 0 is no type, ~ means all types that aren't in the term, and /plane keeps those of the plane, of which space is one.
use Rattle.std.specs.Prelude.{ℕ, suc, zero, ◌+◌, ◌*◌, ◌==◌, Bool, true, false, not, ◌||◌, ◌&&◌, if◌then◌else◌, Option, Some, None, Result, Ok, Err, List, [], ◌∷◌, length, codes}
use Rattle.std.specs.Option.{option_and_then, option_map}
use Rattle.mls_kinds.specs.KindSets.{set_of}
use Rattle.mls_tech.specs.Names.{is_name}
use Rattle.mls_text.specs.Words.{same_word}
use Rattle.mls_tech.specs.declared.fault.TechFaultKind.{TechFaultKind}
use Rattle.mls_tech.specs.declared.fault.TechFaultKind.TheVariants.{UnknownPlane, UnknownType, BadList}

-- ---- tokens
pub data Token : Type 0 where
  Comma : Token
  Slash : Token
  Tilde : Token
  Opening : Token
  Closing : Token
  Word : (bytes : List ℕ) → Token

-- the tokens with a byte at the beginning of the word that they begin with
abbrev pub onto_word : ℕ → List Token → List Token
onto_word b (Word bytes ∷ tokens) = Word (b ∷ bytes) ∷ tokens
onto_word b tokens = Word (b ∷ []) ∷ tokens

abbrev pub token_onto : ℕ → List Token → List Token
token_onto b tokens =
    if b == 44 then Comma ∷ tokens
    else (if b == 47 then Slash ∷ tokens
    else (if b == 126 then Tilde ∷ tokens
    else (if b == 40 then Opening ∷ tokens
    else (if b == 41 then Closing ∷ tokens
    else onto_word b tokens))))

abbrev pub tokens_of : List ℕ → List Token
tokens_of [] = []
tokens_of (b ∷ bytes) = token_onto b (tokens_of bytes)

-- ---- spelling
pub data TypeList : Type 0 where
  Nothing : TypeList
  Named : (name : List ℕ) → TypeList
  AllBut : (term : TypeList) → TypeList
  Both : (first others : TypeList) → TypeList
  OnPlane : (term : TypeList) → (plane : List ℕ) → TypeList

-- what is spelled at the front, and the tokens after it
abbrev pub Spelled : Type 0
Spelled = Option (TypeList × List Token)

abbrev pub word_term : List ℕ → List Token → Spelled
word_term word tokens = if same_word word (codes "0") then Some (Nothing, tokens) else (if is_name word then Some (Named word, tokens) else None)

-- a list and its closing parenthesis
abbrev pub closed : TypeList × List Token → Spelled
closed (list, (Closing ∷ tokens)) = Some (list, tokens)
closed (list, tokens) = None

-- a term, and the plane that may follow it
abbrev pub spelled_on_plane : TypeList × List Token → Spelled
spelled_on_plane (term, (Slash ∷ Word plane ∷ tokens)) = if is_name plane then Some (OnPlane term plane, tokens) else None
spelled_on_plane (term, (Slash ∷ tokens)) = None
spelled_on_plane (term, tokens) = Some (term, tokens)

abbrev pub at_comma : TypeList × List Token → Bool
at_comma (item, (Comma ∷ tokens)) = true
at_comma (item, tokens) = false

abbrev pub after_first : List Token → List Token
after_first [] = []
after_first (token ∷ tokens) = tokens

pub data Part : Type 0 where
  Term : Part
  WholeList : Part

-- a term or a list at the front, spelled within n steps
unfoldable pub spelled : ℕ → Part → List Token → Spelled
spelled zero part tokens = None
spelled (suc n) Term [] = None
spelled (suc n) Term (Word word ∷ tokens) = word_term word tokens
spelled (suc n) Term (Tilde ∷ tokens) = option_map (λ found. (AllBut found.0, found.1)) (spelled n Term tokens)
spelled (suc n) Term (Opening ∷ tokens) = option_and_then closed (spelled n WholeList tokens)
spelled (suc n) Term (token ∷ tokens) = None
spelled (suc n) WholeList tokens =
    option_and_then (λ item. if at_comma item then option_map (λ others. (Both item.0 others.0, others.1)) (spelled n WholeList (after_first item.1)) else Some item)
    (option_and_then spelled_on_plane (spelled n Term tokens))

-- the list that the whole word spells: two steps for each token are enough
abbrev pub whole : TypeList × List Token → Option TypeList
whole (list, []) = Some list
whole (list, (token ∷ tokens)) = None

unfoldable pub list_in : List ℕ → Option TypeList
list_in word = option_and_then whole (spelled (2 * length (tokens_of word) + 2) WholeList (tokens_of word))

-- ---- meaning
-- what names mean so far, and which types there are and on which planes they lie
pub record Scope : Type 0 where
  pub type_of : List ℕ → Option ℕ
  pub plane_of : List ℕ → Option ℕ
  pub is_type : ℕ → Bool
  pub lies_on : ℕ → ℕ → Bool

abbrev pub TypeTest : Type 0
TypeTest = ℕ → Bool

infixl 10 ◌>>=◌
abbrev pub ◌>>=◌ : {A B : Type 0} → Result A TechFaultKind → (A → Result B TechFaultKind) → Result B TechFaultKind
(Ok x) >>= f = f x
(Err e) >>= f = Err e

abbrev pub or_fault : {A : Type 0} → TechFaultKind → Option A → Result A TechFaultKind
or_fault fault None = Err fault
or_fault fault (Some x) = Ok x

-- the set of a list, or the leftmost name that isn't known
unfoldable pub types_of : Scope → TypeList → Result TypeTest TechFaultKind
types_of scope Nothing = Ok (λ kind. false)
types_of scope (Named name) = or_fault UnknownType (scope.type_of name) >>= λ known. Ok (λ kind. kind == known)
types_of scope (AllBut term) = types_of scope term >>= λ set. Ok (λ kind. scope.is_type kind && not (set kind))
types_of scope (Both first others) = types_of scope first >>= λ xs. types_of scope others >>= λ ys. Ok (λ kind. xs kind || ys kind)
types_of scope (OnPlane term plane) = types_of scope term >>= λ set. or_fault UnknownPlane (scope.plane_of plane) >>= λ known. Ok (λ kind. set kind && scope.lies_on known kind)

-- the set that a word spells, where a fault of its spelling comes first
unfoldable pub types_spelled : Scope → List ℕ → Result TypeTest TechFaultKind
types_spelled scope word = or_fault BadList (list_in word) >>= types_of scope

-- the set that a word spells, as a number whose bit k is 1 for each type k
unfoldable pub bits_in : Scope → List ℕ → Result ℕ TechFaultKind
bits_in scope word = types_spelled scope word >>= λ set. Ok (set_of set)
