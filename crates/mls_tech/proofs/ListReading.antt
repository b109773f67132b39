-- Reading a list token by token goes over exactly what the grammar spells at the front, and gains its set.
use Rattle.std.proofs.Common.{◌≡◌, ℕ, suc, zero, ◌+◌, ◌*◌, ◌<◌, Bool, true, false, if◌then◌else◌, Option, Some, None, Result, Ok, List, [], ◌∷◌, length, codes, refl, sym, ◌∙◌, arith}
use Rattle.std.specs.Option.{option_and_then, option_map}
use Rattle.mls_tech.specs.Names.{is_name}
use Rattle.mls_text.specs.Words.{same_word}
use Rattle.mls_tech.specs.TypeLists.{Scope, Token, Comma, Slash, Tilde, Opening, Closing, Word, TypeList, AllBut, Both, Spelled, Term, WholeList, spelled, closed, spelled_on_plane, word_term, or_fault, ◌>>=◌, whole, list_in, types_of, types_spelled, bits_in, tokens_of}
use Rattle.mls_kinds.specs.KindSets.{set_of}
use Rattle.mls_kinds.specs.KindSets.{union, difference}
use Rattle.mls_tech.specs.Inner.ListReaders.{reader, tilde_more, after_tildes, first_fault, step, finish, at_first}
use Rattle.mls_tech.specs.declared.fault.TechFaultKind.{TechFaultKind}
use Rattle.mls_tech.specs.declared.fault.TechFaultKind.TheVariants.{BadList}
use Rattle.mls_tech.specs.declared.list_reader.Tildes.{Tildes}
use Rattle.mls_tech.specs.declared.list_reader.Tildes.TheVariants.{NoTilde, Odd, Even}
use Rattle.mls_tech.specs.declared.list_reader.Position.TheVariants.{BeforeTerm, AfterTerm, AfterItem}
use Rattle.mls_tech.specs.declared.list_reader.OuterList.{OuterList}
use Rattle.mls_kinds.proofs.KindSetLemmas.{union_assoc, union_none, difference_thrice}
use Rattle.mls_tech.proofs.ReaderLemmas.{read_from}
use Rattle.mls_tech.proofs.SpelledLists.{IsShorter, NoComma, more_items, spelled-shorter, spelled-no_comma, spelled_on_plane-shorter}
use Rattle.mls_tech.proofs.ListSets.{set_in, unknown_in, set_in-lt, types_of-is}

first_fault-assoc : (a b c : Option TechFaultKind) → first_fault (first_fault a b) c ≡ first_fault a (first_fault b c)
first_fault-assoc None b c = refl
first_fault-assoc (Some fault) b c = refl

first_fault-none : (fault : Option TechFaultKind) → first_fault fault None ≡ fault
first_fault-none None = refl
first_fault-none (Some fault) = refl

tilde_applied : (all : ℕ) (tildes : Tildes) (set : ℕ) → after_tildes all (tilde_more tildes) set ≡ after_tildes all tildes (difference all set)
tilde_applied all NoTilde set = refl
tilde_applied all Odd set = refl
tilde_applied all Even set = sym (difference_thrice all set)

union_first : (scope : Scope) (list : TypeList) → union 0 (set_in scope list) ≡ set_in scope list
union_first scope list = union_none _ (set_in-lt scope list)

bind_if : {A B R : Type 0} (b : Bool) (x : A) (y : B) (f : A → Result R TechFaultKind) (g : B → Result R TechFaultKind) → f x ≡ g y →
    (or_fault BadList (if b then Some x else None) >>= f) ≡ (or_fault BadList (if b then Some y else None) >>= g)
bind_if true x y f g e = e
bind_if false x y f g e = refl

bind_ifs : {A B R : Type 0} (b c : Bool) (x x' : A) (y y' : B) (f : A → Result R TechFaultKind) (g : B → Result R TechFaultKind) → f x ≡ g y → f x' ≡ g y' →
    (or_fault BadList (if b then Some x else (if c then Some x' else None)) >>= f) ≡ (or_fault BadList (if b then Some y else (if c then Some y' else None)) >>= g)
bind_ifs true c x x' y y' f g e e' = e
bind_ifs false c x x' y y' f g e e' = bind_if c x' y' f g e'

module _ (scope : Scope) (room : ℕ) where
  -- what the reader gives once it went over a term
  term_gives : List OuterList → ℕ → Tildes → Option TechFaultKind → TypeList × List Token → Result ℕ TechFaultKind
  term_gives outer items tildes unknown found =
      read_from scope (reader room outer items (AfterTerm (after_tildes (set_of scope.is_type) tildes (set_in scope found.0))) (first_fault unknown (unknown_in scope found.0))) found.1

  -- and over a list, or the items of one
  list_gives : List OuterList → ℕ → Option TechFaultKind → TypeList × List Token → Result ℕ TechFaultKind
  list_gives outer items unknown found =
      read_from scope (reader room outer (union items (set_in scope found.0)) AfterItem (first_fault unknown (unknown_in scope found.0))) found.1

  ReadsTerm : ℕ → Type 0
  ReadsTerm n = (tokens : List Token) → 2 * length tokens < n → (outer : List OuterList) (items : ℕ) (tildes : Tildes) (unknown : Option TechFaultKind) →
      read_from scope (reader room outer items (BeforeTerm tildes) unknown) tokens ≡ (or_fault BadList (spelled n Term tokens) >>= term_gives outer items tildes unknown)

  ReadsList : ℕ → Type 0
  ReadsList n = (tokens : List Token) → 2 * length tokens + 1 < n → (outer : List OuterList) (items : ℕ) (unknown : Option TechFaultKind) →
      read_from scope (reader room outer items (BeforeTerm NoTilde) unknown) tokens ≡ (or_fault BadList (spelled n WholeList tokens) >>= list_gives outer items unknown)

  -- a plane may follow a term
  plane_read : (outer : List OuterList) (items : ℕ) (unknown : Option TechFaultKind) (term : TypeList) (tokens : List Token) →
      term_gives outer items NoTilde unknown (term, tokens) ≡ (or_fault BadList (spelled_on_plane (term, tokens)) >>= list_gives outer items unknown)
  unfolding read_from step finish term_gives list_gives
  plane_read outer items unknown term [] = refl
  plane_read outer items unknown term (Slash ∷ []) = refl
  plane_read outer items unknown term (Slash ∷ Word plane ∷ tokens) = bind_if (is_name plane) _ _ _ _ (rw first_fault-assoc)
  plane_read outer items unknown term (Slash ∷ token ∷ tokens) = refl
  plane_read outer items unknown term (token ∷ tokens) = refl

  -- where the items after a comma are a list, so are they with an item before them
  both_gives : (n : ℕ) (outer : List OuterList) (items : ℕ) (unknown : Option TechFaultKind) (item : TypeList) (others : Spelled) →
      (or_fault BadList others >>= list_gives outer (union items (set_in scope item)) (first_fault unknown (unknown_in scope item)))
      ≡ (or_fault BadList (option_map (λ others. (Both item others.0, others.1)) others) >>= list_gives outer items unknown)
  unfolding list_gives
  both_gives n outer items unknown item None = refl
  both_gives n outer items unknown item (Some (others, tokens)) = rw (union_assoc, first_fault-assoc)

  items_read : (n m : ℕ) → ReadsList n → 2 * m < n → (outer : List OuterList) (items : ℕ) (unknown : Option TechFaultKind) (item : Spelled) → IsShorter m item →
      (or_fault BadList item >>= list_gives outer items unknown) ≡ (or_fault BadList (option_and_then (more_items n) item) >>= list_gives outer items unknown)
  unfolding ReadsList read_from step list_gives
  items_read n m reads enough outer items unknown None short = refl
  items_read n m reads enough outer items unknown (Some (item, [])) short = refl
  items_read n m reads enough outer items unknown (Some (item, (Comma ∷ tokens))) short =
      reads tokens (omega (arith, short)) outer _ _ ∙ both_gives n outer items unknown item (spelled n WholeList tokens)
  items_read n m reads enough outer items unknown (Some (item, (token ∷ tokens))) short = refl

  -- the plane of each term that is spelled
  planes_read : (outer : List OuterList) (items : ℕ) (unknown : Option TechFaultKind) (term : Spelled) →
      (or_fault BadList term >>= term_gives outer items NoTilde unknown) ≡ (or_fault BadList (option_and_then spelled_on_plane term) >>= list_gives outer items unknown)
  planes_read outer items unknown None = refl
  planes_read outer items unknown (Some (term, tokens)) = plane_read outer items unknown term tokens

  list_read : (n : ℕ) → ReadsTerm n → ReadsList n → ReadsList (suc n)
  unfolding ReadsTerm ReadsList spelled
  list_read n reads_term reads_list tokens enough outer items unknown =
      reads_term tokens (omega arith) outer items NoTilde unknown ∙ planes_read outer items unknown (spelled n Term tokens)
      ∙ items_read n (length tokens) reads_list (omega arith) outer items unknown (option_and_then spelled_on_plane (spelled n Term tokens)) (spelled_on_plane-shorter _ _ (spelled-shorter n Term tokens))

  -- a list in parentheses, and the one parenthesis that closes it
  closing_read : (outer : List OuterList) (items : ℕ) (tildes : Tildes) (unknown : Option TechFaultKind) (list : Spelled) → NoComma list →
      (or_fault BadList list >>= list_gives (record { items = items; tildes = tildes } ∷ outer) 0 unknown) ≡ (or_fault BadList (option_and_then closed list) >>= term_gives outer items tildes unknown)
  unfolding read_from step finish term_gives list_gives
  closing_read outer items tildes unknown None ends = refl
  closing_read outer items tildes unknown (Some (list, [])) ends = refl
  closing_read outer items tildes unknown (Some (list, (Closing ∷ tokens))) ends = rw union_first
  closing_read outer items tildes unknown (Some (list, (Comma ∷ tokens))) ends = cc
  closing_read outer items tildes unknown (Some (list, (token ∷ tokens))) ends = refl

  tilde_read : (outer : List OuterList) (items : ℕ) (tildes : Tildes) (unknown : Option TechFaultKind) (term : Spelled) →
      (or_fault BadList term >>= term_gives outer items (tilde_more tildes) unknown) ≡ (or_fault BadList (option_map (λ found. (AllBut found.0, found.1)) term) >>= term_gives outer items tildes unknown)
  unfolding term_gives
  tilde_read outer items tildes unknown None = refl
  tilde_read outer items tildes unknown (Some (term, tokens)) = rw (tilde_applied (set_of scope.is_type) tildes (set_in scope term))

  word_read : (outer : List OuterList) (items : ℕ) (tildes : Tildes) (unknown : Option TechFaultKind) (word : List ℕ) (tokens : List Token) →
      read_from scope (reader room outer items (BeforeTerm tildes) unknown) (Word word ∷ tokens) ≡ (or_fault BadList (word_term word tokens) >>= term_gives outer items tildes unknown)
  unfolding read_from step term_gives
  word_read outer items tildes unknown word tokens =
      bind_ifs (same_word word (codes "0")) (is_name word) _ _ _ _ _ _ (rw first_fault-none) refl

  term_read : (n : ℕ) → ReadsTerm n → ReadsList n → ReadsTerm (suc n)
  unfolding ReadsTerm ReadsList spelled read_from step finish
  term_read n reads_term reads_list [] enough outer items tildes unknown = refl
  term_read n reads_term reads_list (Word word ∷ tokens) enough outer items tildes unknown = word_read outer items tildes unknown word tokens
  term_read n reads_term reads_list (Tilde ∷ tokens) enough outer items tildes unknown =
      reads_term tokens (omega arith) outer items (tilde_more tildes) unknown ∙ tilde_read outer items tildes unknown (spelled n Term tokens)
  term_read n reads_term reads_list (Opening ∷ tokens) enough outer items tildes unknown =
      reads_list tokens (omega arith) _ 0 unknown ∙ closing_read outer items tildes unknown (spelled n WholeList tokens) (spelled-no_comma n tokens)
  term_read n reads_term reads_list (token ∷ tokens) enough outer items tildes unknown = refl

  both_read : (n : ℕ) → ReadsTerm n × ReadsList n
  unfolding ReadsTerm ReadsList
  both_read zero = (λ tokens enough outer items tildes unknown. absurd (omega arith), λ tokens enough outer items unknown. absurd (omega arith))
  both_read (suc n) = (term_read n (both_read n).0 (both_read n).1, list_read n (both_read n).0 (both_read n).1)

  -- at the end of the word only a whole list is one
  whole_read : (list : Spelled) → NoComma list →
      (or_fault BadList list >>= list_gives [] 0 None) ≡ ((or_fault BadList (option_and_then whole list) >>= types_of scope) >>= λ set. Ok (set_of set))
  unfolding read_from step finish list_gives
  whole_read None ends = refl
  whole_read (Some (list, [])) ends = rw union_first (sym (types_of-is scope list))
  whole_read (Some (list, (Comma ∷ tokens))) ends = cc
  whole_read (Some (list, (token ∷ tokens))) ends = refl

  pub read_from-is_bits_in : (word : List ℕ) → read_from scope (at_first room) (tokens_of word) ≡ bits_in scope word
  unfolding bits_in types_spelled list_in ReadsList
  read_from-is_bits_in word =
      let n : ℕ = 2 * length (tokens_of word) + 2 in
      (both_read n).1 (tokens_of word) (omega arith) [] 0 None ∙ whole_read (spelled n WholeList (tokens_of word)) (spelled-no_comma n (tokens_of word))
