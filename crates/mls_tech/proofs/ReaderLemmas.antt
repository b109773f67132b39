-- What reading on gives, and what one token does to it and to the room for lists that are open.
use Rattle.std.proofs.Common.{◌≡◌, ◌≤◌, ◌+◌, ◌==◌, ℕ, Bool, true, false, if◌then◌else◌, Option, Some, None, Result, Err, List, [], ◌<◌, ◌∷◌, All, length, get_or, take, max, codes, refl, sym, ap, ◌∙◌, arith, ⊎_elim, subst}
use Rattle.std.proofs.lemmas.Bool.{cases_eq, ne_eqb}
use Rattle.std.specs.Borrow.{Bor}
use Rattle.std.proofs.Math.Nat.{le-max_left, le-max_right}
use Rattle.std.proofs.lemmas.List.{take_more}
use Rattle.std.proofs.lemmas.List.Elements.{All-push, All-weaker}
use Rattle.std.proofs.lemmas.List.Sums.{sum_by-cons}
use Rattle.mls_tech.proofs.TokenLemmas.{onto_by}
use Rattle.mls_tech.specs.Names.{is_name}
use Rattle.mls_tech.specs.TypeLists.{Scope, Token, Comma, Slash, Tilde, Opening, Closing, Word, or_fault, ◌>>=◌, token_onto, onto_word, tokens_of}
use Rattle.mls_text.specs.Words.{same_word}
use Rattle.mls_tech.specs.Inner.ListReaders.{Reader, HasRoom, openings, noting, named_set, plane_set, with_term, with_item, closing_step, item_step, step_at, step, finish}
use Rattle.mls_tech.specs.declared.list_reader.Position.{Position}
use Rattle.mls_tech.specs.declared.list_reader.Position.TheVariants.{BeforeTerm, AfterTerm, BeforePlane, AfterItem}
use Rattle.mls_tech.specs.declared.list_reader.OuterList.{OuterList}
use Rattle.mls_tech.specs.declared.fault.TechFaultKind.{TechFaultKind}
use Rattle.mls_tech.specs.declared.fault.TechFaultKind.TheVariants.{UnknownPlane, UnknownType, BadList}

-- what reading the tokens from here on gives
unfoldable pub read_from : Scope → Reader → List Token → Result ℕ TechFaultKind
read_from scope r [] = finish r
read_from scope r (token ∷ tokens) = or_fault BadList (step scope r token) >>= λ next. read_from scope next tokens

-- what reading on gives stays the same over a token; at a token that is not allowed, and at the end, it is the result
module _ (scope : Scope) (r : Reader) {left : List Token} {told : Result ℕ TechFaultKind} where
  stepped : {token : Token} {tokens : List Token} (next : Option Reader) → read_from scope r left ≡ told → left ≡ token ∷ tokens → step scope r token ≡ next →
      (or_fault BadList next >>= λ next. read_from scope next tokens) ≡ told
  unfolding read_from
  stepped {tokens} next reads first step_is =
      sym (ap (read_from scope r) first ∙ ap (λ found. or_fault BadList found >>= λ next. read_from scope next tokens) step_is) ∙ reads

  pub at_token : {token : Token} {tokens : List Token} {next : Reader} → read_from scope r left ≡ told → left ≡ token ∷ tokens → step scope r token ≡ Some next → read_from scope next tokens ≡ told
  at_token {next} reads first step_is = stepped (Some next) reads first step_is

  pub at_bad : {token : Token} {tokens : List Token} {fault : TechFaultKind} {result : Result ℕ TechFaultKind} →
      read_from scope r left ≡ told → left ≡ token ∷ tokens → (fault ≡ BadList) × (step scope r token ≡ None) → result ≡ Err fault → result ≡ told
  at_bad reads first bad fails = fails ∙ ap Err bad.0 ∙ stepped None reads first bad.1

  pub at_end : {result : Result ℕ TechFaultKind} → read_from scope r left ≡ told → left ≡ [] → result ≡ finish r → result ≡ told
  unfolding read_from
  at_end reads none finishes = finishes ∙ sym (ap (read_from scope r) none) ∙ reads

-- ---- room for the lists that are open
-- one where the token opens a list
abbrev pub opens : Token → ℕ
opens Opening = 1
opens token = 0

-- how many of the tokens open a list
abbrev pub opening_tokens : List Token → ℕ
opening_tokens [] = 0
opening_tokens (token ∷ tokens) = opens token + opening_tokens tokens

-- those are the parentheses of the word
onto_word-opening_tokens : (b : ℕ) (tokens : List Token) → opening_tokens (onto_word b tokens) ≡ opening_tokens tokens
onto_word-opening_tokens b [] = omega arith
onto_word-opening_tokens b (Word bytes ∷ tokens) = refl
onto_word-opening_tokens b (Comma ∷ tokens) = omega arith
onto_word-opening_tokens b (Slash ∷ tokens) = omega arith
onto_word-opening_tokens b (Tilde ∷ tokens) = omega arith
onto_word-opening_tokens b (Opening ∷ tokens) = omega arith
onto_word-opening_tokens b (Closing ∷ tokens) = omega arith

onto_by-opening_tokens : (comma slash tilde closing : Bool) (b : ℕ) (tokens : List Token) → opening_tokens (onto_by comma slash tilde false closing b tokens) ≡ 0 + opening_tokens tokens
onto_by-opening_tokens true slash tilde closing b tokens = omega arith
onto_by-opening_tokens false true tilde closing b tokens = omega arith
onto_by-opening_tokens false false true closing b tokens = omega arith
onto_by-opening_tokens false false false true b tokens = omega arith
onto_by-opening_tokens false false false false b tokens = omega (arith, onto_word-opening_tokens b tokens)

token_onto-opening_tokens : (b : ℕ) (tokens : List Token) → opening_tokens (token_onto b tokens) ≡ (if b == 40 then 1 else 0) + opening_tokens tokens
token_onto-opening_tokens b tokens = ⊎_elim
    (λ same. rw same (omega arith))
    (λ other. rw (ne_eqb b 40 other) (onto_by-opening_tokens (b == 44) (b == 47) (b == 126) (b == 41) b tokens))
    (cases_eq b 40)

pub opening_tokens-tokens_of : (word : List ℕ) → opening_tokens (tokens_of word) ≡ openings word
opening_tokens-tokens_of [] = refl
opening_tokens-tokens_of (b ∷ bytes) =
    let more : opening_tokens (tokens_of (b ∷ bytes)) ≡ (if b == 40 then 1 else 0) + opening_tokens (tokens_of bytes) = token_onto-opening_tokens b (tokens_of bytes) in
    more ∙ ap (λ n. (if b == 40 then 1 else 0) + n) (opening_tokens-tokens_of bytes) ∙ sym (sum_by-cons (λ c. if c == 40 then 1 else 0) b bytes)

-- with one word more, none has more of them than the larger number
pub most-more : (words : List (Bor (List ℕ))) (index most count new : ℕ) (d : Bor (List ℕ)) → index < length words → count ≡ openings (get_or words index d).now → new ≡ max count most
    → All (λ word. openings word.now ≤ most) (take index words) → All (λ word. openings word.now ≤ new) (take (index + 1) words)
most-more words index most count new d within counted larger all =
    let here : openings (get_or words index d).now ≤ new = rw (larger, ← counted) (le-max_left count most) in
    let below : most ≤ new = rw larger (le-max_right count most) in
    rw (take_more words index d within)
    (All-push (λ word. openings word.now ≤ new) (take index words) (get_or words index d)
    (All-weaker (λ word. openings word.now ≤ most) (λ word. openings word.now ≤ new) (λ word fewer. omega (arith, below, fewer)) (take index words) all) here)

-- a token finds room for its list
pub has_room : (r : Reader) (token : Token) (tokens : List Token) → length r.outer + opening_tokens (token ∷ tokens) ≤ r.room → HasRoom r token
has_room r Opening tokens fits = omega arith
has_room r token tokens fits = tt

-- no more lists are open than there were, but for one that the token opens
abbrev OpensOne : Reader → ℕ → Option Reader → Type 0
OpensOne r more None = Unit {0}
OpensOne r more (Some next) = (next.room ≡ r.room) × (length next.outer ≤ length r.outer + more)

opens_one-if : (r : Reader) (more : ℕ) (b : Bool) (x y : Option Reader) → OpensOne r more x → OpensOne r more y → OpensOne r more (if b then x else y)
opens_one-if r more true x y h i = h
opens_one-if r more false x y h i = i

module _ (scope : Scope) where
  closing_opens : (r : Reader) (outer : List OuterList) → length outer ≤ length r.outer → OpensOne r 0 (closing_step scope r outer)
  closing_opens r [] fits = tt
  closing_opens r (list ∷ outer) fits = (refl, omega arith)

  item_opens : (r : Reader) (token : Token) → OpensOne r (opens token) (item_step scope r token)
  item_opens r Comma = (refl, omega arith)
  item_opens r Closing = closing_opens r r.outer (omega arith)
  item_opens r token = tt

  step_opens : (r : Reader) (position : Position) (token : Token) → OpensOne r (opens token) (step_at scope r position token)
  step_opens r (BeforeTerm tildes) (Word word) =
      opens_one-if r 0 (same_word word (codes "0")) (Some (with_term scope r tildes 0))
      (if is_name word then Some (with_term scope (noting r (scope.type_of word) UnknownType) tildes (named_set (scope.type_of word))) else None)
      (refl, omega arith)
      (opens_one-if r 0 (is_name word) (Some (with_term scope (noting r (scope.type_of word) UnknownType) tildes (named_set (scope.type_of word)))) None (refl, omega arith) tt)
  step_opens r (BeforeTerm tildes) Tilde = (refl, omega arith)
  step_opens r (BeforeTerm tildes) Opening = (refl, omega arith)
  step_opens r (BeforeTerm tildes) token = tt
  step_opens r (AfterTerm set) Slash = (refl, omega arith)
  step_opens r (AfterTerm set) Comma = item_opens (with_item r set) Comma
  step_opens r (AfterTerm set) Closing = item_opens (with_item r set) Closing
  step_opens r (AfterTerm set) token = tt
  step_opens r (BeforePlane set) (Word word) =
      opens_one-if r 0 (is_name word) (Some (with_item (noting r (scope.plane_of word) UnknownPlane) (plane_set scope set (scope.plane_of word)))) None (refl, omega arith) tt
  step_opens r (BeforePlane set) token = tt
  step_opens r AfterItem token = item_opens r token

  -- after a token there is room for the lists that the tokens after it open
  pub step_room : (r next : Reader) (token : Token) (tokens : List Token) → step scope r token ≡ Some next → length r.outer + opening_tokens (token ∷ tokens) ≤ r.room
      → (next.room ≡ r.room) × (length next.outer + opening_tokens tokens ≤ next.room)
  unfolding step
  step_room r next token tokens steps fits =
      let opened : OpensOne r (opens token) (Some next) = subst (OpensOne r (opens token)) steps (step_opens r r.position token) in
      (opened.0, omega (arith, opened.0, opened.1))
