-- How a type list is read from the left, one token at a time: with a stack of the lists that are open, and so with no recursion on parentheses.
use Rattle.std.specs.Prelude.{ℕ, ◌≡◌, ◌<◌, ◌==◌, if◌then◌else◌, Option, Some, None, Result, Ok, Err, List, [], ◌∷◌, length, count_by, codes}
use Rattle.mls_tech.specs.Names.{is_name}
use Rattle.mls_text.specs.Words.{same_word}
use Rattle.mls_tech.specs.TypeLists.{Scope, Token, Comma, Slash, Tilde, Opening, Closing, Word}
use Rattle.mls_kinds.specs.KindSets.{set_of}
use Rattle.mls_kinds.specs.KindSets.{union, intersection, difference}
use Rattle.mls_tech.specs.declared.fault.TechFaultKind.{TechFaultKind}
use Rattle.mls_tech.specs.declared.fault.TechFaultKind.TheVariants.{UnknownPlane, UnknownType, BadList}
use Rattle.mls_tech.specs.declared.list_reader.Tildes.{Tildes}
use Rattle.mls_tech.specs.declared.list_reader.Tildes.TheVariants.{NoTilde, Odd, Even}
use Rattle.mls_tech.specs.declared.list_reader.Position.{Position}
use Rattle.mls_tech.specs.declared.list_reader.Position.TheVariants.{BeforeTerm, AfterTerm, BeforePlane, AfterItem}
use Rattle.mls_tech.specs.declared.list_reader.OuterList.{OuterList}

-- with one tilde more
abbrev pub tilde_more : Tildes → Tildes
tilde_more NoTilde = Odd
tilde_more Odd = Even
tilde_more Even = Odd

-- the set of a term after its tildes, where `all` has all types
abbrev pub after_tildes : ℕ → Tildes → ℕ → ℕ
after_tildes all NoTilde set = set
after_tildes all Odd set = difference all set
after_tildes all Even set = difference all (difference all set)

-- a reader: how many lists may be open at once; the lists around the one that is read, the innermost first; the union of that list's items; where in
-- it the next token stands; the fault of the first name that isn't known
pub record Reader : Type 0 where
  pub room : ℕ
  pub outer : List OuterList
  pub items : ℕ
  pub position : Position
  pub unknown : Option TechFaultKind

abbrev pub reader : ℕ → List OuterList → ℕ → Position → Option TechFaultKind → Reader
reader room outer items position unknown = record { room = room; outer = outer; items = items; position = position; unknown = unknown }

abbrev pub at_first : ℕ → Reader
at_first room = reader room [] 0 (BeforeTerm NoTilde) None

-- ---- room
-- how many parentheses of a word open a list
abbrev pub openings : List ℕ → ℕ
openings word = count_by (λ b. b == 40) word

-- one more list may be opened, if the token opens one
abbrev pub HasRoom : Reader → Token → Type 0
HasRoom r Opening = length r.outer < r.room
HasRoom r token = Unit {0}

-- ---- names
-- the first of two faults
abbrev pub first_fault : Option TechFaultKind → Option TechFaultKind → Option TechFaultKind
first_fault None other = other
first_fault (Some fault) other = Some fault

abbrev pub fault_unless : Option ℕ → TechFaultKind → Option TechFaultKind
fault_unless None fault = Some fault
fault_unless (Some known) fault = None

-- after a name with this number, if it is known
abbrev pub noting : Reader → Option ℕ → TechFaultKind → Reader
noting r known fault = record r { unknown = first_fault r.unknown (fault_unless known fault) }

-- a type by itself, where an unknown one is no type
abbrev pub named_set : Option ℕ → ℕ
named_set None = 0
named_set (Some known) = set_of (λ kind. kind == known)

-- the types of a set that lie on a plane, where an unknown one has all types
abbrev pub plane_set : Scope → ℕ → Option ℕ → ℕ
plane_set scope set None = set
plane_set scope set (Some known) = intersection set (set_of (scope.lies_on known))

-- ---- steps
-- after a term with this set, without its tildes
abbrev pub with_term : Scope → Reader → Tildes → ℕ → Reader
with_term scope r tildes set = record r { position = AfterTerm (after_tildes (set_of scope.is_type) tildes set) }

-- after an item with this set
abbrev pub with_item : Reader → ℕ → Reader
with_item r set = record r { items = union r.items set; position = AfterItem }

-- after a parenthesis that opens a list
abbrev pub with_list : Reader → Tildes → Reader
with_list r tildes = record r { outer = record { items = r.items; tildes = tildes } ∷ r.outer; items = 0; position = BeforeTerm NoTilde }

abbrev pub word_step : Scope → Reader → Tildes → List ℕ → Option Reader
word_step scope r tildes word =
    if same_word word (codes "0") then Some (with_term scope r tildes 0)
    else (if is_name word then Some (with_term scope (noting r (scope.type_of word) UnknownType) tildes (named_set (scope.type_of word))) else None)

-- where a term is expected
abbrev pub term_step : Scope → Reader → Tildes → Token → Option Reader
term_step scope r tildes (Word word) = word_step scope r tildes word
term_step scope r tildes Tilde = Some (record r { position = BeforeTerm (tilde_more tildes) })
term_step scope r tildes Opening = Some (with_list r tildes)
term_step scope r tildes token = None

-- at a parenthesis that closes a list
abbrev pub closing_step : Scope → Reader → List OuterList → Option Reader
closing_step scope r [] = None
closing_step scope r (list ∷ outer) = Some (with_term scope (record r { outer = outer; items = list.items }) list.tildes r.items)

-- after an item
abbrev pub item_step : Scope → Reader → Token → Option Reader
item_step scope r Comma = Some (record r { position = BeforeTerm NoTilde })
item_step scope r Closing = closing_step scope r r.outer
item_step scope r token = None

-- after a term
abbrev pub after_step : Scope → Reader → ℕ → Token → Option Reader
after_step scope r set Slash = Some (record r { position = BeforePlane set })
after_step scope r set token = item_step scope (with_item r set) token

-- where a plane is expected
abbrev pub plane_step : Scope → Reader → ℕ → Token → Option Reader
plane_step scope r set (Word word) = if is_name word then Some (with_item (noting r (scope.plane_of word) UnknownPlane) (plane_set scope set (scope.plane_of word))) else None
plane_step scope r set token = None

abbrev pub step_at : Scope → Reader → Position → Token → Option Reader
step_at scope r (BeforeTerm tildes) token = term_step scope r tildes token
step_at scope r (AfterTerm set) token = after_step scope r set token
step_at scope r (BeforePlane set) token = plane_step scope r set token
step_at scope r AfterItem token = item_step scope r token

-- the reader after a token, if the token may stand there
unfoldable pub step : Scope → Reader → Token → Option Reader
step scope r token = step_at scope r r.position token

-- the next reader is the new one, or there is none, and the list is a bad one
abbrev pub Advances : Option Reader → Result (Unit {0}) TechFaultKind → Reader → Type 0
Advances next (Ok _) new = next ≡ Some new
Advances next (Err fault) new = (fault ≡ BadList) × (next ≡ None)

-- ---- the end of the word
abbrev pub unless_unknown : Option TechFaultKind → ℕ → Result ℕ TechFaultKind
unless_unknown None set = Ok set
unless_unknown (Some fault) set = Err fault

-- a list that no parenthesis leaves open
abbrev pub whole_list : List OuterList → ℕ → Option TechFaultKind → Result ℕ TechFaultKind
whole_list [] set unknown = unless_unknown unknown set
whole_list (list ∷ outer) set unknown = Err BadList

abbrev pub finish_at : Reader → Position → Result ℕ TechFaultKind
finish_at r (AfterTerm set) = whole_list r.outer (union r.items set) r.unknown
finish_at r AfterItem = whole_list r.outer r.items r.unknown
finish_at r position = Err BadList

-- the set of what was read, if it is a list
unfoldable pub finish : Reader → Result ℕ TechFaultKind
finish r = finish_at r r.position
