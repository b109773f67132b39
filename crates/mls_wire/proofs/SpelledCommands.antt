-- What a command has that some line says.
use Rattle.std.proofs.Common.{◌≡◌, ℕ, ℤ, zero, suc, ◌+◌, ◌<◌, ◌≤◌, ◌^◌, ◌==◌, ◌||◌, ◌&&◌, Bool, true, false, cond, List, [], ◌∷◌, All, Option, Some, None, Result, Ok, Err, IfSome, IfOk, is_some, refl, sym, ap, subst, ◌∙◌, ⊎_elim, arith, codes, eq-eqb}
use Rattle.std.specs.Prelude.{⊤}
use Rattle.std.specs.List.{list_all, list_any, range_with_len}
use Rattle.std.specs.Option.{option_map_or}
use Rattle.std.proofs.Math.Bool.{and-true}
use Rattle.std.proofs.lemmas.Bool.{and_parts, cases_eq, cases_lt, cond_both, eqb-true, ne_eqb}
use Rattle.std.proofs.lemmas.List.Elements.{All-head, All-tail, filter_passes}
use Rattle.std.proofs.lemmas.Map.Views.{any-filter_same}
use Rattle.mls_kinds.specs.KindSets.{has_bit, members, set_of}
use Rattle.mls_kinds.proofs.BitLemmas.{has_bit-zero}
use Rattle.mls_kinds.proofs.KindSetLemmas.{has_bit-set_of, has_bit_from_64, none_from_members, set_of-lt}
use Rattle.mls_server.specs.mls_session.declared.command.Command.{Command}
use Rattle.mls_server.specs.mls_session.declared.command.Command.TheVariants.{Box, Paint, Erase, Dump, GetCell, What, Save, Check, CatchUp, Why, Count}
use Rattle.mls_text.specs.Fields.{fields_of}
use Rattle.mls_text.specs.Words.{onto_first, same_word}
use Rattle.mls_wire.specs.ReadBack.{HasShortName, NamesReadBack}
use Rattle.mls_wire.specs.NameBooks.{Names}
use Rattle.mls_wire.specs.Numbers.{number_of}
use Rattle.mls_wire.specs.Says.{alone_says, box_of, command_of, drc_of, drc_says, dump_of, edit_of, erase_says, getcell_of, moved_by, moved_cell_says, names_type, paint_says, sides_of, sides_say, types_named}
use Rattle.mls_wire.specs.declared.line.LineFault.{LineFault}
use Rattle.mls_wire.specs.declared.line.LineFault.TheVariants.{UnknownCommand}
use Rattle.mls_wire.specs.declared.parse.MovedCell.{MovedCell}
use Rattle.mls_wire.specs.declared.parse.Sides.{Sides}
use Rattle.mls_wire.proofs.SaidSides.{sides_of-by, sides_say-by}
use Rattle.mls_wire.proofs.WrittenNumbers.{IsShort, number_of-short}

-- ---- what a command has that some line says
abbrev pub HasType : Names → Option ℕ → Type 0
HasType book None = ⊤
HasType book (Some kind) = HasShortName book kind

pub record HasTypes (book : Names) (kinds : ℕ) : Type 0 where
  pub fits : kinds < 2 ^ 64
  pub first : ℕ
  pub rest : List ℕ
  pub some : members kinds ≡ first ∷ rest
  pub named : All (HasShortName book) (members kinds)

abbrev pub HasTypesIfAny : Names → Option ℕ → Type 0
HasTypesIfAny book None = ⊤
HasTypesIfAny book (Some kinds) = HasTypes book kinds

abbrev pub HasCell : Names → (List ℕ → Type 0) → Option ℕ → Type 0
HasCell book Is None = ⊤
HasCell book Is (Some cell) = (word : List ℕ) × Is word × (book.cell_name cell ≡ Some word) × (book.cell_of word ≡ Some cell)

abbrev pub AreShort : Sides → Type 0
AreShort sides = IsShort sides.left × IsShort sides.bottom × IsShort sides.right × IsShort sides.top

abbrev pub IsMoved : Names → (List ℕ → Type 0) → MovedCell → Type 0
IsMoved book Is moved = HasCell book Is moved.cell × IsShort moved.dx × IsShort moved.dy

-- what holds of each word of the line holds of the name of a cell
abbrev pub IsSpelled : Names → (List ℕ → Type 0) → Command → Type 0
IsSpelled book Is (Box left bottom right top) = IsShort left × IsShort bottom × IsShort right × IsShort top
IsSpelled book Is (Paint kind) = HasType book kind
IsSpelled book Is (Erase kinds) = HasTypesIfAny book kinds
IsSpelled book Is (Dump cell dx dy) = HasCell book Is cell × IsShort dx × IsShort dy
IsSpelled book Is (GetCell cell dx dy) = HasCell book Is cell × IsShort dx × IsShort dy
IsSpelled book Is What = ⊤
IsSpelled book Is Save = ⊤
IsSpelled book Is Check = ⊤
IsSpelled book Is CatchUp = ⊤
IsSpelled book Is Why = ⊤
IsSpelled book Is Count = ⊤

pub choice : {T E : Type 0} (P : T → Type 0) (test : Bool) (x y : Result T E) → IfOk x P → IfOk y P → IfOk (cond test x y) P
choice P true x y h k = h
choice P false x y h k = k

-- ---- sides and moved cells
sides_of-short : (l b r t : Option ℤ) → IfSome l IsShort → IfSome b IsShort → IfSome r IsShort → IfSome t IsShort → IfOk (sides_of l b r t) AreShort
sides_of-short l b r t hl hb hr ht =
    sides_of-by (λ said. IfOk said AreShort) l b r t tt (λ left bottom right top l_is b_is r_is t_is. (rw l_is at hl, rw b_is at hb, rw r_is at hr, rw t_is at ht))

sides_say-short : (words : List (List ℕ)) → IfOk (sides_say words) AreShort
sides_say-short =
    sides_say-by (λ words said. IfOk said AreShort) (λ words. tt)
    (λ l b r t. sides_of-short (number_of l) (number_of b) (number_of r) (number_of t) (number_of-short l) (number_of-short b) (number_of-short r) (number_of-short t))

-- a text has a field
abbrev pub HasField : List (List ℕ) → Type 0
HasField fields = (field : List ℕ) × (others : List (List ℕ)) × (fields ≡ field ∷ others)

onto_first-field : (b : ℕ) (fields : List (List ℕ)) → HasField (onto_first b fields)
onto_first-field b [] = (b ∷ [], [], refl)
onto_first-field b (field ∷ others) = (b ∷ field, others, refl)

pub fields_of-field : (text : List ℕ) → HasField (fields_of text)
fields_of-field [] = ([], [], refl)
fields_of-field (b ∷ text) =
    cond_both (b == 44) ([] ∷ fields_of text) (onto_first b (fields_of text)) HasField (λ comma. ([], fields_of text, refl)) (λ other. onto_first-field b (fields_of text))

-- ---- sets of types
-- a set with a kind has a first one
members-first : (kinds kind : ℕ) → kinds < 2 ^ 64 → has_bit kinds kind ≡ true → (first : ℕ) × (rest : List ℕ) × (members kinds ≡ first ∷ rest)
members-first kinds kind fits there = by (members kinds) refl
  where
    by : (list : List ℕ) → members kinds ≡ list → (first : ℕ) × (rest : List ℕ) × (list ≡ first ∷ rest)
    by [] none =
        let same : kinds ≡ 0 = none_from_members kinds fits none in
        let bad : has_bit kinds kind ≡ false = ap (λ (set : ℕ). has_bit set kind) same ∙ has_bit-zero kind in
        absurd cc
    by (first ∷ rest) is = (first, rest, refl)

-- what holds of each kind of the set holds of each member
All-members : (P : ℕ → Type 0) (kinds : ℕ) → ((kind : ℕ) → has_bit kinds kind ≡ true → P kind) → All P (members kinds)
unfolding members
All-members P kinds each k d within = each _ (filter_passes (has_bit kinds) (range_with_len 0 64) k d within)

in-range : (kind a n : ℕ) → a ≤ kind → kind < a + n → list_any (λ m. kind == m) (range_with_len a n) ≡ true
in-range kind a zero from to = absurd (omega (arith, from, to))
in-range kind a (suc n) from to =
    ⊎_elim
    (λ (same : kind ≡ a). ap (λ (t : Bool). t || list_any (λ m. kind == m) (range_with_len (a + 1) n)) (eq-eqb kind a same))
    (λ (other : kind ≡ a → ⊥).
    let later : a + 1 ≤ kind = omega (arith, from, other) in
    let before : kind < a + 1 + n = omega (arith, to) in
    ap (λ (t : Bool). t || list_any (λ m. kind == m) (range_with_len (a + 1) n)) (ne_eqb kind a other) ∙ in-range kind (a + 1) n later before)
    (cases_eq kind a)

-- a kind is a member where the set holds it
pub any-members : (kinds kind : ℕ) → kind < 64 → list_any (λ m. kind == m) (members kinds) ≡ has_bit kinds kind
unfolding members
any-members kinds kind below =
    any-filter_same (λ m. kind == m) (has_bit kinds) (has_bit kinds kind) (λ m same. ap (has_bit kinds) (sym (eqb-true kind m same))) (range_with_len 0 64)
    ∙ ap (λ (t : Bool). has_bit kinds kind && t) (in-range kind 0 64 (omega arith) below)
    ∙ and-true (has_bit kinds kind)

module _ (Is : List ℕ → Type 0) (book : Names) (names : NamesReadBack book) where
  -- ---- what lines say
  abbrev IsType : Option ℕ → Type 0
  IsType found = IfSome found (λ kind. (kind < 64) × HasShortName book kind)

  type-found : (found : Option ℕ) → IsType found → HasType book found
  type-found None is = tt
  type-found (Some kind) is = is.1

  cell-found : (word : List ℕ) → Is word → (found : Option ℕ) → book.cell_of word ≡ found → IfSome found (λ cell. book.cell_name cell ≡ Some word) → HasCell book Is found
  cell-found word is None found named = tt
  cell-found word is (Some cell) found named = (word, is, named, found)

  -- a kind among those of names has a short one
  named-one : (kind : ℕ) (found : Option ℕ) → IsType found → option_map_or (λ named. kind == named) found false ≡ true → HasShortName book kind
  named-one kind None is same = absurd cc
  named-one kind (Some named) is same = subst (HasShortName book) (sym (eqb-true kind named same)) is.1

  named-next : (kind : ℕ) (word : List ℕ) (more : Bool) → (more ≡ true → HasShortName book kind) → (test : Bool) → names_type book kind word ≡ test → (test || more) ≡ true
      → HasShortName book kind
  named-next kind word more later true is any = named-one kind (book.type_of word) (names.types word) is
  named-next kind word more later false is any = later any

  named-any : (kind : ℕ) (words : List (List ℕ)) → list_any (names_type book kind) words ≡ true → HasShortName book kind
  named-any kind [] any = absurd cc
  named-any kind (word ∷ words) any =
      named-next kind word (list_any (names_type book kind) words) (λ more. named-any kind words more) (names_type book kind word) refl any

  module _ (words : List (List ℕ)) where
    -- the types of these names
    abbrev pub said_set : ℕ
    said_set = set_of (λ kind. list_any (names_type book kind) words)

    said-any : (kind : ℕ) → has_bit said_set kind ≡ true → list_any (names_type book kind) words ≡ true
    said-any kind there =
        ⊎_elim
        (λ (below : kind < 64). sym (has_bit-set_of (λ k. list_any (names_type book k) words) kind below) ∙ there)
        (λ (above : 64 ≤ kind). let none = has_bit_from_64 said_set kind (set_of-lt (λ k. list_any (names_type book k) words)) above in absurd cc)
        (cases_lt kind 64)

    said-named : (kind : ℕ) → has_bit said_set kind ≡ true → HasShortName book kind
    said-named kind there = named-any kind words (said-any kind there)

    -- a type of the set is that of one of the names
    pub types_named-any : (kinds kind : ℕ) → types_named book words ≡ Some kinds → has_bit kinds kind ≡ true → list_any (names_type book kind) words ≡ true
    unfolding types_named
    types_named-any kinds kind is there = said-any kind (subst (λ (set : ℕ). has_bit set kind ≡ true) (sym (by (list_all (λ name. is_some (book.type_of name)) words) is)) there)
      where
        by : (all : Bool) → cond all (Some said_set) None ≡ Some kinds → said_set ≡ kinds
        by true same = cc
        by false same = absurd cc

  module _ (words : List (List ℕ)) (field : List ℕ) (others : List (List ℕ)) (begins : words ≡ field ∷ others) where
    said-first : (found : Option ℕ) → book.type_of field ≡ found → IsType found → is_some found ≡ true → (kind : ℕ) × (has_bit (said_set words) kind ≡ true)
    said-first None is type some = absurd cc
    said-first (Some kind) is type some =
        let one : names_type book kind field ≡ true = ap (λ (f : Option ℕ). option_map_or (λ named. kind == named) f false) is ∙ eq-eqb kind kind refl in
        let any : list_any (names_type book kind) words ≡ true =
        ap (list_any (names_type book kind)) begins ∙ ap (λ (t : Bool). t || list_any (names_type book kind) others) one in
        (kind, has_bit-set_of (λ k. list_any (names_type book k) words) kind type.0 ∙ any)

    pub types_named-spelled : HasTypesIfAny book (types_named book words)
    unfolding types_named
    types_named-spelled =
        cond_both (list_all (λ name. is_some (book.type_of name)) words) (Some (said_set words)) None (HasTypesIfAny book)
        (λ all.
        let both : (is_some (book.type_of field) && list_all (λ name. is_some (book.type_of name)) others) ≡ true =
        sym (ap (list_all (λ name. is_some (book.type_of name))) begins) ∙ all in
        let some = (and_parts (is_some (book.type_of field)) (list_all (λ name. is_some (book.type_of name)) others) both).0 in
        let (kind, there) = said-first (book.type_of field) refl (names.types field) some in
        let fits = set_of-lt (λ k. list_any (names_type book k) words) in
        let (first, rest, is) = members-first (said_set words) kind fits there in
        record { fits = fits; first = first; rest = rest; some = is; named = All-members (HasShortName book) (said_set words) (said-named words) })
        (λ _. tt)

  moved_by-spelled : (cell : Option ℕ) (dx dy : Option ℤ) → HasCell book Is cell → IfSome dx IsShort → IfSome dy IsShort → IfOk (moved_by cell dx dy) (IsMoved book Is)
  unfolding moved_by
  moved_by-spelled cell None dy has hx hy = tt
  moved_by-spelled cell (Some dx) None has hx hy = tt
  moved_by-spelled cell (Some dx) (Some dy) has hx hy = (has, hx, hy)

  moved_cell-spelled : (words : List (List ℕ)) → All Is words → IfOk (moved_cell_says book words) (IsMoved book Is)
  unfolding moved_cell_says
  moved_cell-spelled [] are = tt
  moved_cell-spelled (name ∷ []) are = tt
  moved_cell-spelled (name ∷ dx ∷ []) are = tt
  moved_cell-spelled (name ∷ dx ∷ dy ∷ []) are =
      moved_by-spelled (book.cell_of name) (number_of dx) (number_of dy)
      (cell-found name (All-head Is name (dx ∷ dy ∷ []) are) (book.cell_of name) refl (names.cells name)) (number_of-short dx) (number_of-short dy)
  moved_cell-spelled (name ∷ dx ∷ dy ∷ more ∷ words) are = tt

  box_of-spelled : (r : Result Sides LineFault) → IfOk r AreShort → IfOk (box_of r) (IsSpelled book Is)
  box_of-spelled (Ok sides) are = are
  box_of-spelled (Err fault) are = tt

  dump_of-spelled : (r : Result MovedCell LineFault) → IfOk r (IsMoved book Is) → IfOk (dump_of r) (IsSpelled book Is)
  dump_of-spelled (Ok moved) is = is
  dump_of-spelled (Err fault) is = tt

  getcell_of-spelled : (r : Result MovedCell LineFault) → IfOk r (IsMoved book Is) → IfOk (getcell_of r) (IsSpelled book Is)
  getcell_of-spelled (Ok moved) is = is
  getcell_of-spelled (Err fault) is = tt

  paint-spelled : (words : List (List ℕ)) → IfOk (paint_says book words) (IsSpelled book Is)
  paint-spelled [] = tt
  paint-spelled (name ∷ []) = type-found (book.type_of name) (names.types name)
  paint-spelled (name ∷ more ∷ words) = tt

  erase-spelled : (words : List (List ℕ)) → IfOk (erase_says book words) (IsSpelled book Is)
  erase-spelled [] = tt
  erase-spelled (list ∷ []) = let (field, others, begins) = fields_of-field list in types_named-spelled (fields_of list) field others begins
  erase-spelled (list ∷ more ∷ words) = tt

  alone-spelled : (command : Command) → IsSpelled book Is command → (words : List (List ℕ)) → IfOk (alone_says command words) (IsSpelled book Is)
  alone-spelled command spelled [] = spelled
  alone-spelled command spelled (word ∷ words) = tt

  drc_of-spelled : (word : List ℕ) → IfOk (drc_of word) (IsSpelled book Is)
  unfolding drc_of
  drc_of-spelled word =
      choice (IsSpelled book Is) (same_word word (codes "check")) _ _ tt
      (choice (IsSpelled book Is) (same_word word (codes "catchup")) _ _ tt
      (choice (IsSpelled book Is) (same_word word (codes "why")) _ _ tt
      (choice (IsSpelled book Is) (same_word word (codes "count")) (Ok Count) (Err UnknownCommand) tt tt)))

  drc-spelled : (words : List (List ℕ)) → IfOk (drc_says words) (IsSpelled book Is)
  drc-spelled [] = tt
  drc-spelled (word ∷ []) = drc_of-spelled word
  drc-spelled (word ∷ more ∷ words) = tt

  pub command_of-spelled : (words : List (List ℕ)) → All Is words → IfOk (command_of book words) (IsSpelled book Is)
  unfolding command_of edit_of
  command_of-spelled [] are = tt
  command_of-spelled (verb ∷ words) are =
      let others = All-tail Is verb words are in
      choice (IsSpelled book Is) (same_word verb (codes "box")) _ _ (box_of-spelled (sides_say words) (sides_say-short words))
      (choice (IsSpelled book Is) (same_word verb (codes "what")) _ _ (alone-spelled What tt words)
      (choice (IsSpelled book Is) (same_word verb (codes "save")) _ _ (alone-spelled Save tt words)
      (choice (IsSpelled book Is) (same_word verb (codes "drc")) _ _ (drc-spelled words)
      (choice (IsSpelled book Is) (same_word verb (codes "paint")) _ _ (paint-spelled words)
      (choice (IsSpelled book Is) (same_word verb (codes "erase")) _ _ (erase-spelled words)
      (choice (IsSpelled book Is) (same_word verb (codes "dump")) _ _ (dump_of-spelled (moved_cell_says book words) (moved_cell-spelled words others))
      (choice (IsSpelled book Is) (same_word verb (codes "getcell")) _ (Err UnknownCommand) (getcell_of-spelled (moved_cell_says book words) (moved_cell-spelled words others)) tt)))))))
