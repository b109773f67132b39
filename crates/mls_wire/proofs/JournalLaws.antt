-- The line that is written for a command says that command.
use Rattle.std.proofs.Common.{◌≡◌, ◌≢◌, ℕ, ℤ, suc, ◌<◌, ◌≤◌, ◌^◌, ◌==◌, ◌||◌, ◌&&◌, Bool, true, false, cond, List, [], ◌∷◌, ◌++◌, length, length-append, map, All, Option, Some, None, Ok, Err, is_some, nat_le, refl, sym, ap, subst, ◌∙◌, arith, codes}
use Rattle.std.specs.Fmt.{decimal, signed_decimal}
use Rattle.std.specs.List.{join_with_byte, list_all, list_any}
use Rattle.std.specs.Option.{ok_or, option_map_or, unwrap_or}
use Rattle.std.proofs.lemmas.Bool.{and_parts, leb-true}
use Rattle.std.proofs.lemmas.Bool.Decides.{nat_tests}
use Rattle.std.proofs.lemmas.List.Elements.{All-append, All-cons, All-from_recursion, All-head, All-nil, All-tail, All-weaker}
use Rattle.std.proofs.lemmas.Result.{IfOk-at_ok}
use Rattle.mls_kinds.specs.KindSets.{members, set_of}
use Rattle.mls_kinds.proofs.KindSetLemmas.{is_set_of}
use Rattle.mls_server.specs.mls_library.SavedCells.{spaced}
use Rattle.mls_server.proofs.mls_library.SavedLines.{All-spaced, IsPlain, IsPlain-test, IsWord, IsWord-plain, words_of-spaced}
use Rattle.mls_server.proofs.mls_library.SavedNumbers.{signed_decimal-plain}
use Rattle.mls_server.specs.SessionNames.{is_name_byte, is_session_name}
use Rattle.mls_server.specs.mls_session.declared.command.Command.{Command}
use Rattle.mls_server.specs.mls_session.declared.command.Command.TheVariants.{Box, Paint, Erase, Dump, GetCell, What, Save, Check, CatchUp, Why, Count}
use Rattle.mls_text.specs.Fields.{fields_of}
use Rattle.mls_text.specs.Lines.{IsUnbroken}
use Rattle.mls_text.specs.Words.{is_blank, words_of}
use Rattle.mls_wire.specs.JournalLines.{cell_word, command_line, command_words, listed_types, said_text, shielded, steps_line, type_word, types_word}
use Rattle.mls_wire.specs.ReadBack.{CommandsAreLines, CommandsReadBack, HasShortName, IsListable, NamesReadBack, StepsReadBack}
use Rattle.mls_wire.specs.Lines.{line_limit, line_if_short}
use Rattle.mls_wire.specs.NameBooks.{Names, SessionIds, no_name}
use Rattle.mls_wire.specs.Numbers.{number_of}
use Rattle.mls_wire.specs.Says.{asked_by, asked_of, asks_says, box_of, command_of, drc_of, dump_of, edit_of, getcell_of, line_asking, line_says, line_with, moved_by, moved_cell_says, names_type, run_by, session_says, sides_of, sides_say, asks_steps, steps_say, types_named, words_say}
use Rattle.mls_wire.specs.declared.line.Line.TheVariants.{Silent, Steps, Run}
use Rattle.mls_wire.specs.declared.line.LineFault.TheVariants.{BadName, BadNumber}
use Rattle.mls_wire.specs.declared.parse.Asked.TheVariants.{Steps as AsksSteps}
use Rattle.mls_wire.specs.declared.parse.Asking.TheVariants.{Steps as ByCount}
use Rattle.mls_wire.proofs.RunLines.{IsPart, IsRun, line-run}
use Rattle.mls_wire.proofs.ShieldedLines.{kept-shielded, length-shielded, line_if_short-kept, unbroken-shielded, without_return-word, words_of-shielded}
use Rattle.mls_wire.proofs.SpelledCommands.{HasCell, HasType, HasTypes, HasTypesIfAny, IsSpelled, any-members}
use Rattle.mls_wire.proofs.TypeLists.{types_from-none, types_named-from}
use Rattle.mls_wire.proofs.WrittenNumbers.{IsShort, count_written-decimal, decimal_plain, number_of-signed_decimal}
use Rattle.mls_wire.proofs.WrittenWords.{fields_of-joined, solid-joined, some-joined, unbroken-joined}
use Rattle.mls_wire.proofs.WrittenLengths.{length-joined, width}
use Rattle.std.proofs.lemmas.Fmt.{length-decimal-le}

-- ---- a session's name is a word that begins no other line
name_bytes : (word : List ℕ) → list_all is_name_byte word ≡ true → All (λ b. is_blank b ≡ false) word
name_bytes [] bytes = All-nil (λ b. is_blank b ≡ false)
name_bytes (b ∷ word) bytes =
    let parts = and_parts (is_name_byte b) (list_all is_name_byte word) bytes in
    let solid : is_blank b ≡ false = let byte : is_name_byte b ≡ true = parts.0 in grind (arith, nat_tests) in
    All-cons (λ c. is_blank c ≡ false) b word solid (name_bytes word parts.1)

IsWord-name : (name : List ℕ) → is_session_name name ≡ true → IsWord name
IsWord-name name is =
    let parts = and_parts _ _ is in
    let some : 1 ≤ length name = leb-true 1 (length name) (and_parts _ _ parts.0).0 in
    record { some = omega (arith, some); solid = name_bytes name parts.1 }

first_byte : (b : ℕ) → is_name_byte b ≡ true → ((b == 35) ≡ false) × ((b == 37) ≡ false)
first_byte b byte = (grind (arith, nat_tests), grind (arith, nat_tests))

module _ (Is : List ℕ → Type 0) (is-word : (word : List ℕ) → Is word → IsWord word) (book : Names) (names : NamesReadBack book) where
  -- ---- what is written is read
  abbrev word_of : ℕ → List ℕ
  word_of kind = type_word book (Some kind)

  type_of-word : (kind : ℕ) → HasShortName book kind → book.type_of (word_of kind) ≡ Some kind
  type_of-word kind (name, short, listable, is) = ap (λ (o : Option (List ℕ)). book.type_of (unwrap_or o no_name)) short ∙ is

  IsListable-word : (kind : ℕ) → HasShortName book kind → IsListable (word_of kind)
  IsListable-word kind (name, short, listable, is) = subst (λ (o : Option (List ℕ)). IsListable (unwrap_or o no_name)) (sym short) listable

  -- the types of the names of kinds
  all-words : (kinds : List ℕ) → All (HasShortName book) kinds → list_all (λ name. is_some (book.type_of name)) (map word_of kinds) ≡ true
  all-words [] named = refl
  all-words (kind ∷ kinds) named =
      ap (λ (o : Option ℕ). is_some o && list_all (λ name. is_some (book.type_of name)) (map word_of kinds)) (type_of-word kind (All-head (HasShortName book) kind kinds named))
      ∙ all-words kinds (All-tail (HasShortName book) kind kinds named)

  any-words : (k : ℕ) (kinds : List ℕ) → All (HasShortName book) kinds → list_any (names_type book k) (map word_of kinds) ≡ list_any (λ m. k == m) kinds
  any-words k [] named = refl
  any-words k (kind ∷ kinds) named =
      ap (λ (o : Option ℕ). option_map_or (λ other. k == other) o false || list_any (names_type book k) (map word_of kinds)) (type_of-word kind (All-head (HasShortName book) kind kinds named))
      ∙ ap (λ (t : Bool). (k == kind) || t) (any-words k kinds (All-tail (HasShortName book) kind kinds named))

  types_named-words : (kinds : ℕ) → kinds < 2 ^ 64 → All (HasShortName book) (members kinds) → types_named book (map word_of (members kinds)) ≡ Some kinds
  unfolding types_named
  types_named-words kinds fits named =
      let set = set_of (λ kind. list_any (names_type book kind) (map word_of (members kinds))) in
      ap (λ (t : Bool). cond t (Some set) None) (all-words (members kinds) named)
      ∙ ap Some (sym (is_set_of kinds (λ kind. list_any (names_type book kind) (map word_of (members kinds))) fits
      (λ kind below. sym (any-words kind (members kinds) named ∙ any-members kinds kind below))))

  All-words : (P : List ℕ → Type 0) → ((kind : ℕ) → HasShortName book kind → P (word_of kind)) → (kinds : List ℕ) → All (HasShortName book) kinds → All P (map word_of kinds)
  All-words P each [] named = All-nil P
  All-words P each (kind ∷ kinds) named =
      All-cons P (word_of kind) (map word_of kinds) (each kind (All-head (HasShortName book) kind kinds named))
      (All-words P each kinds (All-tail (HasShortName book) kind kinds named))

  module _ (kinds : ℕ) (has : HasTypes book kinds) where
    named_rest : All (HasShortName book) (has.first ∷ has.rest)
    named_rest = subst (All (HasShortName book)) has.some has.named

    types_word-is : types_word book (Some kinds) ≡ join_with_byte 44 (map word_of (has.first ∷ has.rest))
    types_word-is = ap (listed_types book) has.some

    types_named-types_word : types_named book (fields_of (types_word book (Some kinds))) ≡ Some kinds
    types_named-types_word =
        ap (λ (text : List ℕ). types_named book (fields_of text)) types_word-is
        ∙ ap (types_named book)
        (fields_of-joined (word_of has.first) (map word_of has.rest)
        (All-words (λ word. All (λ b. (b == 44) ≡ false) word) (λ kind named. (IsListable-word kind named).whole) (has.first ∷ has.rest) named_rest))
        ∙ ap (λ (list : List ℕ). types_named book (map word_of list)) (sym has.some)
        ∙ types_named-words kinds has.fits has.named

    IsWord-types_word : IsWord (types_word book (Some kinds))
    IsWord-types_word =
        subst IsWord (sym types_word-is) (record {
          some = some-joined (word_of has.first) (map word_of has.rest) (IsListable-word has.first (All-head (HasShortName book) has.first has.rest named_rest)).some;
          solid =
              solid-joined (map word_of (has.first ∷ has.rest))
              (All-words (λ word. All (λ b. is_blank b ≡ false) word) (λ kind named. (IsListable-word kind named).solid) (has.first ∷ has.rest) named_rest);
        })

  cell_of-word : (cell : Option ℕ) → HasCell book Is cell → book.cell_of (cell_word book cell) ≡ cell
  cell_of-word None has = names.no_cell
  cell_of-word (Some cell) (word, is, named, found) = ap (λ (o : Option (List ℕ)). book.cell_of (unwrap_or o no_name)) named ∙ found

  moved_by-words : (cell : Option ℕ) (dx dy : ℤ) → HasCell book Is cell → IsShort dx → IsShort dy
      → moved_by (book.cell_of (cell_word book cell)) (number_of (signed_decimal dx)) (number_of (signed_decimal dy)) ≡ Ok (record { cell = cell; dx = dx; dy = dy })
  unfolding moved_by
  moved_by-words cell dx dy has hx hy =
      λ i. moved_by (cell_of-word cell has i) (number_of-signed_decimal dx hx i) (number_of-signed_decimal dy hy i)

  command_of-words : (command : Command) → IsSpelled book Is command → command_of book (command_words book command) ≡ Ok command
  unfolding command_of command_words edit_of drc_of moved_cell_says sides_say sides_of
  command_of-words (Box left bottom right top) (hl, hb, hr, ht) =
      λ i. box_of (sides_of (number_of-signed_decimal left hl i) (number_of-signed_decimal bottom hb i) (number_of-signed_decimal right hr i) (number_of-signed_decimal top ht i))
  command_of-words (Paint None) spelled = ap (λ (o : Option ℕ). Ok (Paint o)) names.no_type
  command_of-words (Paint (Some kind)) spelled = ap (λ (o : Option ℕ). Ok (Paint o)) (type_of-word kind spelled)
  command_of-words (Erase None) spelled =
      ap (λ (o : Option ℕ). Ok (Erase o)) (types_named-from book ([] ∷ [] ∷ []) ∙ types_from-none book [] ([] ∷ []) 0 names.nothing)
  command_of-words (Erase (Some kinds)) spelled = ap (λ (o : Option ℕ). Ok (Erase o)) (types_named-types_word kinds spelled)
  command_of-words (Dump cell dx dy) (has, hx, hy) = ap dump_of (moved_by-words cell dx dy has hx hy)
  command_of-words (GetCell cell dx dy) (has, hx, hy) = ap getcell_of (moved_by-words cell dx dy has hx hy)
  command_of-words What spelled = refl
  command_of-words Save spelled = refl
  command_of-words Check spelled = refl
  command_of-words CatchUp spelled = refl
  command_of-words Why spelled = refl
  command_of-words Count spelled = refl

  -- ---- each word is one
  IsWord-number : (z : ℤ) → IsShort z → IsWord (signed_decimal z)
  IsWord-number z short = let plain = signed_decimal-plain z (omega (arith, short)) in IsWord-plain (signed_decimal z) plain.1 plain.0

  IsWord-no_name : IsWord no_name
  IsWord-no_name = record { some = omega arith; solid = All-cons (λ b. is_blank b ≡ false) 44 [] refl (All-nil (λ b. is_blank b ≡ false)) }

  IsWord-type : (kind : Option ℕ) → HasType book kind → IsWord (type_word book kind)
  IsWord-type None has = IsWord-no_name
  IsWord-type (Some kind) has = let listable = IsListable-word kind has in record { some = listable.some; solid = listable.solid }

  IsWord-types : (kinds : Option ℕ) → HasTypesIfAny book kinds → IsWord (types_word book kinds)
  IsWord-types None has = IsWord-no_name
  IsWord-types (Some kinds) has = IsWord-types_word kinds has

  IsWord-cell : (cell : Option ℕ) → HasCell book Is cell → IsWord (cell_word book cell)
  IsWord-cell None has = IsWord-no_name
  IsWord-cell (Some cell) (word, is, named, found) = subst (λ (o : Option (List ℕ)). IsWord (unwrap_or o no_name)) (sym named) (is-word word is)

  tested : (word : List ℕ) → 0 < length word → list_all (nat_le 45) word ≡ true → IsWord word
  tested word some plain = IsWord-plain word some (IsPlain-test word plain)

  IsWord-command_words : (command : Command) → IsSpelled book Is command → All IsWord (command_words book command)
  unfolding command_words
  IsWord-command_words (Box left bottom right top) (hl, hb, hr, ht) =
      All-from_recursion IsWord (codes "box" ∷ signed_decimal left ∷ signed_decimal bottom ∷ signed_decimal right ∷ signed_decimal top ∷ [])
      (tested (codes "box") (omega arith) refl, (IsWord-number left hl, (IsWord-number bottom hb, (IsWord-number right hr, (IsWord-number top ht, tt)))))
  IsWord-command_words (Paint kind) has = All-from_recursion IsWord (codes "paint" ∷ type_word book kind ∷ []) (tested (codes "paint") (omega arith) refl, (IsWord-type kind has, tt))
  IsWord-command_words (Erase kinds) has = All-from_recursion IsWord (codes "erase" ∷ types_word book kinds ∷ []) (tested (codes "erase") (omega arith) refl, (IsWord-types kinds has, tt))
  IsWord-command_words (Dump cell dx dy) (has, hx, hy) =
      All-from_recursion IsWord (codes "dump" ∷ cell_word book cell ∷ signed_decimal dx ∷ signed_decimal dy ∷ [])
      (tested (codes "dump") (omega arith) refl, (IsWord-cell cell has, (IsWord-number dx hx, (IsWord-number dy hy, tt))))
  IsWord-command_words (GetCell cell dx dy) (has, hx, hy) =
      All-from_recursion IsWord (codes "getcell" ∷ cell_word book cell ∷ signed_decimal dx ∷ signed_decimal dy ∷ [])
      (tested (codes "getcell") (omega arith) refl, (IsWord-cell cell has, (IsWord-number dx hx, (IsWord-number dy hy, tt))))
  IsWord-command_words What has = All-from_recursion IsWord (codes "what" ∷ []) (tested (codes "what") (omega arith) refl, tt)
  IsWord-command_words Save has = All-from_recursion IsWord (codes "save" ∷ []) (tested (codes "save") (omega arith) refl, tt)
  IsWord-command_words Check has = All-from_recursion IsWord (codes "drc" ∷ codes "check" ∷ []) (tested (codes "drc") (omega arith) refl, (tested (codes "check") (omega arith) refl, tt))
  IsWord-command_words CatchUp has = All-from_recursion IsWord (codes "drc" ∷ codes "catchup" ∷ []) (tested (codes "drc") (omega arith) refl, (tested (codes "catchup") (omega arith) refl, tt))
  IsWord-command_words Why has = All-from_recursion IsWord (codes "drc" ∷ codes "why" ∷ []) (tested (codes "drc") (omega arith) refl, (tested (codes "why") (omega arith) refl, tt))
  IsWord-command_words Count has = All-from_recursion IsWord (codes "drc" ∷ codes "count" ∷ []) (tested (codes "drc") (omega arith) refl, (tested (codes "count") (omega arith) refl, tt))

  words_say-session : (ids : SessionIds) (b : ℕ) (name : List ℕ) (words : List (List ℕ)) → (b == 37) ≡ false → words_say book ids ((b ∷ name) ∷ words) ≡ session_says book ids (b ∷ name) words
  unfolding words_say
  words_say-session ids b name words bare = rw bare refl

  -- the words of a command stand after the name
  spaced-after : (name : List ℕ) (command : Command) (words : List (List ℕ)) → command_of book words ≡ Ok command → name ++ 32 ∷ spaced words ≡ spaced (name ∷ words)
  unfolding command_of
  spaced-after name command [] says = absurd (cc)
  spaced-after name command (word ∷ words) says = refl

  command_line-spaced : (name : List ℕ) (command : Command) → IsSpelled book Is command → name ++ said_text book command ≡ spaced (name ∷ command_words book command)
  command_line-spaced name command spelled = spaced-after name command (command_words book command) (command_of-words command spelled)

  -- it is as long as its words, but for a space at its end
  command_line-length : (name : List ℕ) (command : Command) → IsSpelled book Is command → length (command_line book name command) ≤ width (name ∷ command_words book command)
  command_line-length name command spelled =
      let all = ap length (command_line-spaced name command spelled) in
      let words = length-joined 32 name (command_words book command) in
      let bare = length-append name (said_text book command) in
      let whole = length-append name (shielded (said_text book command)) in
      let more = length-shielded (said_text book command) in
      omega (arith, all, words, bare, whole, more)

  command_line-read : (name : List ℕ) (command : Command) → IsSpelled book Is command → width (name ∷ command_words book command) ≤ line_limit
      → line_if_short (command_line book name command) ≡ Some (command_line book name command)
  command_line-read name command spelled within =
      let short = command_line-length name command spelled in
      line_if_short-kept (command_line book name command) (kept-shielded name 32 (spaced (command_words book command))) (omega (arith, short, within))

  command_line-says : (ids : SessionIds) (name : List ℕ) (id : ℕ) (command : Command) → is_session_name name ≡ true → ids name ≡ Some id → IsSpelled book Is command
      → line_says book ids (Some (command_line book name command)) ≡ Ok (Run name id command)
  unfolding line_says session_says
  command_line-says ids [] id command is opened spelled = absurd (omega (arith, (IsWord-name [] is).some))
  command_line-says ids (b ∷ name) id command is opened spelled =
      let words = command_words book command in
      let byte = first_byte b (and_parts (is_name_byte b) (list_all is_name_byte name) (and_parts _ _ is).1).0 in
      ap (λ (t : Bool). cond t (Ok Silent) (words_say book ids (words_of (command_line book (b ∷ name) command)))) byte.0
      ∙ ap (words_say book ids) (words_of-shielded (b ∷ name) 32 (spaced words))
      ∙ ap (λ (line : List ℕ). words_say book ids (words_of line)) (command_line-spaced (b ∷ name) command spelled)
      ∙ ap (words_say book ids) (words_of-spaced ((b ∷ name) ∷ words) (All-cons IsWord (b ∷ name) words (IsWord-name (b ∷ name) is) (IsWord-command_words command spelled)))
      ∙ words_say-session ids b name words byte.1
      ∙ ap (λ (t : Bool). cond t (line_with ids (b ∷ name) (command_of book words)) (Err BadName)) is
      ∙ ap (line_with ids (b ∷ name)) (command_of-words command spelled)
      ∙ ap (run_by (b ∷ name) command) opened

  -- ---- it is one line
  module _ (is-unbroken : (word : List ℕ) → Is word → IsUnbroken word) where
    unbroken-plain : (word : List ℕ) → IsPlain word → IsUnbroken word
    unbroken-plain word plain = All-weaker (λ b. 45 ≤ b) (λ b. b ≢ 10) (λ b above same. omega (arith, above, same)) word plain

    unbroken-tested : (word : List ℕ) → list_all (nat_le 45) word ≡ true → IsUnbroken word
    unbroken-tested word plain = unbroken-plain word (IsPlain-test word plain)

    unbroken-number : (z : ℤ) → IsShort z → IsUnbroken (signed_decimal z)
    unbroken-number z short = unbroken-plain (signed_decimal z) (signed_decimal-plain z (omega (arith, short))).0

    unbroken-no_name : IsUnbroken no_name
    unbroken-no_name = All-cons (λ b. b ≢ 10) 44 [] (λ same. omega (arith, same)) (All-nil (λ b. b ≢ 10))

    unbroken-type : (kind : Option ℕ) → HasType book kind → IsUnbroken (type_word book kind)
    unbroken-type None has = unbroken-no_name
    unbroken-type (Some kind) has = (IsListable-word kind has).unbroken

    unbroken-types : (kinds : Option ℕ) → HasTypesIfAny book kinds → IsUnbroken (types_word book kinds)
    unbroken-types None has = unbroken-no_name
    unbroken-types (Some kinds) has =
        subst IsUnbroken (sym (types_word-is kinds has))
        (unbroken-joined (map word_of (has.first ∷ has.rest)) (All-words IsUnbroken (λ kind named. (IsListable-word kind named).unbroken) (has.first ∷ has.rest) (named_rest kinds has)))

    unbroken-cell : (cell : Option ℕ) → HasCell book Is cell → IsUnbroken (cell_word book cell)
    unbroken-cell None has = unbroken-no_name
    unbroken-cell (Some cell) (word, is, named, found) = subst (λ (o : Option (List ℕ)). IsUnbroken (unwrap_or o no_name)) (sym named) (is-unbroken word is)

    unbroken-words : (command : Command) → IsSpelled book Is command → All IsUnbroken (command_words book command)
    unfolding command_words
    unbroken-words (Box left bottom right top) (hl, hb, hr, ht) =
        All-from_recursion IsUnbroken (codes "box" ∷ signed_decimal left ∷ signed_decimal bottom ∷ signed_decimal right ∷ signed_decimal top ∷ [])
        (unbroken-tested (codes "box") refl, (unbroken-number left hl, (unbroken-number bottom hb, (unbroken-number right hr, (unbroken-number top ht, tt)))))
    unbroken-words (Paint kind) has = All-from_recursion IsUnbroken (codes "paint" ∷ type_word book kind ∷ []) (unbroken-tested (codes "paint") refl, (unbroken-type kind has, tt))
    unbroken-words (Erase kinds) has = All-from_recursion IsUnbroken (codes "erase" ∷ types_word book kinds ∷ []) (unbroken-tested (codes "erase") refl, (unbroken-types kinds has, tt))
    unbroken-words (Dump cell dx dy) (has, hx, hy) =
        All-from_recursion IsUnbroken (codes "dump" ∷ cell_word book cell ∷ signed_decimal dx ∷ signed_decimal dy ∷ [])
        (unbroken-tested (codes "dump") refl, (unbroken-cell cell has, (unbroken-number dx hx, (unbroken-number dy hy, tt))))
    unbroken-words (GetCell cell dx dy) (has, hx, hy) =
        All-from_recursion IsUnbroken (codes "getcell" ∷ cell_word book cell ∷ signed_decimal dx ∷ signed_decimal dy ∷ [])
        (unbroken-tested (codes "getcell") refl, (unbroken-cell cell has, (unbroken-number dx hx, (unbroken-number dy hy, tt))))
    unbroken-words What has = All-from_recursion IsUnbroken (codes "what" ∷ []) (unbroken-tested (codes "what") refl, tt)
    unbroken-words Save has = All-from_recursion IsUnbroken (codes "save" ∷ []) (unbroken-tested (codes "save") refl, tt)
    unbroken-words Check has = All-from_recursion IsUnbroken (codes "drc" ∷ codes "check" ∷ []) (unbroken-tested (codes "drc") refl, (unbroken-tested (codes "check") refl, tt))
    unbroken-words CatchUp has = All-from_recursion IsUnbroken (codes "drc" ∷ codes "catchup" ∷ []) (unbroken-tested (codes "drc") refl, (unbroken-tested (codes "catchup") refl, tt))
    unbroken-words Why has = All-from_recursion IsUnbroken (codes "drc" ∷ codes "why" ∷ []) (unbroken-tested (codes "drc") refl, (unbroken-tested (codes "why") refl, tt))
    unbroken-words Count has = All-from_recursion IsUnbroken (codes "drc" ∷ codes "count" ∷ []) (unbroken-tested (codes "drc") refl, (unbroken-tested (codes "count") refl, tt))

    unbroken-name : (word : List ℕ) → list_all is_name_byte word ≡ true → IsUnbroken word
    unbroken-name [] bytes = All-nil (λ b. b ≢ 10)
    unbroken-name (b ∷ word) bytes =
        let parts = and_parts (is_name_byte b) (list_all is_name_byte word) bytes in
        let other : b ≢ 10 = let byte : is_name_byte b ≡ true = parts.0 in λ same. grind (arith, nat_tests, same) in
        All-cons (λ c. c ≢ 10) b word other (unbroken-name word parts.1)

    unbroken-line : (name : List ℕ) (command : Command) → is_session_name name ≡ true → IsSpelled book Is command → IsUnbroken (command_line book name command)
    unbroken-line name command is spelled =
        let space : 32 ≢ 10 = λ same. omega (arith, same) in
        let words = All-spaced (λ b. b ≢ 10) space (command_words book command) (unbroken-words command spelled) in
        All-append (λ b. b ≢ 10) name (shielded (said_text book command)) (unbroken-name name (and_parts _ _ is).1)
        (unbroken-shielded 32 (spaced (command_words book command)) (All-cons (λ b. b ≢ 10) 32 (spaced (command_words book command)) space words))

-- ---- check steps
module _ (book : Names) where
  IsWord-steps : IsWord (codes "%steps")
  IsWord-steps = record {
    some = omega arith;
    solid = All-from_recursion (λ b. is_blank b ≡ false) (codes "%steps") (refl, (refl, (refl, (refl, (refl, (refl, tt))))));
  }

  words_say-steps : (ids : SessionIds) (words : List (List ℕ)) → words_say book ids (codes "%steps" ∷ words) ≡ asks_says ids ByCount words
  unfolding words_say asked_by
  words_say-steps ids words = refl

  steps_line-read : (name : List ℕ) (steps : ℕ) → is_session_name name ≡ true → steps < 2 ^ 64 → line_if_short (steps_line name steps) ≡ Some (steps_line name steps)
  steps_line-read name steps is fits =
      let number = decimal_plain steps fits in
      let front = codes "%steps" ++ 32 ∷ name in
      let kept = without_return-word front (decimal steps) number.1 number.0 in
      let most = leb-true (length name) 32 (and_parts (nat_le 1 (length name)) (nat_le (length name) 32) (and_parts (nat_le 1 (length name) && nat_le (length name) 32) (list_all is_name_byte name) is).0).1 in
      let digits = length-decimal-le 20 steps (omega arith) (omega (arith, fits)) fits in
      let all = length-append front (32 ∷ decimal steps) in
      let named = length-append (codes "%steps") (32 ∷ name) in
      line_if_short-kept (steps_line name steps) kept (omega (arith, most, digits, all, named))

  steps_line-says : (ids : SessionIds) (name : List ℕ) (id steps : ℕ) → is_session_name name ≡ true → ids name ≡ Some id → 1 ≤ steps → steps < 2 ^ 64
      → line_says book ids (Some (steps_line name steps)) ≡ Ok (Steps name id steps)
  unfolding line_says asks_says
  steps_line-says ids name id steps is opened some fits =
      let words = name ∷ decimal steps ∷ [] in
      let number = decimal_plain steps fits in
      ap (words_say book ids)
      (words_of-spaced (codes "%steps" ∷ words)
      (All-from_recursion IsWord (codes "%steps" ∷ words) (IsWord-steps, (IsWord-name name is, (IsWord-plain (decimal steps) number.1 number.0, tt)))))
      ∙ words_say-steps ids words
      ∙ ap (λ (t : Bool). cond t (line_asking ids name (steps_say (decimal steps ∷ []))) (Err BadName)) is
      ∙ ap (λ (o : Option ℕ). line_asking ids name (asks_steps (ok_or o BadNumber))) (count_written-decimal steps some fits)
      ∙ ap (asked_of (AsksSteps steps) name) opened

  pub steps-read-back : StepsReadBack book
  steps-read-back ids name id steps is opened some fits = ap (line_says book ids) (steps_line-read name steps is fits) ∙ steps_line-says ids name id steps is opened some fits

-- ---- commands
module _ (book : Names) (names : NamesReadBack book) where
  solid-part : (line word : List ℕ) → IsPart line word → IsWord word
  solid-part line word is = is.solid

  pub commands-read-back : CommandsReadBack book
  commands-read-back ids line name id command short said =
      let (is, opened, spelled, within) = IfOk-at_ok (IsRun book ids (IsPart line) (suc (length line))) said (line-run book ids names line) in
      ap (line_says book ids) (command_line-read (IsPart line) (solid-part line) book names name command spelled (omega (arith, short, within)))
      ∙ command_line-says (IsPart line) (solid-part line) book names ids name id command is opened spelled

  pub commands-are-lines : CommandsAreLines book
  commands-are-lines ids line name id command whole said =
      let (is, opened, spelled, within) = IfOk-at_ok (IsRun book ids (IsPart line) (suc (length line))) said (line-run book ids names line) in
      unbroken-line (IsPart line) (solid-part line) book names (λ word part. part.unbroken whole) name command is spelled
