-- The words that are written for a command are no longer than those that said it.
use Rattle.std.proofs.Common.{◌≡◌, ℕ, ℤ, suc, ◌≤◌, true, cond, List, [], ◌∷◌, length, map, All, Option, Some, None, Result, Ok, Err, IfSome, IfOk, refl, sym, ap, subst, arith, codes}
use Rattle.std.specs.Fmt.{signed_decimal}
use Rattle.std.specs.List.{list_any}
use Rattle.std.specs.Option.{unwrap_or}
use Rattle.std.proofs.lemmas.Bool.{cond_both}
use Rattle.std.proofs.lemmas.List.Elements.{All-head, All-tail}
use Rattle.std.proofs.lemmas.Slice.Eq.{bytes_eq-Decides}
use Rattle.mls_kinds.specs.KindSets.{has_bit, members}
use Rattle.mls_server.proofs.mls_library.SavedLines.{IsWord}
use Rattle.mls_server.specs.mls_session.declared.command.Command.{Command}
use Rattle.mls_server.specs.mls_session.declared.command.Command.TheVariants.{Dump, GetCell, What, Save, Check, CatchUp, Why, Count}
use Rattle.mls_text.specs.Fields.{fields_of}
use Rattle.mls_text.specs.Words.{same_word}
use Rattle.mls_wire.specs.JournalLines.{cell_word, command_words, listed_types, type_word, types_word}
use Rattle.mls_wire.specs.ReadBack.{NamesReadBack}
use Rattle.mls_wire.specs.NameBooks.{Names, no_name}
use Rattle.mls_wire.specs.Numbers.{number_of}
use Rattle.mls_wire.specs.Says.{alone_says, box_of, command_of, drc_of, drc_says, dump_of, edit_of, erase_says, getcell_of, moved_by, moved_cell_says, names_type, paint_says, sides_of, sides_say, types_named}
use Rattle.mls_wire.specs.declared.line.LineFault.{LineFault}
use Rattle.mls_wire.specs.declared.line.LineFault.TheVariants.{UnknownCommand}
use Rattle.mls_wire.specs.declared.parse.MovedCell.{MovedCell}
use Rattle.mls_wire.proofs.SaidSides.{sides_of-by, sides_say-by}
use Rattle.mls_wire.proofs.SpelledCommands.{HasTypes, HasTypesIfAny, fields_of-field, types_named-any, types_named-spelled}
use Rattle.mls_wire.proofs.WrittenLengths.{IsNoLonger, length-joined, number_of-length, width, width-fields_of, width-named}

module _ (book : Names) (names : NamesReadBack book) where
  -- the command is written in no more bytes than these words have
  abbrev pub IsWithin : List (List ℕ) → Command → Type 0
  IsWithin words command = width (command_words book command) ≤ width words

  abbrev AreWithin : List (List ℕ) → Result Command LineFault → Type 0
  AreWithin words said = IfOk said (IsWithin words)

  -- ---- box
  box-within : (lw bw rw tw : List ℕ) (l b r t : Option ℤ) → IfSome l (IsNoLonger lw) → IfSome b (IsNoLonger bw) → IfSome r (IsNoLonger rw) → IfSome t (IsNoLonger tw)
      → AreWithin (codes "box" ∷ lw ∷ bw ∷ rw ∷ tw ∷ []) (box_of (sides_of l b r t))
  unfolding command_words
  box-within lw bw right_word tw l b r t hl hb hr ht =
      sides_of-by (λ said. AreWithin (codes "box" ∷ lw ∷ bw ∷ right_word ∷ tw ∷ []) (box_of said)) l b r t tt
      (λ left bottom right top l_is b_is r_is t_is. omega (arith, rw l_is at hl, rw b_is at hb, rw r_is at hr, rw t_is at ht))

  box_says-within : (words : List (List ℕ)) → AreWithin (codes "box" ∷ words) (box_of (sides_say words))
  box_says-within =
      sides_say-by (λ words said. AreWithin (codes "box" ∷ words) (box_of said)) (λ words. tt)
      (λ l b r t. box-within l b r t (number_of l) (number_of b) (number_of r) (number_of t) (number_of-length l) (number_of-length b) (number_of-length r) (number_of-length t))

  -- ---- types
  type-within : (word : List ℕ) → IsWord word → (found : Option ℕ) → IfSome found (λ kind. length (type_word book (Some kind)) ≤ length word)
      → length (type_word book found) ≤ length word
  type-within word is None short = omega (arith, is.some)
  type-within word is (Some kind) short = short

  paint-within : (words : List (List ℕ)) → All IsWord words → AreWithin (codes "paint" ∷ words) (paint_says book words)
  unfolding command_words
  paint-within [] are = tt
  paint-within (word ∷ []) are =
      let short = type-within word (All-head IsWord word [] are) (book.type_of word) (names.shortest word) in
      omega (arith, short)
  paint-within (word ∷ more ∷ words) are = tt

  -- the names of the types of a set that words name
  joined-within : (kinds : ℕ) (words : List (List ℕ)) → ((kind : ℕ) → has_bit kinds kind ≡ true → list_any (names_type book kind) words ≡ true)
      → HasTypes book kinds → suc (length (types_word book (Some kinds))) ≤ width words
  unfolding members
  joined-within kinds words named has =
      let word_of = λ (k : ℕ). type_word book (Some k) in
      let all = width-named word_of book.type_of names.shortest (has_bit kinds) words named in
      let list = ap (listed_types book) has.some in
      let joined = length-joined 44 (word_of has.first) (map word_of has.rest) in
      let same = ap (λ (l : List ℕ). width (map word_of l)) has.some in
      omega (arith, all, ap length list, joined, same)

  types-within : (list : List ℕ) → IsWord list → (found : Option ℕ) → types_named book (fields_of list) ≡ found → HasTypesIfAny book found → length (types_word book found) ≤ length list
  types-within list is None named has = omega (arith, is.some)
  types-within list is (Some kinds) named has =
      let within = joined-within kinds (fields_of list) (λ kind. types_named-any IsWord book names (fields_of list) kinds kind named) has in
      let whole = width-fields_of list in
      omega (arith, within, whole)

  erase-within : (words : List (List ℕ)) → All IsWord words → AreWithin (codes "erase" ∷ words) (erase_says book words)
  unfolding command_words
  erase-within [] are = tt
  erase-within (list ∷ []) are =
      let (field, others, begins) = fields_of-field list in
      let has = types_named-spelled IsWord book names (fields_of list) field others begins in
      let short = types-within list (All-head IsWord list [] are) (types_named book (fields_of list)) refl has in
      omega (arith, short)
  erase-within (list ∷ more ∷ words) are = tt

  -- ---- cells
  cell-within : (word : List ℕ) → IsWord word → (found : Option ℕ) → IfSome found (λ cell. book.cell_name cell ≡ Some word) → length (cell_word book found) ≤ length word
  cell-within word is None named = omega (arith, is.some)
  cell-within word is (Some cell) named = let same = ap (λ (o : Option (List ℕ)). length (unwrap_or o no_name)) named in omega (arith, same)

  module _ (verb : List ℕ) (make : MovedCell → Command)
      (written : (moved : MovedCell) → command_words book (make moved) ≡ verb ∷ cell_word book moved.cell ∷ signed_decimal moved.dx ∷ signed_decimal moved.dy ∷ []) where
    abbrev made_of : Result MovedCell LineFault → Result Command LineFault
    made_of (Ok moved) = Ok (make moved)
    made_of (Err fault) = Err fault

    moved_by-within : (word xw yw : List ℕ) (cell : Option ℕ) (dx dy : Option ℤ) → length (cell_word book cell) ≤ length word → IfSome dx (IsNoLonger xw) → IfSome dy (IsNoLonger yw)
        → AreWithin (verb ∷ word ∷ xw ∷ yw ∷ []) (made_of (moved_by cell dx dy))
    unfolding moved_by
    moved_by-within word xw yw cell None dy hc hx hy = tt
    moved_by-within word xw yw cell (Some dx) None hc hx hy = tt
    moved_by-within word xw yw cell (Some dx) (Some dy) hc hx hy =
        let same = ap width (written (record { cell = cell; dx = dx; dy = dy })) in
        omega (arith, hc, hx, hy, same)

    moved_cell-within : (words : List (List ℕ)) → All IsWord words → AreWithin (verb ∷ words) (made_of (moved_cell_says book words))
    unfolding moved_cell_says
    moved_cell-within [] are = tt
    moved_cell-within (name ∷ []) are = tt
    moved_cell-within (name ∷ dx ∷ []) are = tt
    moved_cell-within (name ∷ dx ∷ dy ∷ []) are =
        moved_by-within name dx dy (book.cell_of name) (number_of dx) (number_of dy)
        (cell-within name (All-head IsWord name (dx ∷ dy ∷ []) are) (book.cell_of name) (names.cells name)) (number_of-length dx) (number_of-length dy)
    moved_cell-within (name ∷ dx ∷ dy ∷ more ∷ words) are = tt

    -- it makes no difference how the command is made of the cell
    edit-within : (edit : Result MovedCell LineFault → Result Command LineFault) → ((moved : MovedCell) → edit (Ok moved) ≡ Ok (make moved))
        → ((fault : LineFault) → edit (Err fault) ≡ Err fault) → (words : List (List ℕ)) → All IsWord words → AreWithin (verb ∷ words) (edit (moved_cell_says book words))
    edit-within edit is_made is_fault words are = by (moved_cell_says book words) (moved_cell-within words are)
      where
        by : (said : Result MovedCell LineFault) → AreWithin (verb ∷ words) (made_of said) → AreWithin (verb ∷ words) (edit said)
        by (Ok moved) within = subst (AreWithin (verb ∷ words)) (sym (is_made moved)) within
        by (Err fault) within = subst (AreWithin (verb ∷ words)) (sym (is_fault fault)) tt

  dump-within : (words : List (List ℕ)) → All IsWord words → AreWithin (codes "dump" ∷ words) (dump_of (moved_cell_says book words))
  unfolding command_words
  dump-within =
      edit-within (codes "dump") (λ moved. Dump moved.cell moved.dx moved.dy) (λ moved. refl) dump_of (λ moved. refl) (λ fault. refl)

  getcell-within : (words : List (List ℕ)) → All IsWord words → AreWithin (codes "getcell" ∷ words) (getcell_of (moved_cell_says book words))
  unfolding command_words
  getcell-within =
      edit-within (codes "getcell") (λ moved. GetCell moved.cell moved.dx moved.dy) (λ moved. refl) getcell_of (λ moved. refl) (λ fault. refl)

  -- ---- others
  save-within : (words : List (List ℕ)) → AreWithin (codes "save" ∷ words) (alone_says Save words)
  unfolding command_words
  save-within [] = omega arith
  save-within (word ∷ words) = tt

  what-within : (words : List (List ℕ)) → AreWithin (codes "what" ∷ words) (alone_says What words)
  unfolding command_words
  what-within [] = omega arith
  what-within (word ∷ words) = tt

  -- a word that was compared is as long
  branch : (words : List (List ℕ)) (verb name : List ℕ) (r other : Result Command LineFault) → AreWithin (name ∷ words) r → AreWithin (verb ∷ words) other
      → AreWithin (verb ∷ words) (cond (same_word verb name) r other)
  branch words verb name r other within later =
      cond_both (same_word verb name) r other (AreWithin (verb ∷ words))
      (λ is. let same : verb ≡ name = (bytes_eq-Decides verb name).0 is in subst (λ (word : List ℕ). AreWithin (word ∷ words) r) (sym same) within)
      (λ _. later)

  drc_of-within : (word : List ℕ) → AreWithin (codes "drc" ∷ word ∷ []) (drc_of word)
  unfolding drc_of command_words
  drc_of-within word =
      by (codes "check") Check (omega arith) _
      (by (codes "catchup") CatchUp (omega arith) _
      (by (codes "why") Why (omega arith) _
      (by (codes "count") Count (omega arith) (Err UnknownCommand) tt)))
    where
      by : (name : List ℕ) (command : Command) → IsWithin (codes "drc" ∷ name ∷ []) command → (other : Result Command LineFault) → AreWithin (codes "drc" ∷ word ∷ []) other
          → AreWithin (codes "drc" ∷ word ∷ []) (cond (same_word word name) (Ok command) other)
      by name command within other later =
          cond_both (same_word word name) (Ok command) other (AreWithin (codes "drc" ∷ word ∷ []))
          (λ is. let same = ap length ((bytes_eq-Decides word name).0 is) in omega (arith, same, within))
          (λ _. later)

  drc-within : (words : List (List ℕ)) → AreWithin (codes "drc" ∷ words) (drc_says words)
  drc-within [] = tt
  drc-within (word ∷ []) = drc_of-within word
  drc-within (word ∷ more ∷ words) = tt

  pub command_of-within : (words : List (List ℕ)) → All IsWord words → AreWithin words (command_of book words)
  unfolding command_of edit_of
  command_of-within [] are = tt
  command_of-within (verb ∷ words) are =
      let others = All-tail IsWord verb words are in
      branch words verb (codes "box") _ _ (box_says-within words)
      (branch words verb (codes "what") _ _ (what-within words)
      (branch words verb (codes "save") _ _ (save-within words)
      (branch words verb (codes "drc") _ _ (drc-within words)
      (branch words verb (codes "paint") _ _ (paint-within words others)
      (branch words verb (codes "erase") _ _ (erase-within words others)
      (branch words verb (codes "dump") _ _ (dump-within words others)
      (branch words verb (codes "getcell") _ (Err UnknownCommand) (getcell-within words others) tt)))))))
