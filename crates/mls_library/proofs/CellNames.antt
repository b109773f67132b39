-- Cells are looked up by name as the keys of a map are.
use Rattle.std.proofs.Common.{◌≡◌, ℕ, suc, ◌+◌, Bool, true, false, not, cond, nat_le, nat_lt, List, [], ◌∷◌, ◌++◌, length, map, Option, Some, None, is_some, refl, sym, ap, ◌∙◌, length-append, arith}
use Rattle.std.specs.List.{position, position_or_len}
use Rattle.std.proofs.lemmas.Bool.{ltb-false}
use Rattle.std.proofs.lemmas.List.{get_or_append_left, length-map}
use Rattle.std.proofs.lemmas.List.Sums.{prefix_len-le-length}
use Rattle.std.proofs.lemmas.Option.{slice_get-get_or}
use Rattle.indexmap.specs.IndexMap.{insert_entry}
use Rattle.mls_text.specs.Words.{same_word}
use Rattle.mls_library.specs.Inner.{cells_in, named_cell}
use Rattle.mls_library.specs.Libraries.{Cell, KeepsCells, Library, NamedCell, cell_named, is_cell_name, most_cells, name_fault, names_of}
use Rattle.mls_library.specs.declared.fault.CellFaultKind.{CellFaultKind}
use Rattle.mls_library.specs.declared.fault.CellFaultKind.TheVariants.{Form, LibraryFull, NameTwice}

module _ {K V : Type 0} (bytes : K → List ℕ) (cell_of : V → Cell) (word : List ℕ) where
  place_in-keys : (entries : List (K × V))
      → position_or_len (λ cell. same_word word cell.name) (cells_in bytes cell_of entries) ≡ position_or_len (λ key. same_word word (bytes key)) (map (λ entry. entry.0) entries)
  place_in-keys [] = refl
  place_in-keys (entry ∷ entries) = ap (λ n. cond (not (same_word word (bytes entry.0))) (1 + n) 0) (place_in-keys entries)

  length_in-keys : (entries : List (K × V)) → length (cells_in bytes cell_of entries) ≡ length (map (λ entry. entry.0) entries)
  length_in-keys [] = refl
  length_in-keys (entry ∷ entries) = ap suc (length_in-keys entries)

  pub cell_named-keys : (entries : List (K × V))
      → cell_named (cells_in bytes cell_of entries) word ≡ position (λ key. same_word word (bytes key)) (map (λ entry. entry.0) entries)
  cell_named-keys entries = rw (place_in-keys entries, length_in-keys entries) refl

-- a word that passes nowhere
passes_nowhere : (b : Bool) (n length : ℕ) → cond (not b) (1 + n) 0 ≡ suc length → (b ≡ false) × (n ≡ length)
passes_nowhere true n length e = absurd (omega (arith, e))
passes_nowhere false n length e = (refl, omega (arith, e))

module _ {K V : Type 0} (bytes : K → List ℕ) (cell_of : V → Cell) where
  -- a cell whose name is new goes last
  pub cells_in-insert_entry : (entries : List (K × V)) (key : K) (value : V)
      → position_or_len (λ cell. same_word (bytes key) cell.name) (cells_in bytes cell_of entries) ≡ length (cells_in bytes cell_of entries)
      → cells_in bytes cell_of (insert_entry (λ a b. same_word (bytes a) (bytes b)) entries key value)
      ≡ cells_in bytes cell_of entries ++ named_cell (bytes key) (cell_of value) ∷ []
  cells_in-insert_entry [] key value new = refl
  cells_in-insert_entry (entry ∷ entries) key value new =
      let absent = passes_nowhere (same_word (bytes key) (bytes entry.0)) _ (length (cells_in bytes cell_of entries)) new in
      ap (λ b. cells_in bytes cell_of (cond b ((entry.0, value) ∷ entries) (entry ∷ insert_entry (λ a b. same_word (bytes a) (bytes b)) entries key value))) absent.0
      ∙ ap (λ cells. named_cell (bytes entry.0) (cell_of entry.1) ∷ cells) (cells_in-insert_entry entries key value absent.1)

-- cells have one place by their names, and one number
module _ (name : List ℕ) where
  place_in-names : (cells : Library) → position_or_len (same_word name) (names_of cells) ≡ position_or_len (λ cell. same_word name cell.name) cells
  place_in-names [] = refl
  place_in-names (cell ∷ cells) = ap (λ n. cond (not (same_word name cell.name)) (1 + n) 0) (place_in-names cells)

  pub position-names : (cells : Library) → position (same_word name) (names_of cells) ≡ cell_named cells name
  position-names cells = rw (place_in-names cells, length-map cells (λ cell. cell.name)) refl

-- what is wrong with a name, by the cells themselves
pub name_fault-cells : (cells : Library) (name : List ℕ)
    → name_fault (names_of cells) name
    ≡ cond (not (is_cell_name name)) (Some Form) (cond (is_some (cell_named cells name)) (Some NameTwice) (cond (nat_le most_cells (length cells)) (Some LibraryFull) None))
unfolding name_fault
name_fault-cells cells name = ap by_both (position-names name cells) ∙ ap by_count (length-map cells (λ cell. cell.name))
  where
    by_both : Option ℕ → Option CellFaultKind
    by_both found = cond (not (is_cell_name name)) (Some Form) (cond (is_some found) (Some NameTwice) (cond (nat_le most_cells (length (names_of cells))) (Some LibraryFull) None))

    by_count : ℕ → Option CellFaultKind
    by_count count = cond (not (is_cell_name name)) (Some Form) (cond (is_some (cell_named cells name)) (Some NameTwice) (cond (nat_le most_cells count) (Some LibraryFull) None))

-- without a fault no cell has the name
pub name_fault-unnamed : (cells : Library) (name : List ℕ) → name_fault (names_of cells) name ≡ None → cell_named cells name ≡ None
name_fault-unnamed cells name e = unnamed (not (is_cell_name name)) (cell_named cells name) _ (sym (name_fault-cells cells name) ∙ e)
  where
    unnamed : (b : Bool) (found : Option ℕ) (full : Option CellFaultKind) → cond b (Some Form) (cond (is_some found) (Some NameTwice) full) ≡ None → found ≡ None
    unnamed true found full e = cc
    unnamed false (Some n) full e = cc
    unnamed false None full e = refl

-- what has no place is at none
unplaced : {X : Type 0} (p : X → Bool) (xs : List X) → position p xs ≡ None → position_or_len p xs ≡ length xs
unplaced p xs e = omega (arith, prefix_len-le-length (λ x. not (p x)) xs, ltb-false (position_or_len p xs) (length xs) (untaken (nat_lt (position_or_len p xs) (length xs)) _ e))
  where
    untaken : (b : Bool) (n : ℕ) → cond b (Some n) None ≡ None → b ≡ false
    untaken true n e = cc
    untaken false n e = refl

module _ {K V : Type 0} (bytes : K → List ℕ) (cell_of : V → Cell) (cells : Library) (entries : List (K × V)) (key : K) (same : cells_in bytes cell_of entries ≡ cells) (new : name_fault (names_of cells) (bytes key) ≡ None) where
  nowhere : position_or_len (λ cell. same_word (bytes key) cell.name) (cells_in bytes cell_of entries) ≡ length (cells_in bytes cell_of entries)
  nowhere = unplaced _ _ (ap (λ found. cell_named found (bytes key)) same ∙ name_fault-unnamed cells (bytes key) new)

  -- a cell whose name is new is put after the others
  pub cells_in-new : (value : V)
      → cells_in bytes cell_of (insert_entry (λ a b. same_word (bytes a) (bytes b)) entries key value) ≡ cells ++ named_cell (bytes key) (cell_of value) ∷ []
  cells_in-new value = cells_in-insert_entry bytes cell_of entries key value nowhere ∙ ap (λ found. found ++ named_cell (bytes key) (cell_of value) ∷ []) same

  pub place_of_new : position_or_len (λ k. same_word (bytes key) (bytes k)) (map (λ entry. entry.0) entries) ≡ length cells
  place_of_new = sym (place_in-keys bytes cell_of (bytes key) entries) ∙ nowhere ∙ ap length same

-- cells that are put after the others leave their numbers
pub KeepsCells-append : (cells more : Library) → KeepsCells cells (cells ++ more)
KeepsCells-append cells more id within =
    let any : NamedCell = record { name = []; planes = []; bounds = None } in
    slice_get-get_or (cells ++ more) id any (omega (arith, within, length-append cells more))
    ∙ ap Some (get_or_append_left cells more any id within)
    ∙ sym (slice_get-get_or cells id any within)
