-- The names of a technology's types, and of cells, read back.
use Rattle.std.proofs.Common.{◌≡◌, ◌≢◌, ℕ, zero, suc, ◌<◌, ◌≤◌, ◌==◌, ◌||◌, ◌&&◌, not, Bool, true, false, cond, List, [], ◌∷◌, length, map, get_or, All, Option, Some, None, IfSome, nat_le, nat_lt, refl, sym, ap, subst, ◌∙◌, ⊎_elim, arith, codes, eq-eqb}
use Rattle.std.specs.Prelude.{IsTrue, find, position, slice_get}
use Rattle.std.specs.List.{Any, list_all, list_any}
use Rattle.std.specs.Map.{lookup}
use Rattle.std.specs.Option.{option_map, unwrap_or}
use Rattle.std.proofs.lemmas.Bool.{and_parts, cases_eq, eqb-true, le-leb, leb-true}
use Rattle.std.proofs.lemmas.Bool.Decides.{nat_tests}
use Rattle.std.proofs.lemmas.List.Elements.{All-cons, All-head, All-nil, All-tail}
use Rattle.std.proofs.lemmas.List.Folds.{Any-from_list_any, list_any-from_Any}
use Rattle.std.proofs.lemmas.Slice.Eq.{bytes_eq-Decides}
use Rattle.std.proofs.lemmas.List.{get_or-map, length-map}
use Rattle.std.proofs.lemmas.List.Quantifiers.{position-Some}
use Rattle.std.proofs.lemmas.Option.{slice_get-get_or}
use Rattle.mls_server.proofs.mls_library.SavedNames.{IsUnbroken-type_name, IsWord-type_name}
use Rattle.mls_tech.specs.Names.{is_name, is_name_byte, is_type_name}
use Rattle.mls_tech.specs.Readings.{HasNames, Numbered, none_is_shorter, number_named, short_name_of}
use Rattle.mls_tech.proofs.NameLemmas.{number_named-holds}
use Rattle.mls_server.specs.Settings.{NamedLayout, Setting, cell_names, terms_for}
use Rattle.mls_server.specs.Worlds.{World}
use Rattle.mls_server.specs.mls_session.declared.command.Command.{Command}
use Rattle.mls_text.specs.Words.{same_word}
use Rattle.mls_wire.specs.JournalLines.{command_line, type_word}
use Rattle.mls_wire.specs.ReadBack.{CallsAs, HasShortName, IsListable, JournalsReadBack, NamesReadBack}
use Rattle.mls_wire.specs.NameBooks.{Names, book_of, no_name}
use Rattle.mls_wire.proofs.CalledWords.{same-line}
use Rattle.mls_wire.proofs.PlayedJournals.{plays-again}
use Rattle.mls_wire.proofs.JournalLaws.{commands-are-lines, commands-read-back, steps-read-back}

-- ---- spelling
whole_bytes : (word : List ℕ) → list_all is_name_byte word ≡ true → All (λ b. (b == 44) ≡ false) word
whole_bytes [] spelled = All-nil (λ b. (b == 44) ≡ false)
whole_bytes (b ∷ bytes) spelled =
    let parts = and_parts (is_name_byte b) (list_all is_name_byte bytes) spelled in
    let whole : (b == 44) ≡ false = let byte : is_name_byte b ≡ true = parts.0 in grind (arith, nat_tests) in
    All-cons (λ c. (c == 44) ≡ false) b bytes whole (whole_bytes bytes parts.1)

IsListable-type_name : (word : List ℕ) → is_type_name word ≡ true → IsListable word
unfolding is_type_name is_name
IsListable-type_name word spelled =
    let is = IsWord-type_name word spelled in
    let bytes = (and_parts _ _ (and_parts _ _ (and_parts _ _ (and_parts _ _ spelled).0).0).0).1 in
    record { some = is.some; solid = is.solid; whole = whole_bytes word bytes; unbroken = IsUnbroken-type_name word spelled }

IsListable-space : IsListable (codes "space")
unfolding is_type_name is_name
IsListable-space = IsListable-type_name (codes "space") refl

IsListable-entry : (entry : List ℕ × ℕ) → (entry.1 ≡ 0 → entry.0 ≡ codes "space") → (entry.1 ≢ 0 → IsTrue (is_type_name entry.0)) → IsListable entry.0
IsListable-entry entry space spelled =
    ⊎_elim (λ (none : entry.1 ≡ 0). subst IsListable (sym (space none)) IsListable-space) (λ (other : entry.1 ≡ 0 → ⊥). IsListable-type_name entry.0 (spelled other)) (cases_eq entry.1 0)

-- ---- what is found
module _ {X : Type 0} (test : X → Bool) (P : X → Type 0) where
  abbrev Found : List X → Type 0
  Found xs = (x : X) × (find test xs ≡ Some x) × P x × (test x ≡ true)

  find-next : (y : X) (ys : List X) → P y → (list_any test ys ≡ true → Found ys) → (passes : Bool) → test y ≡ passes → (passes || list_any test ys) ≡ true → Found (y ∷ ys)
  find-next y ys holds later true is here = (y, ap (λ (t : Bool). cond t (Some y) (find test ys)) is, holds, is)
  find-next y ys holds later false is there =
      let (x, found, of_x, passes) = later there in
      (x, ap (λ (t : Bool). cond t (Some y) (find test ys)) is ∙ found, of_x, passes)

  find-any : (xs : List X) → All P xs → list_any test xs ≡ true → Found xs
  find-any [] all any = absurd cc
  find-any (y ∷ ys) all any = find-next y ys (All-head P y ys all) (λ more. find-any ys (All-tail P y ys all) more) (test y) refl any

-- ---- the shortest name
module _ (types : Numbered) (kind : ℕ) where
  -- the entry is of the kind, and its name no longer
  abbrev is_within : ℕ → List ℕ × ℕ → Bool
  is_within most entry = entry.1 == kind && nat_le (length entry.0) most

  abbrev is_shortest : List ℕ × ℕ → Bool
  is_shortest entry = entry.1 == kind && none_is_shorter types kind entry.0

  -- where not all others are as long, some is shorter
  abbrev as_long : ℕ → List ℕ × ℕ → Bool
  as_long len o = not (o.1 == kind) || nat_le len (length o.0)

  abbrev is_shorter : ℕ → List ℕ × ℕ → Bool
  is_shorter len o = o.1 == kind && nat_lt (length o.0) len

  or_true : (a b : Bool) → b ≡ true → (a || b) ≡ true
  or_true true b h = refl
  or_true false b h = h

  lt-not_le : (n m : ℕ) → nat_le n m ≡ false → nat_lt m n ≡ true
  lt-not_le n m above = grind (arith, nat_tests)

  shorter-next : (len : ℕ) (entry : List ℕ × ℕ) (all any : Bool) → (all ≡ false → any ≡ true) → (is long : Bool) → nat_le len (length entry.0) ≡ long
      → ((not is || long) && all) ≡ false → ((is && nat_lt (length entry.0) len) || any) ≡ true
  shorter-next len entry all any later true true e none = or_true (nat_lt (length entry.0) len) any (later none)
  shorter-next len entry all any later true false e none = ap (λ (t : Bool). t || any) (lt-not_le len (length entry.0) e)
  shorter-next len entry all any later false long e none = later none

  some_shorter : (len : ℕ) (entries : Numbered) → list_all (as_long len) entries ≡ false → list_any (is_shorter len) entries ≡ true
  some_shorter len [] not_all = absurd cc
  some_shorter len (entry ∷ entries) not_all =
      shorter-next len entry (list_all (as_long len) entries) (list_any (is_shorter len) entries) (λ more. some_shorter len entries more) (entry.1 == kind)
      (nat_le len (length entry.0)) refl not_all

  both_true : (a b : Bool) → a ≡ true → b ≡ true → (a && b) ≡ true
  both_true a b x y = ap (λ (t : Bool). t && b) x ∙ y

  -- from an entry that is no longer than this, where those that are shorter are done
  shortest-from : (most : ℕ) → ((n : ℕ) → most ≡ suc n → list_any (is_within n) types ≡ true → list_any is_shortest types ≡ true)
      → Any (λ e. is_within most e ≡ true) types → list_any is_shortest types ≡ true
  shortest-from most shorter (k, entry, within, at, passes) = by (none_is_shorter types kind entry.0) refl
    where
      parts : (entry.1 == kind ≡ true) × (nat_le (length entry.0) most ≡ true)
      parts = and_parts (entry.1 == kind) (nat_le (length entry.0) most) passes

      next : (o : List ℕ × ℕ) (n : ℕ) → most ≡ n → (j : ℕ) → j < length types → get_or types j o ≡ o → (o.1 == kind) ≡ true → nat_lt (length o.0) (length entry.0) ≡ true
          → list_any is_shortest types ≡ true
      next o zero is j within_j at_j same lt = let le = parts.1 in absurd (grind (arith, nat_tests, is))
      next o (suc n) is j within_j at_j same lt =
          let le = parts.1 in
          let fits : nat_le (length o.0) n ≡ true = grind (arith, nat_tests, is) in
          shorter n is (list_any-from_Any (is_within n) types (j, o, within_j, at_j, both_true (o.1 == kind) (nat_le (length o.0) n) same fits))

      by : (test : Bool) → none_is_shorter types kind entry.0 ≡ test → list_any is_shortest types ≡ true
      by true is = list_any-from_Any is_shortest types (k, entry, within, at, both_true (entry.1 == kind) (none_is_shorter types kind entry.0) parts.0 is)
      by false is =
          let (j, o, within_j, at_j, holds) = Any-from_list_any (λ o. o.1 == kind && nat_lt (length o.0) (length entry.0)) types (some_shorter (length entry.0) types is) in
          let both = and_parts (o.1 == kind) (nat_lt (length o.0) (length entry.0)) holds in
          next o most refl j within_j at_j both.0 both.1

  shortest-any : (most : ℕ) → list_any (is_within most) types ≡ true → list_any is_shortest types ≡ true
  shortest-any zero any = shortest-from zero (λ n is _. absurd (omega (arith, is))) (Any-from_list_any (is_within zero) types any)
  shortest-any (suc n) any =
      shortest-from (suc n)
      (λ m is more. let same : m ≡ n = omega (arith, is) in shortest-any n (subst (λ (k : ℕ). list_any (is_within k) types ≡ true) same more))
      (Any-from_list_any (is_within (suc n)) types any)

-- a name that is looked up is in the list
module _ (types : Numbered) (word : List ℕ) (kind : ℕ) where
  abbrev fits_within : List ℕ × ℕ → Bool
  fits_within = is_within types kind (length word)

  named-next : (entry : List ℕ × ℕ) (entries : Numbered) → (lookup (same_word word) entries ≡ Some kind → list_any fits_within entries ≡ true) → (test : Bool)
      → same_word word entry.0 ≡ test → cond test (Some entry.1) (lookup (same_word word) entries) ≡ Some kind → (fits_within entry || list_any fits_within entries) ≡ true
  named-next entry entries later true is found =
      let same : word ≡ entry.0 = (bytes_eq-Decides word entry.0).0 is in
      let number : entry.1 ≡ kind = cc in
      let fits : length entry.0 ≤ length word = omega (arith, ap length same) in
      ap (λ (t : Bool). t || list_any fits_within entries)
      (both_true types kind (entry.1 == kind) (nat_le (length entry.0) (length word)) (eq-eqb entry.1 kind number) (le-leb (length entry.0) (length word) fits))
  named-next entry entries later false is found = or_true types kind (fits_within entry) (list_any fits_within entries) (later found)

  named-from : (entries : Numbered) → lookup (same_word word) entries ≡ Some kind → list_any fits_within entries ≡ true
  named-from [] named = absurd cc
  named-from (entry ∷ entries) named = named-next entry entries (λ more. named-from entries more) (same_word word entry.0) refl named

named-within : (types : Numbered) (word : List ℕ) (kind : ℕ) → number_named types word ≡ Some kind → list_any (is_within types kind (length word)) types ≡ true
named-within types word kind named = named-from types word kind types named

-- a name that is looked up is no shorter than each entry of the kind has to be
module _ (word : List ℕ) (kind len : ℕ) where
  long-next : (test is all : Bool) (entry : List ℕ × ℕ) (found : Option ℕ) → same_word word entry.0 ≡ test → (entry.1 == kind) ≡ is
      → ((not is || nat_le len (length entry.0)) && all) ≡ true → (found ≡ Some kind → all ≡ true → len ≤ length word) → cond test (Some entry.1) found ≡ Some kind → len ≤ length word
  long-next true true all entry found e is parts later named =
      let same : word ≡ entry.0 = (bytes_eq-Decides word entry.0).0 e in
      let most = leb-true len (length entry.0) (and_parts (nat_le len (length entry.0)) all parts).0 in
      omega (arith, ap length same, most)
  long-next true false all entry found e is parts later named =
      let number : entry.1 ≡ kind = cc in
      let bad = sym is ∙ eq-eqb entry.1 kind number in
      absurd cc
  long-next false is all entry found e kept parts later named = later named (and_parts (not is || nat_le len (length entry.0)) all parts).1

  long-from : (entries : Numbered) → list_all (λ o. not (o.1 == kind) || nat_le len (length o.0)) entries ≡ true → lookup (same_word word) entries ≡ Some kind → len ≤ length word
  long-from [] all named = absurd cc
  long-from (entry ∷ entries) all named =
      long-next (same_word word entry.0) (entry.1 == kind) (list_all (λ o. not (o.1 == kind) || nat_le len (length o.0)) entries) entry (lookup (same_word word) entries) refl refl all
      (λ found rest. long-from entries rest found) named

-- ---- a technology's types
module _ (types : Numbered) (type_planes : List ℕ) (has : HasNames types type_planes) where
  abbrev HasShort : ℕ → Type 0
  HasShort kind = (name : List ℕ) × (short_name_of types kind ≡ Some name) × IsListable name × (number_named types name ≡ Some kind)

  abbrev IsListed : List ℕ × ℕ → Type 0
  IsListed entry = IsListable entry.0 × (number_named types entry.0 ≡ Some entry.1)

  listed : All IsListed types
  listed k d within = (IsListable-entry (get_or types k d) (has.space k d within) (has.spelled k d within), has.once k d within)

  -- no longer than that by which it was looked up
  pub short-name : (word : List ℕ) (kind : ℕ) → number_named types word ≡ Some kind → HasShort kind × (length (unwrap_or (short_name_of types kind) no_name) ≤ length word)
  short-name word kind named =
      let (entry, found, holds, passes) = find-any (is_shortest types kind) IsListed types listed (shortest-any types kind (length word) (named-within types word kind named)) in
      let parts = and_parts (entry.1 == kind) (none_is_shorter types kind entry.0) passes in
      let number : entry.1 ≡ kind = eqb-true entry.1 kind parts.0 in
      let is = ap (option_map (λ (e : List ℕ × ℕ). e.0)) found in
      let short = long-from word kind (length entry.0) types parts.1 named in
      let written = ap (λ (o : Option (List ℕ)). length (unwrap_or o no_name)) is in
      ((entry.0, is, holds.0, holds.1 ∙ ap Some number), omega (arith, short, written))

  -- a word that is no name
  lookup-unlisted : (word : List ℕ) → ((name : List ℕ) → IsListable name → same_word word name ≡ false) → (entries : Numbered) → All (λ e. IsListable e.0) entries
      → lookup (same_word word) entries ≡ None
  lookup-unlisted word other [] all = refl
  lookup-unlisted word other (entry ∷ entries) all =
      ap (λ (t : Bool). cond t (Some entry.1) (lookup (same_word word) entries)) (other entry.0 (All-head (λ e. IsListable e.0) entry entries all))
      ∙ lookup-unlisted word other entries (All-tail (λ e. IsListable e.0) entry entries all)

  not_empty : (name : List ℕ) → IsListable name → same_word [] name ≡ false
  not_empty [] is = absurd (omega (arith, is.some))
  not_empty (b ∷ name) is = refl

  not_comma : (name : List ℕ) → IsListable name → same_word no_name name ≡ false
  not_comma [] is = absurd (omega (arith, is.some))
  not_comma (b ∷ name) is =
      let whole : (b == 44) ≡ false = All-head (λ c. (c == 44) ≡ false) b name is.whole in
      let bare : (44 == b) ≡ false = grind (arith, nat_tests) in
      ap (λ (t : Bool). t && same_word [] name) bare

  pub no_empty_name : number_named types [] ≡ None
  no_empty_name = lookup-unlisted [] not_empty types (λ k d within. (listed k d within).0)

  pub no_comma_name : number_named types no_name ≡ None
  no_comma_name = lookup-unlisted no_name not_comma types (λ k d within. (listed k d within).0)

-- ---- a world's
cell-name : (cells : List NamedLayout) (word : List ℕ) (found : Option ℕ) → position (λ cell. same_word word cell.name) cells ≡ found
    → IfSome found (λ k. slice_get (map (λ cell. cell.name) cells) k ≡ Some word)
cell-name cells word None is = tt
cell-name cells word (Some k) is = by cells is
  where
    by : (list : List NamedLayout) → position (λ cell. same_word word cell.name) list ≡ Some k → slice_get (map (λ cell. cell.name) list) k ≡ Some word
    by [] none = absurd cc
    by (cell ∷ others) found =
        let list = cell ∷ others in
        let at = position-Some (λ c. same_word word c.name) list k cell found in
        let same : word ≡ (get_or list k cell).name = (bytes_eq-Decides word (get_or list k cell).name).0 at.1 in
        let within : k < length (map (λ c. c.name) list) = omega (arith, at.0, length-map list (λ c. c.name)) in
        slice_get-get_or (map (λ c. c.name) list) k [] within ∙ ap Some (get_or-map (λ c. c.name) list k cell [] at.0 ∙ sym same)

-- a comma calls no cell
called-name : (cells : List NamedLayout) (word : List ℕ) (comma : Bool)
    → IfSome (cond comma None (position (λ cell. same_word word cell.name) cells)) (λ k. slice_get (map (λ cell. cell.name) cells) k ≡ Some word)
called-name cells word true = tt
called-name cells word false = cell-name cells word (position (λ cell. same_word word cell.name) cells) refl

pub names-read-back : (on : World) → HasNames on.setting.tech.types on.setting.tech.type_planes → All (λ entry. entry.1 < 64) on.setting.tech.types → NamesReadBack (book_of on)
names-read-back on has few =
    let types = on.setting.tech.types in
    let planes = on.setting.tech.type_planes in
    record {
      types = λ word. by word (number_named types word) refl;
      shortest = λ word. short word (number_named types word) refl;
      cells = λ word. called-name on.setting.cells word (same_word word no_name);
      nothing = no_empty_name types planes has;
      no_type = no_comma_name types planes has;
      no_cell = refl;
    }
  where
    by : (word : List ℕ) (found : Option ℕ) → number_named on.setting.tech.types word ≡ found → IfSome found (λ kind. (kind < 64) × HasShortName (book_of on) kind)
    by word None is = tt
    by word (Some kind) is =
        (number_named-holds (λ k. k < 64) on.setting.tech.types word few kind is, (short-name on.setting.tech.types on.setting.tech.type_planes has word kind is).0)

    short : (word : List ℕ) (found : Option ℕ) → number_named on.setting.tech.types word ≡ found → IfSome found (λ kind. length (type_word (book_of on) (Some kind)) ≤ length word)
    short word None is = tt
    short word (Some kind) is = (short-name on.setting.tech.types on.setting.tech.type_planes has word kind is).1

-- whatever sessions are open
module _ (setting : Setting) (has : HasNames setting.tech.types setting.tech.type_planes) (few : All (λ entry. entry.1 < 64) setting.tech.types) where
  of-setting : (on : World) → on.setting ≡ setting → NamesReadBack (book_of on)
  of-setting on is =
      names-read-back on (subst (λ (s : Setting). HasNames s.tech.types s.tech.type_planes) (sym is) has) (subst (λ (s : Setting). All (λ entry. entry.1 < 64) s.tech.types) (sym is) few)

  same-called : (book : Names) → CallsAs book setting → (on : World) → on.setting ≡ setting → (name : List ℕ) (command : Command)
      → command_line book name command ≡ command_line (book_of on) name command
  same-called book calls on is =
      same-line book (book_of on)
      (λ kind. calls.types kind ∙ ap (λ (s : Setting). short_name_of s.tech.types kind) (sym is))
      (λ cell. calls.cells cell ∙ ap (λ (s : Setting). slice_get (cell_names s) cell) (sym is))

  pub journals-read-back : JournalsReadBack setting
  journals-read-back = record {
    commands = λ on is. commands-read-back (book_of on) (of-setting on is);
    lines = λ on is. commands-are-lines (book_of on) (of-setting on is);
    steps = λ on is. steps-read-back (book_of on);
    same = same-called;
    plays = plays-again (terms_for setting);
  }
