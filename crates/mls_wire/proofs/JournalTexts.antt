-- The text of a journal, appended part by part.
use Rattle.std.proofs.Common.{◌≡◌, ℕ, ◌+◌, ◌==◌, Bool, true, false, not, append_assoc, List, [], ◌∷◌, ◌++◌, ℤ, length, length-append, refl, sym, ap, ◌∙◌, codes, arith}
use Rattle.std.specs.Prelude.{if◌then◌else◌, nat_lt}
use Rattle.std.specs.Fmt.{decimal, signed_decimal}
use Rattle.std.specs.List.{count_by, filter, flat_map}
use Rattle.std.proofs.lemmas.Bool.Decides.{nat_tests}
use Rattle.std.proofs.lemmas.List.Concat.{flat_map-append}
use Rattle.std.proofs.lemmas.List.Sums.{length-filter}
use Rattle.mls_server.specs.mls_library.SavedCells.{spaced}
use Rattle.mls_server.specs.mls_session.JournalCopies.{JournalCopy}
use Rattle.mls_server.specs.mls_session.declared.journal.Entry.{Entry}
use Rattle.mls_wire.specs.JournalLines.{box_text, command_line, counted_text, entry_lines, entry_text, fed_lines, journal_lines, journal_text, pair_text, steps_line, steps_lines}
use Rattle.mls_wire.specs.NameBooks.{Names}

fed_lines-append : (xs ys : List (List ℕ)) → fed_lines (xs ++ ys) ≡ fed_lines xs ++ fed_lines ys
fed_lines-append xs ys = flat_map-append (λ line. 10 ∷ line) xs ys

module _ (book : Names) (name : List ℕ) where
  fed_lines-entries : (entries : List Entry) → fed_lines (flat_map (entry_lines book name) entries) ≡ flat_map (entry_text book name) entries
  fed_lines-entries [] = refl
  fed_lines-entries (entry ∷ entries) =
      fed_lines-append (entry_lines book name entry) (flat_map (entry_lines book name) entries)
      ∙ ap (λ (l : List ℕ). entry_text book name entry ++ l) (fed_lines-entries entries)

  -- with the number of its lines
  pub journal_text-counted : (journal : JournalCopy) (n : ℕ) → n ≡ length (journal_lines book name journal) → counted_text book name n journal ≡ journal_text book name journal
  unfolding journal_text
  journal_text-counted journal n is =
      let all = fed_lines-append (flat_map (entry_lines book name) journal.entries) (steps_lines name journal.steps)
      ∙ ap (λ (l : List ℕ). l ++ fed_lines (steps_lines name journal.steps)) (fed_lines-entries journal.entries) in
      append_assoc (codes "journal " ++ decimal n) (flat_map (entry_text book name) journal.entries) (fed_lines (steps_lines name journal.steps))
      ∙ ap (λ (l : List ℕ). codes "journal " ++ decimal n ++ l) (sym all)
      ∙ ap (λ (m : ℕ). codes "journal " ++ decimal m ++ fed_lines (journal_lines book name journal)) is

  -- ---- how many lines there are
  steps_lines-length : (n : ℕ) → length (steps_lines name n) ≡ (if nat_lt 0 n then 1 else 0)
  steps_lines-length n = by (n == 0) (nat_lt 0 n) apart
    where
      apart : nat_lt 0 n ≡ not (n == 0)
      apart = grind (arith, nat_tests)

      by : (none some : Bool) → some ≡ not none → length (if none then [] else steps_line name n ∷ []) ≡ (if some then 1 else 0)
      by true true e = absurd cc
      by true false e = refl
      by false true e = refl
      by false false e = absurd cc

  entry_lines-length : (entry : Entry) → length (entry_lines book name entry) ≡ (if nat_lt 0 entry.checks_before then 1 else 0) + 1
  entry_lines-length entry =
      length-append (steps_lines name entry.checks_before) (command_line book name entry.said.command ∷ []) ∙ ap (λ (n : ℕ). n + 1) (steps_lines-length entry.checks_before)

  abbrev is_stepped : Entry → Bool
  is_stepped entry = nat_lt 0 entry.checks_before

  filter-length : (entry : Entry) (entries : List Entry) (test : Bool)
      → length (if test then entry ∷ filter is_stepped entries else filter is_stepped entries) ≡ (if test then 1 else 0) + length (filter is_stepped entries)
  filter-length entry entries true = omega arith
  filter-length entry entries false = omega arith

  entries-length : (entries : List Entry) → length (flat_map (entry_lines book name) entries) ≡ length entries + length (filter is_stepped entries)
  entries-length [] = refl
  entries-length (entry ∷ entries) =
      let first = entry_lines-length entry in
      let rest = entries-length entries in
      let both = length-append (entry_lines book name entry) (flat_map (entry_lines book name) entries) in
      let count = filter-length entry entries (is_stepped entry) in
      omega (arith, first, rest, both, count)

  pub journal_lines-length : (journal : JournalCopy)
      → length journal.entries + count_by (λ entry. nat_lt 0 entry.checks_before) journal.entries + (if nat_lt 0 journal.steps then 1 else 0) ≡ length (journal_lines book name journal)
  journal_lines-length journal =
      let entries = entries-length journal.entries in
      let last = steps_lines-length journal.steps in
      let all = length-append (flat_map (entry_lines book name) journal.entries) (steps_lines name journal.steps) in
      let counted = length-filter is_stepped journal.entries in
      omega (arith, entries, last, all, counted)

-- ---- the four numbers of a box
pub box_text-words : (left bottom right top : ℤ)
    → box_text left bottom right top ≡ 32 ∷ spaced (codes "box" ∷ signed_decimal left ∷ signed_decimal bottom ∷ signed_decimal right ∷ signed_decimal top ∷ [])
box_text-words left bottom right top = ap (λ (l : List ℕ). codes " box" ++ l) (append_assoc (32 ∷ signed_decimal left) (32 ∷ signed_decimal bottom) (pair_text right top))
