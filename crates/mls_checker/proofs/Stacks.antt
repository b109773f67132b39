-- Words that stand for their own row and those above it.
use Rattle.std.proofs.Common.{◌≡◌, ℕ, zero, suc, ◌+◌, ◌-◌, ◌<◌, ◌≤◌, inl, inr, Bool, true, false, ◌||◌, ◌&&◌, List, [], ◌∷◌, ◌++◌, length, set, take, drop, replicate, refl, sym, ap, ◌∙◌, arith}
use Rattle.std.specs.Prelude.{bit_or, nat_le, nat_lt, slice_index}
use Rattle.std.proofs.Math.Bool.{and-false, or-false}
use Rattle.std.proofs.lemmas.Bool.{cases_lt, false≢true}
use Rattle.std.proofs.lemmas.Bool.Decides.{nat_tests}
use Rattle.std.proofs.lemmas.List.{append-nil, drop_all, get_or-replicate, get_or_append_left, get_or_past, get_or_push, length_push, length-replicate, length-take-le, take_all, take_more}
use Rattle.mls_kinds.specs.KindSets.{has_bit}
use Rattle.mls_kinds.proofs.BitLemmas.{has_bit-zero}
use Rattle.mls_checker.specs.Grids.{RowWords, has_column, has_lifted, has_square, is_between, stacked}
use Rattle.mls_checker.proofs.Gathering.{two_gains}
use Rattle.mls_checker.proofs.WordRows.{fill-row, past-end}

-- ---- one word
none-between : (row r : ℕ) → is_between row row r ≡ false
none-between row r = grind (arith, nat_tests)

no-rows : (row r : ℕ) → is_between row (row + 0) r ≡ false
no-rows row r = grind (arith, nat_tests)

one-row :
    (words : List ℕ) (row columns v r c : ℕ) → row < length words → v ≡ bit_or (slice_index words row) columns
    → has_column (set words row v) r c ≡ (has_column words r c || (is_between row (row + 1) r && has_bit columns c))
one-row words row columns v r c within is =
    fill-row words words row row columns v r c within (omega arith) is
    (sym (ap (λ b. has_column words r c || (b && has_bit columns c)) (none-between row r) ∙ or-false (has_column words r c)))

row-more : (row n r : ℕ) → is_between row (row + suc n) r ≡ (is_between row (row + n) r || (nat_le n r && is_between row (row + 1) (r - n)))
row-more row n r = grind (arith, nat_tests)

regroup : (s b m on h one : Bool) → ((s || (b && m)) || (on && (h || (one && m)))) ≡ ((s || (on && h)) || ((b || (on && one)) && m))
regroup true b m on h one = refl
regroup false true true on h one = grind arith
regroup false true false true h one = grind arith
regroup false true false false h one = refl
regroup false false m false h one = refl
regroup false false m true h one = refl

-- the columns of a word are in its row and in those above it
pub stack-row :
    (n : ℕ) (words : List ℕ) (row columns v r c : ℕ) → row < length words → v ≡ bit_or (slice_index words row) columns
    → stacked n (set words row v) r c ≡ (stacked n words r c || (is_between row (row + n) r && has_bit columns c))
unfolding stacked
stack-row zero words row columns v r c within is = sym (ap (λ b. b && has_bit columns c) (no-rows row r))
stack-row (suc n) words row columns v r c within is =
    ap (λ b. b || has_lifted (set words row v) n r c) (stack-row n words row columns v r c within is)
    ∙ ap (λ b. (stacked n words r c || (is_between row (row + n) r && has_bit columns c)) || (nat_le n r && b)) (one-row words row columns v (r - n) c within is)
    ∙ regroup (stacked n words r c) (is_between row (row + n) r) (has_bit columns c) (nat_le n r) (has_column words (r - n) c) (is_between row (row + 1) (r - n))
    ∙ ap (λ b. (stacked n words r c || (nat_le n r && has_column words (r - n) c)) || (b && has_bit columns c)) (sym (row-more row n r))

-- ---- many words
between-join : (from row on to r : ℕ) → from ≤ on → on ≤ row → row ≤ to → (is_between from row r || is_between on to r) ≡ is_between from to r
between-join from row on to r above below within = grind (arith, nat_tests)

-- one more stack, which goes on from those before it or overlaps them
pub stack-more :
    (old words : List ℕ) (from row on to columns v r c : ℕ) → on < length words → v ≡ bit_or (slice_index words on) columns → from ≤ on → on ≤ row → row ≤ to → on + 16 ≡ to
    → stacked 16 words r c ≡ (stacked 16 old r c || (is_between from row r && has_bit columns c))
    → stacked 16 (set words on v) r c ≡ (stacked 16 old r c || (is_between from to r && has_bit columns c))
stack-more old words from row on to columns v r c within is above below short height before =
    stack-row 16 words on columns v r c within is
    ∙ ap (λ b. b || (is_between on (on + 16) r && has_bit columns c)) before
    ∙ ap (λ n. (stacked 16 old r c || (is_between from row r && has_bit columns c)) || (is_between on n r && has_bit columns c)) height
    ∙ two_gains (stacked 16 old r c) (is_between from row r) (is_between on to r) (has_bit columns c)
    ∙ ap (λ b. stacked 16 old r c || (b && has_bit columns c)) (between-join from row on to r above below short)

pub no-stack : (s m : Bool) (from r : ℕ) → s ≡ (s || (is_between from from r && m))
no-stack s m from r = sym (ap (λ b. s || (b && m)) (none-between from r) ∙ or-false s)

-- ---- laid out
or_and : (w t a b : Bool) → ((w || (t && a)) || (t && b)) ≡ (w || (t && (a || b)))
or_and true t a b = refl
or_and false true a b = refl
or_and false false a b = refl

push-tests : (words : List ℕ) (r : ℕ) → r < length words → is_between (length words) (length words + 1) r ≡ false
push-tests words r below = grind (arith, nat_tests)

past-tests : (words : List ℕ) (r : ℕ) → length words < r → is_between (length words) (length words + 1) r ≡ false
past-tests words r above = grind (arith, nat_tests)

here-tests : (words : List ℕ) (r : ℕ) → r ≡ length words → is_between (length words) (length words + 1) r ≡ true
here-tests words r same = grind (arith, nat_tests)

-- one word more has columns in its own row alone
push-row : (words : List ℕ) (v r c : ℕ) → has_column (words ++ v ∷ []) r c ≡ (has_column words r c || (is_between (length words) (length words + 1) r && has_bit v c))
push-row words v r c = elim (cases_lt r (length words)) [
  | inl below ↦
      ap (λ n. has_bit n c) (get_or_append_left words (v ∷ []) 0 r below) ∙ sym (or-false (has_column words r c))
      ∙ ap (λ b. has_column words r c || (b && has_bit v c)) (sym (push-tests words r below))
  | inr above ↦ elim (cases_lt (length words) r) [
    | inl past ↦
        past-end (words ++ v ∷ []) r c (omega (arith, length_push words v)) ∙ sym (past-end words r c above) ∙ sym (or-false (has_column words r c))
        ∙ ap (λ b. has_column words r c || (b && has_bit v c)) (sym (past-tests words r past))
    | inr on ↦
        let same : length words ≡ r = omega (arith, above, on) in
        ap (λ n. has_bit n c) (get_or_push words v 0 r same) ∙ ap (λ b. b && has_bit v c) (sym (here-tests words r (sym same)))
        ∙ ap (λ b. b || (is_between (length words) (length words + 1) r && has_bit v c)) (sym (past-end words r c above))
  ]
]

-- and stands for those above it
stack-push :
    (n : ℕ) (words : List ℕ) (v r c : ℕ) → stacked n (words ++ v ∷ []) r c ≡ (stacked n words r c || (is_between (length words) (length words + n) r && has_bit v c))
unfolding stacked
stack-push zero words v r c = sym (ap (λ b. b && has_bit v c) (no-rows (length words) r))
stack-push (suc n) words v r c =
    let row = length words in
    ap (λ b. b || has_lifted (words ++ v ∷ []) n r c) (stack-push n words v r c)
    ∙ ap (λ b. (stacked n words r c || (is_between row (row + n) r && has_bit v c)) || (nat_le n r && b)) (push-row words v (r - n) c)
    ∙ regroup (stacked n words r c) (is_between row (row + n) r) (has_bit v c) (nat_le n r) (has_column words (r - n) c) (is_between row (row + 1) (r - n))
    ∙ ap (λ b. (stacked n words r c || (nat_le n r && has_column words (r - n) c)) || (b && has_bit v c)) (sym (row-more row n r))

pub lay-more :
    (old words now stacks : List ℕ) (row r c : ℕ) → length words ≡ length old → row < length stacks
    → has_column words r c ≡ (has_column old r c || (nat_lt r (length old) && stacked 16 (take row stacks) r c))
    → has_column now r c ≡ (has_column words r c || (nat_lt r (length words) && (is_between row (row + 16) r && has_bit (slice_index stacks row) c)))
    → has_column now r c ≡ (has_column old r c || (nat_lt r (length old) && stacked 16 (take (row + 1) stacks) r c))
lay-more old words now stacks row r c same within before laid =
    let v = slice_index stacks row in
    let at : length (take row stacks) ≡ row = length-take-le row stacks (omega arith) in
    laid ∙ ap (λ n. has_column words r c || (nat_lt r n && (is_between row (row + 16) r && has_bit v c))) same
    ∙ ap (λ b. b || (nat_lt r (length old) && (is_between row (row + 16) r && has_bit v c))) before
    ∙ or_and (has_column old r c) (nat_lt r (length old)) (stacked 16 (take row stacks) r c) (is_between row (row + 16) r && has_bit v c)
    ∙ ap (λ n. has_column old r c || (nat_lt r (length old) && (stacked 16 (take row stacks) r c || (is_between n (n + 16) r && has_bit v c)))) (sym at)
    ∙ ap (λ b. has_column old r c || (nat_lt r (length old) && b)) (sym (stack-push 16 (take row stacks) v r c))
    ∙ ap (λ (ws : List ℕ). has_column old r c || (nat_lt r (length old) && stacked 16 ws r c)) (sym (take_more stacks row 0 within))

none-in-nil : (n r c : ℕ) → stacked n [] r c ≡ false
unfolding stacked
none-in-nil zero r c = refl
none-in-nil (suc n) r c =
    ap (λ b. b || has_lifted [] n r c) (none-in-nil n r c) ∙ ap (λ b. nat_le n r && b) (past-end [] (r - n) c (omega arith)) ∙ and-false (nat_le n r)

pub lay-none : (old stacks : List ℕ) (r c : ℕ) → has_column old r c ≡ (has_column old r c || (nat_lt r (length old) && stacked 16 (take 0 stacks) r c))
lay-none old stacks r c =
    sym (ap (λ b. has_column old r c || (nat_lt r (length old) && b)) (none-in-nil 16 r c) ∙ ap (λ b. has_column old r c || b) (and-false (nat_lt r (length old)))
    ∙ or-false (has_column old r c))

-- ---- without columns
pub zero-row : (n r c : ℕ) → has_column (replicate n 0) r c ≡ false
zero-row n r c = elim (cases_lt r n) [
  | inl below ↦ ap (λ k. has_bit k c) (get_or-replicate n r 0 0 below) ∙ has_bit-zero c
  | inr above ↦ ap (λ k. has_bit k c) (get_or_past (replicate n 0) r 0 (omega (arith, length-replicate {A = ℕ} n 0))) ∙ has_bit-zero c
]

pub none-stacked : (height n r c : ℕ) → stacked height (replicate n 0) r c ≡ false
unfolding stacked
none-stacked zero n r c = refl
none-stacked (suc height) n r c =
    ap (λ b. b || has_lifted (replicate n 0) height r c) (none-stacked height n r c)
    ∙ ap (λ b. nat_le height r && b) (zero-row n (r - height) c) ∙ and-false (nat_le height r)

pub no-squares : (rows : RowWords) (n r c : ℕ) → rows.words ≡ replicate n 0 → stacked 16 rows.stacks r c ≡ false → has_square rows r c ≡ false
unfolding has_square
no-squares rows n r c zeros none =
    ap (λ b. has_column rows.words r c || (nat_lt r (length rows.words) && b)) none
    ∙ ap (λ b. has_column rows.words r c || b) (and-false (nat_lt r (length rows.words))) ∙ or-false (has_column rows.words r c)
    ∙ ap (λ (ws : List ℕ). has_column ws r c) zeros ∙ zero-row n r c

-- ---- rows after one of their lists was lent
pub given-back : (old lent given : List ℕ) (n : ℕ) → lent ≡ old → length given ≡ length lent → length lent ≡ n → take n (given ++ drop (length given) old) ≡ given
given-back old lent given n is same all =
    let few : length old ≤ length given = omega (arith, ap length is) in
    ap (λ (rest : List ℕ). take n (given ++ rest)) (drop_all (length given) old few) ∙ ap (take n) (append-nil given) ∙ take_all n given (omega arith)

or_last : (h m s : Bool) → ((h || m) || s) ≡ ((h || s) || m)
or_last true m s = refl
or_last false true true = refl
or_last false true false = refl
or_last false false true = refl
or_last false false false = refl

-- the words have gained columns
pub words-gain :
    (old new : RowWords) (lent given : List ℕ) (r c : ℕ) (more : Bool) → lent ≡ old.words → length given ≡ length lent → new.words ≡ given → new.stacks ≡ old.stacks
    → has_column given r c ≡ (has_column lent r c || more) → has_square new r c ≡ (has_square old r c || more)
unfolding has_square
words-gain old new lent given r c more is same words stacks gains =
    let long : length new.words ≡ length old.words = omega (arith, ap length words, ap length is) in
    ap (λ (ws : List ℕ). has_column ws r c || (nat_lt r (length new.words) && stacked 16 new.stacks r c)) words
    ∙ ap (λ b. b || (nat_lt r (length new.words) && stacked 16 new.stacks r c)) (gains ∙ ap (λ (ws : List ℕ). has_column ws r c || more) is)
    ∙ ap (λ n. (has_column old.words r c || more) || (nat_lt r n && stacked 16 new.stacks r c)) long
    ∙ ap (λ (ws : List ℕ). (has_column old.words r c || more) || (nat_lt r (length old.words) && stacked 16 ws r c)) stacks
    ∙ or_last (has_column old.words r c) more (nat_lt r (length old.words) && stacked 16 old.stacks r c)

within-rows : (from to long r : ℕ) → to ≤ long → (nat_lt r long && is_between from to r) ≡ is_between from to r
within-rows from to long r within = grind (arith, nat_tests)

and_or : (h t s b m : Bool) → (t && b) ≡ b → (h || (t && (s || (b && m)))) ≡ ((h || (t && s)) || (b && m))
and_or true t s b m is = refl
and_or false true true b m is = refl
and_or false true false b m is = refl
and_or false false s true m is = absurd (false≢true is)
and_or false false s false m is = refl

-- the stacks have gained columns
pub stacks-gain :
    (old new : RowWords) (lent given : List ℕ) (from to columns r c : ℕ) → lent ≡ old.stacks → new.words ≡ old.words → new.stacks ≡ given → to ≤ length old.words
    → stacked 16 given r c ≡ (stacked 16 lent r c || (is_between from to r && has_bit columns c))
    → has_square new r c ≡ (has_square old r c || (is_between from to r && has_bit columns c))
unfolding has_square
stacks-gain old new lent given from to columns r c is words stacks within gains =
    ap (λ (ws : List ℕ). has_column ws r c || (nat_lt r (length ws) && stacked 16 new.stacks r c)) words
    ∙ ap (λ (ws : List ℕ). has_column old.words r c || (nat_lt r (length old.words) && stacked 16 ws r c)) stacks
    ∙ ap (λ b. has_column old.words r c || (nat_lt r (length old.words) && b))
    (gains ∙ ap (λ (ws : List ℕ). stacked 16 ws r c || (is_between from to r && has_bit columns c)) is)
    ∙ and_or (has_column old.words r c) (nat_lt r (length old.words)) (stacked 16 old.stacks r c) (is_between from to r) (has_bit columns c) (within-rows from to (length old.words) r within)

-- laid out, the words have all squares
pub laid-out :
    (old : RowWords) (words lent given stacks : List ℕ) (r c : ℕ) → words ≡ given → lent ≡ old.words → stacks ≡ old.stacks
    → has_column given r c ≡ (has_column lent r c || (nat_lt r (length lent) && stacked 16 stacks r c)) → has_column words r c ≡ has_square old r c
unfolding has_square
laid-out old words lent given stacks r c back is is' gains =
    ap (λ (ws : List ℕ). has_column ws r c) back ∙ gains
    ∙ ap (λ (ws : List ℕ). has_column ws r c || (nat_lt r (length ws) && stacked 16 stacks r c)) is
    ∙ ap (λ (ws : List ℕ). has_column old.words r c || (nat_lt r (length old.words) && stacked 16 ws r c)) is'

-- without stacks they have them anyway
pub bare-words : (rows : RowWords) (r c : ℕ) → stacked 16 rows.stacks r c ≡ false → has_column rows.words r c ≡ has_square rows r c
unfolding has_square
bare-words rows r c none =
    sym (ap (λ b. has_column rows.words r c || (nat_lt r (length rows.words) && b)) none
    ∙ ap (λ b. has_column rows.words r c || b) (and-false (nat_lt r (length rows.words))) ∙ or-false (has_column rows.words r c))

-- columns were taken from the words, which have all squares
pub words-lose :
    (new : RowWords) (given lent laid : List ℕ) (r c : ℕ) (square less : Bool) → new.words ≡ given → lent ≡ laid → stacked 16 new.stacks r c ≡ false
    → has_column given r c ≡ (has_column lent r c && less) → has_column laid r c ≡ square → has_square new r c ≡ (square && less)
words-lose new given lent laid r c square less words is none loses all =
    sym (bare-words new r c none) ∙ ap (λ (ws : List ℕ). has_column ws r c) words ∙ loses ∙ ap (λ (ws : List ℕ). has_column ws r c && less) is ∙ ap (λ b. b && less) all
