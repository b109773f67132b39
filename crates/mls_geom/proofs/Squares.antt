-- The squares that pass a test, row by row.
use Rattle.mls_geom.proofs.Common.{◌≡◌, ℕ, ◌-◌, ◌<◌, ◌≤◌, Bool, true, ◌&&◌, ◌||◌, ◌==◌, nat_lt, IsTrue, List, [], ◌∷◌, map, flat_map, filter, count_by, sum_by, length, All, AllPairs, Contains, refl, ap, ◌∙◌, arith, fun_ext, range_with_len, nat_tests, length-map, length-flat_map, All-contains, All-map, All-append, All-filter, All-contains_itself, filter_passes, length-range_with_len, get_or-range_with_len, AllPairs-filter, length-filter}
use Rattle.mls_geom.proofs.Ascending.{AllPairs-first, AllPairs-rest, AllPairs-map, AllPairs-append, Contains-first, Contains-rest, Contains-map, Contains-filter, Contains-flat_map}

-- the squares of a row in these columns that pass, each as its column and its row
abbrev pub row_where : (ℕ → ℕ → Bool) → List ℕ → ℕ → List (ℕ × ℕ)
row_where test columns y = map (λ x. (x, y)) (filter (λ x. test x y) columns)

-- those of several rows
abbrev pub squares_where : (ℕ → ℕ → Bool) → List ℕ → List ℕ → List (ℕ × ℕ)
squares_where test columns rows = flat_map (row_where test columns) rows

-- by row and then column
abbrev pub StandsBefore : ℕ × ℕ → ℕ × ℕ → Type 0
StandsBefore s t = IsTrue (nat_lt s.1 t.1 || (s.1 == t.1 && nat_lt s.0 t.0))

pub stands_before_one_way : (s t : ℕ × ℕ) → StandsBefore s t → StandsBefore t s → ⊥
stands_before_one_way s t there back = grind (arith, nat_tests)

StandsBefore-right : (a b y : ℕ) → a < b → StandsBefore (a, y) (b, y)
StandsBefore-right a b y before = grind (arith, nat_tests)

StandsBefore-above : (a b y z : ℕ) → y < z → StandsBefore (a, y) (b, z)
StandsBefore-above a b y z before = grind (arith, nat_tests)

-- their number is the sum over the rows of the count over the columns
pub length-squares_where :
    (test : ℕ → ℕ → Bool) (columns rows : List ℕ) → length (squares_where test columns rows) ≡ sum_by (λ y. count_by (λ x. test x y) columns) rows
length-squares_where test columns rows =
    length-flat_map (row_where test columns) rows
    ∙ ap (λ count. sum_by count rows) (fun_ext (λ y. length-map (filter (λ x. test x y) columns) (λ x. (x, y)) ∙ length-filter (λ x. test x y) columns))

-- what holds of each square that passes holds of each of the list
All-row_where :
    (P : ℕ × ℕ → Type 0) (test : ℕ → ℕ → Bool) (columns : List ℕ) (y : ℕ) → ((x : ℕ) → Contains columns x → test x y ≡ true → P (x, y)) → All P (row_where test columns y)
All-row_where P test columns y each =
    All-map P (λ x. (x, y)) (filter (λ x. test x y) columns)
    (λ k d within. each _ (All-filter (λ x. test x y) (Contains columns) columns (All-contains_itself columns) k d within) (filter_passes (λ x. test x y) columns k d within))

pub All-squares_where :
    (P : ℕ × ℕ → Type 0) (test : ℕ → ℕ → Bool) (columns rows : List ℕ) → ((x y : ℕ) → Contains columns x → Contains rows y → test x y ≡ true → P (x, y))
    → All P (squares_where test columns rows)
All-squares_where P test columns [] each = λ k d within. absurd (omega arith)
All-squares_where P test columns (y ∷ rows) each =
    All-append P (row_where test columns y) (squares_where test columns rows)
    (All-row_where P test columns y (λ x column. each x y column (Contains-first y y rows refl)))
    (All-squares_where P test columns rows (λ x z column row. each x z column (Contains-rest y z rows row)))

-- each square that passes is in the list
pub Contains-squares_where :
    (test : ℕ → ℕ → Bool) (columns rows : List ℕ) (x y : ℕ) → Contains columns x → Contains rows y → test x y ≡ true → Contains (squares_where test columns rows) (x, y)
Contains-squares_where test columns rows x y column row passes =
    Contains-flat_map (row_where test columns) rows y (x, y) row
    (Contains-map (λ x. (x, y)) (filter (λ x. test x y) columns) x (Contains-filter (λ x. test x y) columns x column passes))

-- they stand in order
pub AllPairs-squares_where :
    (test : ℕ → ℕ → Bool) (columns rows : List ℕ) → AllPairs ◌<◌ columns → AllPairs ◌<◌ rows → AllPairs StandsBefore (squares_where test columns rows)
AllPairs-squares_where test columns [] up up' = λ i j d before within. absurd (omega arith)
AllPairs-squares_where test columns (y ∷ rows) up up' =
    AllPairs-append StandsBefore (row_where test columns y) (squares_where test columns rows)
    (AllPairs-map StandsBefore (λ x. (x, y)) (filter (λ x. test x y) columns)
    (AllPairs-filter (λ a b. StandsBefore (a, y) (b, y)) (λ x. test x y) columns (λ i j d before within. StandsBefore-right _ _ y (up i j d before within))))
    (AllPairs-squares_where test columns rows up (AllPairs-rest ◌<◌ y rows up'))
    (All-row_where (λ s. All (StandsBefore s) (squares_where test columns rows)) test columns y
    (λ x column passes. All-squares_where (StandsBefore (x, y)) test columns rows
    (λ a z column row passes. StandsBefore-above x a y z (All-contains (λ z. y < z) rows z (AllPairs-first ◌<◌ y rows up') row))))

-- the numbers of a range, in order
pub AllPairs-range_with_len : (low n : ℕ) → AllPairs ◌<◌ (range_with_len low n)
AllPairs-range_with_len low n i j d before within =
    let last : j < n = rw length-range_with_len at within in
    omega (arith, get_or-range_with_len low n i d (omega arith), get_or-range_with_len low n j d last)

-- the numbers from one line up to another
pub Contains-range_with_len : (low high x : ℕ) → low ≤ x → x < high → Contains (range_with_len low (high - low)) x
Contains-range_with_len low high x above below =
    let within : x - low < high - low = omega arith in
    (x - low, rw length-range_with_len within, omega (arith, get_or-range_with_len low (high - low) (x - low) x within))

pub range_with_len-Contains : (low high x : ℕ) → Contains (range_with_len low (high - low)) x → (low ≤ x) × (x < high)
range_with_len-Contains low high x (k, within, is) =
    let short : k < high - low = rw length-range_with_len at within in
    omega (arith, get_or-range_with_len low (high - low) k x short)
