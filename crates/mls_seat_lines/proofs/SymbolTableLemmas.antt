-- The cells of names, beside the list of the names.
use Rattle.std.proofs.Common.{◌≡◌, ℕ, ◌+◌, ◌<◌, Bool, not, nat_lt, cond, suc, Option, Some, None, List, [], ◌∷◌, ◌++◌, map, get_or, length, take, take-suc, refl, sym, ap, ap₂, ◌∙◌, arith}
use Rattle.std.specs.Prelude.{option_map, slice_get}
use Rattle.std.specs.List.{position, prefix_len}
use Rattle.std.proofs.lemmas.List.{length-map, map-append}
use Rattle.std.proofs.lemmas.List.Quantifiers.{position-Some}
use Rattle.std.proofs.lemmas.Option.{slice_get-get_or, slice_get-map}
use Rattle.std.proofs.lemmas.Slice.Eq.{bytes_eq-Decides}
use Rattle.mls_text.specs.Words.{same_word}
use Rattle.mls_seat_lines.specs.SymbolTables.{cell_named}

prefix_len-map : {X Y : Type 0} (q : Y → Bool) (f : X → Y) (xs : List X) → prefix_len q (map f xs) ≡ prefix_len (λ x. q (f x)) xs
prefix_len-map q f [] = refl
prefix_len-map q f (x ∷ xs) = ap (λ n. cond (q (f x)) (1 + n) 0) (prefix_len-map q f xs)

pub position-map : {X Y : Type 0} (p : Y → Bool) (f : X → Y) (xs : List X) → position p (map f xs) ≡ position (λ x. p (f x)) xs
position-map p f xs =
    ap₂ (λ (n count : ℕ). cond (nat_lt n count) (Some n) None) (prefix_len-map (λ y. not (p y)) f xs) (length-map xs f)

-- one more item of a list that is gone through
pub map_next : {X Y : Type 0} (g : X → Y) (xs : List X) (index : ℕ) (x : X) (ys : List Y) (y : Y)
    → index < length xs → x ≡ get_or xs index x → map g (take index xs) ≡ ys → y ≡ g x → map g (take (index + 1) xs) ≡ ys ++ y ∷ []
map_next g xs index x ys y within is was here =
    let one : index + 1 ≡ suc index = omega arith in
    ap (λ count. map g (take count xs)) one ∙ ap (map g) (take-suc xs index x within) ∙ map-append g (take index xs) (get_or xs index x ∷ [])
    ∙ ap₂ (λ l z. l ++ z ∷ []) was (ap g (sym is) ∙ sym here)

mapped : {X Y Z : Type 0} (f : X → Y) (g : Y → Z) (o : Option X) (y : Y) → option_map f o ≡ Some y → option_map (λ x. g (f x)) o ≡ Some (g y)
mapped f g None y is = absurd (cc)
mapped f g (Some x) y is = ap (option_map g) is

-- the first name that is a word has the cell that was noted for it
pub cell_at : {X : Type 0} (f : X → List ℕ) (names : List X) (cells : List (Option ℕ)) (word : List ℕ) (place : ℕ)
    → map (λ name. cell_named (map f names) (f name)) names ≡ cells → cell_named (map f names) word ≡ Some place
    → slice_get cells place ≡ Some (cell_named (map f names) word)
cell_at f names cells word place noted found =
    let (within, passes, before) = position-Some (λ name. same_word word name) (map f names) place [] found in
    let here : word ≡ get_or (map f names) place [] = (bytes_eq-Decides word (get_or (map f names) place [])).0 passes in
    let at : option_map f (slice_get names place) ≡ Some word = sym (slice_get-map f names place) ∙ slice_get-get_or (map f names) place [] within ∙ ap Some (sym here) in
    ap (λ (l : List (Option ℕ)). slice_get l place) (sym noted) ∙ slice_get-map (λ name. cell_named (map f names) (f name)) names place ∙ mapped f (cell_named (map f names)) (slice_get names place) word at
