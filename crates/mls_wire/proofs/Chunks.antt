-- A list that is taken chunk by chunk, and one that is filled so, as far as there is room.
use Rattle.std.proofs.Common.{◌≡◌, ℕ, zero, suc, ◌+◌, ◌-◌, ◌≤◌, min, List, [], ◌∷◌, ◌++◌, length, take, drop, slice_range, refl, sym, ap, ◌∙◌, arith, append_assoc, take-append-drop}
use Rattle.std.proofs.Math.Seq.{take-append-add}
use Rattle.std.proofs.lemmas.List.{take_rest, drop-drop, length-take-le, length-take, take_min}
use Rattle.std.proofs.lemmas.Slice.{between_is, take-put_mid}
use borrow.Rule.Slice.PartMut.{put_mid}

-- the next n elements of what is left, and the others
pub next_of_rest : (all front rest : List ℕ) (n : ℕ) → all ≡ front ++ rest → all ≡ (front ++ take n rest) ++ take (length rest - n) (drop n rest)
next_of_rest all front rest n whole =
    whole ∙ ap (λ l. front ++ l) (sym (take-append-drop n rest) ∙ ap (λ l. take n rest ++ l) (sym (take_rest rest n)))
    ∙ sym (append_assoc front (take n rest) _)

-- a part without its first n elements
pub slice_range-more : (xs : List ℕ) (start end n : ℕ) → slice_range xs (start + n) end ≡ drop n (slice_range xs start end)
slice_range-more xs start end n =
    between_is xs (start + n) end ∙ sym (drop-drop n start (take end xs)) ∙ ap (drop n) (sym (between_is xs start end))

-- what is dropped of the first list would not be taken
pub take-take_append : (n : ℕ) (xs ys : List ℕ) → take n (take n xs ++ ys) ≡ take n (xs ++ ys)
take-take_append zero xs ys = refl
take-take_append (suc n) [] ys = refl
take-take_append (suc n) (x ∷ xs) ys = ap (λ l. x ∷ l) (take-take_append n xs ys)

-- as many of the second list as there is room for after the first
pub take-append : (room : ℕ) (xs ys : List ℕ) → length xs ≤ room → take room (xs ++ ys) ≡ xs ++ take (room - length xs) ys
take-append room xs ys fits =
    let split : room ≡ length xs + (room - length xs) = omega arith in
    ap (λ n. take n (xs ++ ys)) split ∙ take-append-add xs ys (room - length xs)

-- a chunk was written after the first len elements of a line, as far as there was room
pub take-put_chunk : (line chunk part : List ℕ) (len count k : ℕ) → len ≤ length line → count ≡ min (length line - len) (length chunk) → part ≡ take count chunk
    → take (len + count) (put_mid len k line part) ≡ take (length line) (take len line ++ chunk)
take-put_chunk line chunk part len count k within count_is part_is =
    let written : len + count ≡ len + length part = rw part_is (omega (arith, length-take {A = ℕ})) in
    let kept : length (take len line) ≡ len = length-take-le len line within in
    take-put_mid len k line part (len + count) written within
    ∙ ap (λ l. take len line ++ l) (part_is ∙ ap (λ n. take n chunk) count_is ∙ take_min (length line - len) chunk)
    ∙ sym (rw kept at (take-append (length line) (take len line) chunk (omega arith)))
