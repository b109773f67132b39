-- The world's lines, as words spell them.
use Rattle.std.proofs.Common.{◌≡◌, ℕ, ℤ, pos, neg_ℤ, Bool, true, false, not, cond, nat_lt, nat_le, List, [], ◌∷◌, drop, take, length, ◌-◌, Some, None, Result, Ok, Err, refl, ap, ◌∙◌, arith}
use Rattle.std.proofs.lemmas.Bool.Decides.{nat_tests}
use Rattle.std.proofs.lemmas.Int.{ints}
use Rattle.std.proofs.lemmas.List.{take_all}
use Rattle.mls_geom.specs.World.{is_outside}
use Rattle.mls_text.specs.Digits.{value_of}
use Rattle.mls_text.specs.Words.{begins_with}
use Rattle.mls_library.specs.CellFiles.{or_fault, integer_of, world_line}
use Rattle.mls_library.specs.Inner.{at_distance, distance_of}
use Rattle.mls_library.specs.declared.fault.CellFaultKind.{CellFaultKind}
use Rattle.mls_library.specs.declared.fault.CellFaultKind.TheVariants.{OutsideWorld}

-- the world reaches 1048576 squares to each side
is_outside-pos : (n : ℕ) → is_outside (pos n) ≡ nat_lt 1048576 n
unfolding is_outside
is_outside-pos n = grind (arith, ints, nat_tests)

is_outside-neg : (n : ℕ) → is_outside (neg_ℤ (pos n)) ≡ nat_lt 1048576 n
unfolding is_outside
is_outside-neg n = grind (arith, ints, nat_tests)

module _ (side : ℕ → ℤ) (far : (n : ℕ) → is_outside (side n) ≡ nat_lt 1048576 n) (n : ℕ) where
  abbrev line_if : Bool → Result ℤ CellFaultKind
  line_if outside = cond outside (Err OutsideWorld) (Ok (side n))

  abbrev distance_if : Bool → Result ℤ CellFaultKind
  distance_if near = at_distance side (or_fault OutsideWorld (cond near (Some n) None))

  by : (outside : Bool) → line_if outside ≡ distance_if (not outside)
  by true = refl
  by false = refl

  line_at_distance : line_if (is_outside (side n)) ≡ distance_if (nat_le n 1048576)
  line_at_distance =
      let near : not (nat_lt 1048576 n) ≡ nat_le n 1048576 = grind (arith, nat_tests) in
      ap line_if (far n) ∙ by (nat_lt 1048576 n) ∙ ap distance_if near

-- a word with a `-`
pub world_line-negative : (word : List ℕ) → begins_with 45 word ≡ true → world_line word ≡ at_distance (λ n. neg_ℤ (pos n)) (distance_of (drop 1 word))
unfolding world_line integer_of
world_line-negative [] e = absurd (cc e)
world_line-negative (b ∷ bytes) e =
    let line : ℤ → Result ℤ CellFaultKind = λ z. cond (is_outside z) (Err OutsideWorld) (Ok z) in
    ap (λ t. line (cond t (neg_ℤ (pos (value_of bytes))) (pos (value_of (b ∷ bytes))))) e ∙ line_at_distance (λ n. neg_ℤ (pos n)) is_outside-neg (value_of bytes)

-- the rest of a word, as a pattern has it
pub rest_taken : (word : List ℕ) → take (length word - 1) (drop 1 word) ≡ drop 1 word
rest_taken [] = refl
rest_taken (b ∷ bytes) = take_all (length (b ∷ bytes) - 1) bytes (omega arith)

-- a word without one
pub world_line-plain : (word : List ℕ) → begins_with 45 word ≡ false → world_line word ≡ at_distance pos (distance_of word)
unfolding world_line integer_of
world_line-plain [] e = line_at_distance pos is_outside-pos 0
world_line-plain (b ∷ bytes) e =
    let line : ℤ → Result ℤ CellFaultKind = λ z. cond (is_outside z) (Err OutsideWorld) (Ok z) in
    ap (λ t. line (cond t (neg_ℤ (pos (value_of bytes))) (pos (value_of (b ∷ bytes))))) e ∙ line_at_distance pos is_outside-pos (value_of (b ∷ bytes))

pub ruleset lines = (world_line-negative, world_line-plain)
