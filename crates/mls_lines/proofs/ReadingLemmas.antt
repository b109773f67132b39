-- The lines that were read of a script, one more at a time.
use Rattle.std.proofs.Common.{◌≡◌, ℕ, suc, ◌+◌, ◌-◌, Option, Some, None, List, [], ◌∷◌, ◌++◌, length, map, refl, sym, ap, ◌∙◌, append_assoc, arith, length-append}
use Rattle.std.specs.Prelude.{⊤, slice_get}
use Rattle.std.specs.Io.KnownBytes.{prepend_known}
use Rattle.mls_text.proofs.LineLemmas.{lines_of-fed, lines_of-last}
use Rattle.mls_seat_lines.specs.mls_wire.Lines.{line_if_short, script_of}
use Rattle.mls_seat_lines.specs.mls_wire.NextLines.{TakesKnownLine}
use Rattle.mls_seat_lines.specs.mls_wire.declared.reader.NextLine.TheVariants.{Line, LastLine}
use Rattle.mls_lines.specs.Scripts.{IsScriptLine}

-- line n is the first of those that are ahead
abbrev pub IsReadTo : Option (List ℕ) → Option (List ℕ) → ℕ → Type 0
IsReadTo None ahead n = ⊤
IsReadTo (Some script) None n = ⊥
IsReadTo (Some script) (Some ahead) n = (before : List (Option (List ℕ))) × (n ≡ length before + 1) × (script_of script ≡ before ++ script_of ahead)

pub read_none : (script : Option (List ℕ)) → IsReadTo script (prepend_known [] script) 1
read_none None = tt
read_none (Some script) = ([], refl, refl)

-- the first line ahead ends with a line feed
first_fed : (old new kept : List ℕ) → TakesKnownLine (Some old) (Some new) Line kept → script_of old ≡ line_if_short kept ∷ script_of new
first_fed old new kept (line, unbroken, split, same) =
    ap script_of split ∙ ap (map line_if_short) (lines_of-fed line new unbroken) ∙ ap (λ l. l ∷ script_of new) (sym same)

-- it ends with the script
first_last : (old new kept : List ℕ) → TakesKnownLine (Some old) (Some new) LastLine kept → script_of old ≡ line_if_short kept ∷ []
first_last old new kept (unbroken, some, none, same) = ap (map line_if_short) (lines_of-last old unbroken some) ∙ ap (λ l. l ∷ []) (sym same)

-- the element after so many
after_all : {X : Type 0} (before : List X) (x : X) (after : List X) (n : ℕ) → n ≡ length before + 1 → slice_get (before ++ x ∷ after) (n - 1) ≡ Some x
after_all [] x after n is = ap (λ k. slice_get (x ∷ after) (k - 1)) is
after_all (b ∷ before) x after n is =
    let at : n - 1 ≡ suc (n - 1 - 1) = omega (arith, is) in
    let rest : n - 1 ≡ length before + 1 = omega (arith, is) in
    ap (slice_get (b ∷ before ++ x ∷ after)) at ∙ after_all before x after (n - 1) rest

pub line_next : (script old new : Option (List ℕ)) (n : ℕ) (kept : List ℕ) → IsReadTo script old n → TakesKnownLine old new Line kept → IsScriptLine script n (line_if_short kept)
line_next None old new n kept to takes = refl
line_next (Some script) None new n kept to takes = absurd to
line_next (Some script) (Some old) None n kept to takes = absurd takes
line_next (Some script) (Some old) (Some new) n kept (before, at, split) takes =
    let lines : script_of script ≡ before ++ line_if_short kept ∷ script_of new = split ∙ ap (λ l. before ++ l) (first_fed old new kept takes) in
    ap Some (ap (λ l. slice_get l (n - 1)) lines ∙ after_all before (line_if_short kept) (script_of new) n at)

pub line_last : (script old new : Option (List ℕ)) (n : ℕ) (kept : List ℕ) → IsReadTo script old n → TakesKnownLine old new LastLine kept → IsScriptLine script n (line_if_short kept)
line_last None old new n kept to takes = refl
line_last (Some script) None new n kept to takes = absurd to
line_last (Some script) (Some old) None n kept to takes = absurd takes
line_last (Some script) (Some old) (Some new) n kept (before, at, split) takes =
    let lines : script_of script ≡ before ++ line_if_short kept ∷ [] = split ∙ ap (λ l. before ++ l) (first_last old new kept takes) in
    ap Some (ap (λ l. slice_get l (n - 1)) lines ∙ after_all before (line_if_short kept) [] n at)

pub read_next : (script old new : Option (List ℕ)) (n : ℕ) (kept : List ℕ) → IsReadTo script old n → TakesKnownLine old new Line kept → IsReadTo script new (n + 1)
read_next None old new n kept to takes = tt
read_next (Some script) None new n kept to takes = absurd to
read_next (Some script) (Some old) None n kept to takes = absurd takes
read_next (Some script) (Some old) (Some new) n kept (before, at, split) takes = (
  before ++ line_if_short kept ∷ [],
  omega (arith, at, length-append before (line_if_short kept ∷ [])),
  split ∙ ap (λ l. before ++ l) (first_fed old new kept takes) ∙ sym (append_assoc before (line_if_short kept ∷ []) (script_of new)),
)
