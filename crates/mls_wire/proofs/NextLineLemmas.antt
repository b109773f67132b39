-- How a reader comes to the first line of a script, chunk by chunk.
use Rattle.std.proofs.Common.{◌≡◌, ◌≢◌, ℕ, ◌<◌, Option, Some, None, List, [], ◌∷◌, ◌++◌, length, take, sym, ap, subst, ◌∙◌, arith, append_assoc}
use Rattle.std.proofs.KnownBytes.{Consumes-kept, prepend_known-nil}
use Rattle.std.proofs.lemmas.List.{append-nil, length-take, nil_from_length}
use Rattle.std.proofs.lemmas.List.Elements.{All-append}
use Rattle.std.specs.Io.KnownBytes.{Consumes, Keeps, IsAtEnd, prepend_known}
use Rattle.mls_text.specs.Lines.{IsUnbroken}
use Rattle.mls_wire.specs.Lines.{line_if_short}
use Rattle.mls_wire.specs.NextLines.{BeginsKnownLine, TakesKnownLine}
use Rattle.mls_wire.specs.declared.reader.NextLine.TheVariants.{End, Line, LastLine}
use Rattle.mls_wire.proofs.Chunks.{take-take_append}
use Rattle.mls_wire.proofs.ScriptTexts.{line_if_short-take}

-- a beginning of a line came since the start, of which these bytes are kept
pub record HasCome (start now : Option (List ℕ)) (kept : List ℕ) : Type 0 where
  pub came : List ℕ
  pub unbroken : IsUnbroken came
  pub first : kept ≡ take 1026 came
  pub taken : Consumes start now came

Consumes-chunk : (start remaining : Option (List ℕ)) (ahead rest came chunk : List ℕ) → Consumes start (prepend_known ahead remaining) came → ahead ≡ chunk ++ rest
    → Consumes start (prepend_known rest remaining) (came ++ chunk)
Consumes-chunk None remaining ahead rest came chunk taken whole = tt
Consumes-chunk (Some xs) None ahead rest came chunk taken whole = taken
Consumes-chunk (Some xs) (Some ys) ahead rest came chunk taken whole =
    taken ∙ ap (λ l. came ++ l) (ap (λ l. l ++ ys) whole ∙ append_assoc chunk rest ys) ∙ sym (append_assoc came chunk (rest ++ ys))

-- one more chunk of what was read ahead
pub HasCome-chunk : {start : Option (List ℕ)} (remaining : Option (List ℕ)) (ahead rest old new chunk : List ℕ) → HasCome start (prepend_known ahead remaining) old
    → IsUnbroken chunk → ahead ≡ chunk ++ rest → new ≡ take 1026 (old ++ chunk) → HasCome start (prepend_known rest remaining) new
HasCome-chunk remaining ahead rest old new chunk h unbroken whole kept =
    record {
      came = h.came ++ chunk;
      unbroken = All-append (λ b. b ≢ 10) h.came chunk h.unbroken unbroken;
      first = kept ∙ ap (λ l. take 1026 (l ++ chunk)) h.first ∙ take-take_append 1026 h.came chunk;
      taken = Consumes-chunk _ remaining ahead rest h.came chunk h.taken whole;
    }

-- all that was read ahead, and then more was read
pub HasCome-all : {start : Option (List ℕ)} (remaining new : Option (List ℕ)) (ahead rest old kept : List ℕ) → HasCome start (prepend_known ahead remaining) old
    → IsUnbroken ahead → rest ≡ [] → kept ≡ take 1026 (old ++ ahead) → Keeps (prepend_known rest remaining) new → HasCome start new kept
HasCome-all remaining new ahead rest old kept h unbroken none first same =
    let whole = sym (ap (λ l. ahead ++ l) none ∙ append-nil ahead) in
    let all = HasCome-chunk remaining ahead rest old kept ahead h unbroken whole first in
    record { came = all.came; unbroken = all.unbroken; first = all.first; taken = Consumes-kept _ _ new all.came all.taken same }

-- the bytes that are kept of a line are enough to read it
line_if_short-kept : (line kept : List ℕ) → kept ≡ take 1026 line → line_if_short kept ≡ line_if_short line
line_if_short-kept line kept first = ap line_if_short first ∙ line_if_short-take line

-- the line's line feed is next
pub TakesKnownLine-fed : (start remaining : Option (List ℕ)) (rest kept : List ℕ) → HasCome start (prepend_known (10 ∷ rest) remaining) kept
    → TakesKnownLine start (prepend_known rest remaining) Line kept
TakesKnownLine-fed None remaining rest kept h = tt
TakesKnownLine-fed (Some xs) None rest kept h = h.taken
TakesKnownLine-fed (Some xs) (Some ys) rest kept h = (h.came, h.unbroken, h.taken, line_if_short-kept h.came kept h.first)

-- the script ends with the line
pub TakesKnownLine-last : (start now : Option (List ℕ)) (kept : List ℕ) → HasCome start now kept → IsAtEnd now → 0 < length kept
    → TakesKnownLine start now LastLine kept
TakesKnownLine-last None now kept h end some = tt
TakesKnownLine-last (Some xs) None kept h end some = h.taken
TakesKnownLine-last (Some xs) (Some ys) kept h end some =
    let text = h.taken ∙ ap (λ l. h.came ++ l) end ∙ append-nil h.came in (
      subst IsUnbroken (sym text) h.unbroken,
      omega (arith, simp length-take at (ap length h.first), ap length text),
      end,
      line_if_short-kept xs kept (h.first ∙ ap (take 1026) (sym text)),
    )

-- the script has ended
pub TakesKnownLine-end : (start now : Option (List ℕ)) (kept : List ℕ) → HasCome start now kept → IsAtEnd now → kept ≡ []
    → TakesKnownLine start now End kept
TakesKnownLine-end None now kept h end none = tt
TakesKnownLine-end (Some xs) None kept h end none = h.taken
TakesKnownLine-end (Some xs) (Some ys) kept h end none =
    (h.taken ∙ ap (λ l. h.came ++ l) end ∙ append-nil h.came ∙ nil_from_length h.came (omega (arith, simp length-take at (ap length (sym h.first ∙ none)))), end)

-- a line was begun
pub BeginsKnownLine-come : (start remaining : Option (List ℕ)) (ahead kept : List ℕ) → HasCome start (prepend_known ahead remaining) kept → ahead ≡ []
    → BeginsKnownLine start remaining
BeginsKnownLine-come start remaining ahead kept h none =
    (h.came, h.unbroken, subst (λ known. Consumes start known h.came) (ap (λ l. prepend_known l remaining) none ∙ prepend_known-nil remaining) h.taken)
