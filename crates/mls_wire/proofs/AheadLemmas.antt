-- Scripts that are read line by line, and what their lines say.
use Rattle.std.proofs.Common.{◌≡◌, ℕ, Option, Some, None, Result, List, [], ◌∷◌, ◌++◌, map, sym, ap, ◌∙◌, append_assoc}
use Rattle.std.specs.Prelude.{⊤}
use Rattle.mls_text.proofs.LineLemmas.{lines_of-fed, lines_of-last}
use Rattle.mls_wire.specs.Ahead.{SaysScript, ahead_says}
use Rattle.mls_wire.specs.Lines.{line_if_short, script_of}
use Rattle.mls_wire.specs.NameBooks.{Names}
use Rattle.mls_wire.specs.NextLines.{TakesKnownLine}
use Rattle.mls_wire.specs.declared.line.Line.{Line as Said}
use Rattle.mls_wire.specs.declared.line.LineFault.{LineFault}
use Rattle.mls_wire.specs.declared.reader.NextLine.TheVariants.{Line, LastLine}

-- what was said so far, and what is ahead, are the whole script
abbrev pub SaidSoFar : Names → Option (List ℕ) → Option (List ℕ) → List (Result Said LineFault) → Type 0
SaidSoFar book None ahead said = ⊤
SaidSoFar book (Some script) None said = ⊥
SaidSoFar book (Some script) (Some ahead) said = map (ahead_says book) (script_of script) ≡ said ++ map (ahead_says book) (script_of ahead)

module _ (book : Names) where
  pub said_next :
      (script old new : Option (List ℕ)) (said : List (Result Said LineFault)) (kept : List ℕ) → SaidSoFar book script old said → TakesKnownLine old new Line kept
      → SaidSoFar book script new (said ++ ahead_says book (line_if_short kept) ∷ [])
  said_next None old new said kept so takes = tt
  said_next (Some script) None new said kept so takes = absurd so
  said_next (Some script) (Some old) None said kept so takes = absurd takes
  said_next (Some script) (Some old) (Some new) said kept so (line, unbroken, split, same) =
      let lines : script_of old ≡ line_if_short kept ∷ script_of new =
      ap script_of split ∙ ap (map line_if_short) (lines_of-fed line new unbroken) ∙ ap (λ l. l ∷ script_of new) (sym same) in
      so ∙ ap (λ l. said ++ map (ahead_says book) l) lines ∙ sym (append_assoc said (ahead_says book (line_if_short kept) ∷ []) (map (ahead_says book) (script_of new)))

  pub said_last :
      (script old new : Option (List ℕ)) (said : List (Result Said LineFault)) (kept : List ℕ) → SaidSoFar book script old said → TakesKnownLine old new LastLine kept
      → SaysScript book script (said ++ ahead_says book (line_if_short kept) ∷ [])
  said_last None old new said kept so takes = tt
  said_last (Some script) None new said kept so takes = absurd so
  said_last (Some script) (Some old) None said kept so takes = absurd takes
  said_last (Some script) (Some old) (Some new) said kept so (unbroken, some, none, same) =
      let lines : script_of old ≡ line_if_short kept ∷ [] = ap (map line_if_short) (lines_of-last old unbroken some) ∙ ap (λ l. l ∷ []) (sym same) in
      sym (so ∙ ap (λ l. said ++ map (ahead_says book) l) lines)
