-- Books that call types and cells the same write the same lines.
use Rattle.std.proofs.Common.{◌≡◌, ℕ, List, [], ◌∷◌, ◌++◌, map, Option, Some, None, refl, ap, codes}
use Rattle.std.specs.Fmt.{signed_decimal}
use Rattle.std.specs.List.{join_with_byte}
use Rattle.std.specs.Option.{unwrap_or}
use Rattle.mls_kinds.specs.KindSets.{members}
use Rattle.mls_server.specs.mls_library.SavedCells.{spaced}
use Rattle.mls_server.specs.mls_session.declared.command.Command.{Command}
use Rattle.mls_server.specs.mls_session.declared.command.Command.TheVariants.{Box, Paint, Erase, Dump, GetCell, What, Save, Check, CatchUp, Why, Count}
use Rattle.mls_wire.specs.JournalLines.{cell_word, command_line, command_words, listed_types, shielded, type_word, types_word}
use Rattle.mls_wire.specs.NameBooks.{Names, no_name}

module _ (a b : Names) (types : (kind : ℕ) → a.short_type_name kind ≡ b.short_type_name kind) (cells : (cell : ℕ) → a.cell_name cell ≡ b.cell_name cell) where
  same-type : (kind : Option ℕ) → type_word a kind ≡ type_word b kind
  same-type None = refl
  same-type (Some kind) = ap (λ (o : Option (List ℕ)). unwrap_or o no_name) (types kind)

  same-cell : (cell : Option ℕ) → cell_word a cell ≡ cell_word b cell
  same-cell None = refl
  same-cell (Some cell) = ap (λ (o : Option (List ℕ)). unwrap_or o no_name) (cells cell)

  same-each : (kinds : List ℕ) → map (λ k. type_word a (Some k)) kinds ≡ map (λ k. type_word b (Some k)) kinds
  same-each [] = refl
  same-each (kind ∷ kinds) = λ i. same-type (Some kind) i ∷ same-each kinds i

  same-listed : (kinds : List ℕ) → listed_types a kinds ≡ listed_types b kinds
  same-listed [] = same-type (Some 0)
  same-listed (kind ∷ kinds) = ap (join_with_byte 44) (same-each (kind ∷ kinds))

  same-types : (kinds : Option ℕ) → types_word a kinds ≡ types_word b kinds
  same-types None = refl
  same-types (Some kinds) = same-listed (members kinds)

  same-words : (command : Command) → command_words a command ≡ command_words b command
  unfolding command_words
  same-words (Box left bottom right top) = refl
  same-words (Paint kind) = ap (λ (word : List ℕ). codes "paint" ∷ word ∷ []) (same-type kind)
  same-words (Erase kinds) = ap (λ (word : List ℕ). codes "erase" ∷ word ∷ []) (same-types kinds)
  same-words (Dump cell dx dy) = ap (λ (word : List ℕ). codes "dump" ∷ word ∷ signed_decimal dx ∷ signed_decimal dy ∷ []) (same-cell cell)
  same-words (GetCell cell dx dy) = ap (λ (word : List ℕ). codes "getcell" ∷ word ∷ signed_decimal dx ∷ signed_decimal dy ∷ []) (same-cell cell)
  same-words What = refl
  same-words Save = refl
  same-words Check = refl
  same-words CatchUp = refl
  same-words Why = refl
  same-words Count = refl

  pub same-line : (name : List ℕ) (command : Command) → command_line a name command ≡ command_line b name command
  same-line name command = ap (λ (words : List (List ℕ)). name ++ shielded (32 ∷ spaced words)) (same-words command)
