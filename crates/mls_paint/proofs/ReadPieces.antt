-- Reading a piece at an index of a list.
use Rattle.std.proofs.Common.{◌≡◌, ◌<◌, ℕ, Option, Some, None, IsSome, IfSome, Bor, List, length, get_or, refl, sym, ◌∙◌}
use Rattle.std.specs.Bool.{Decides}
use Rattle.std.specs.Option.{option_eq}
use Rattle.std.proofs.lemmas.Bool.{false≢true}
use Rattle.std.proofs.lemmas.List.{get_or_default}
use Rattle.mls_geom.specs.declared.piece.Piece.{Piece}
use Rattle.mls_paint.specs.Changes.{is_same}
use Rattle.mls_paint.proofs.ChangedTiles.{is_same-Decides}

-- what was read at an index is the piece just if the piece stands there
pub read-Decides :
    (pieces : List Piece) (at : ℕ) (read : Option (Bor Piece)) (piece : Bor Piece) → (IsSome read → at < length pieces) → (at < length pieces → IsSome read)
    → IfSome read (λ other. other.now ≡ get_or pieces at other.now)
    → Decides (option_eq (λ p q. is_same p.now q.now) read (Some piece)) ((at < length pieces) × (get_or pieces at piece.now ≡ piece.now))
read-Decides pieces at None piece within inside is = (λ never. absurd (false≢true never), λ there. absurd (false≢true (inside there.0)))
read-Decides pieces at (Some other) piece within inside is = (
  λ same. (within refl, get_or_default pieces at piece.now other.now (within refl) ∙ sym is ∙ (is_same-Decides other.now piece.now).0 same),
  λ there. (is_same-Decides other.now piece.now).1 (is ∙ get_or_default pieces at other.now piece.now there.0 ∙ there.1),
)
