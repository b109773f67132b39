use Rattle.std.proofs.Common.{◌≡◌, [], ◌+◌, ◌≤◌, length, All}
use Rattle.mls_text.specs.Lines.{raw_lines}
use Rattle.mls_library.specs.CellFiles.{read_lines}
use Rattle.mls_library.specs.Inner.{IsKnownPlace, IsTypeOn}
use Rattle.mls_library.specs.declared.place.Place.TheVariants.{Start}
use Rattle.mls_library.proofs.file.read_cell.Given as goal

-- the lines that are left add to what was read what the file is read as
abbrev pub invariant-loop-line : goal.invariant-loop-line
invariant-loop-line l = record {
  same : read_lines l.tech l.place l.rects.items l.number (raw_lines l.rest) ≡ read_lines l.fn.tech Start [] 0 (raw_lines l.fn.bytes);
  place_known : IsKnownPlace (IsTypeOn l.tech) l.place;
  rects_known : All (λ rect. IsTypeOn l.tech rect.piece.kind rect.plane) l.rects.items;
  fits : l.number + length l.rest ≤ length l.fn.bytes;
}

abbrev pub decreases-loop-line : goal.decreases-loop-line
decreases-loop-line l = length l.rest
