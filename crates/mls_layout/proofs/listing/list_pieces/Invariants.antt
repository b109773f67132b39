use Rattle.std.proofs.Common.{◌≡◌, ◌≢◌, ◌≤◌, ℕ, true, length}
use Rattle.std.specs.List.{All}
use Rattle.mls_geom.specs.Locality.{laid, uncovered}
use Rattle.mls_geom.specs.Rects.{IsRectangleIn, holds}
use Rattle.mls_layout.specs.Inner.{later_uses}
use Rattle.mls_layout.specs.Uses.{cell_layouts, over, uses_layout}
use Rattle.mls_layout.proofs.listing.list_pieces.Given as goal

-- the pieces, with the uses to come over them, show what all uses do
abbrev pub invariant-loop-index : goal.invariant-loop-index
invariant-loop-index l = record {
  shown :
      (x y : ℕ) → holds l.rect x y ≡ true
      → over (later_uses l.fn.workspace.pool l.fn.shown.uses l.index l.fn.shown.number) (laid l.workspace.pieces.items) x y
      ≡ uses_layout (cell_layouts l.fn.workspace.pool l.fn.shown.uses.library.now) l.fn.shown.uses.list.now l.fn.shown.number x y;
  inside : All (λ piece. IsRectangleIn l.rect piece.rect) l.workspace.pieces.items;
  covered : (x y : ℕ) → holds l.rect x y ≡ true → laid l.workspace.pieces.items x y ≢ uncovered;
  few : length l.workspace.pieces.items ≤ l.most;
  pool : l.workspace.pool ≡ l.fn.workspace.pool;
}
