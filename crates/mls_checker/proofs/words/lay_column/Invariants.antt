use Rattle.std.proofs.Common.{◌≡◌, ℕ, ◌+◌, ◌*◌, ◌<◌, ◌||◌, ◌&&◌, nat_lt, length}
use Rattle.mls_kinds.specs.KindSets.{has_bit}
use Rattle.mls_checker.specs.Grids.{has_column}
use Rattle.mls_checker.proofs.words.lay_column.Given as goal

-- the rows before this one have their columns on the map, and its other words are as they were
abbrev pub invariant-loop-row : goal.invariant-loop-row
invariant-loop-row l = record {
  there : (row column : ℕ) → row < length l.words → has_column l.map (l.first + row * l.stride) column
      ≡ (has_column l.fn.map (l.first + row * l.stride) column || (nat_lt row l.row && (has_column l.words row column && has_bit l.columns column)));
  others : (n column : ℕ) → ((row : ℕ) → row < length l.words → n ≡ l.first + row * l.stride → ⊥) → has_column l.map n column ≡ has_column l.fn.map n column;
}
