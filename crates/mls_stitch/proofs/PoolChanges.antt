-- Changes of one owner's tiles, one after another.
use Rattle.std.proofs.Common.{ℕ, Option, refl, ◌∙◌}
use Rattle.mls_stitch.proofs.Common.{Pool, Changes, Tile, ChangesOnly}

pub ChangesOnly-refl : (pool : Pool) (owner : ℕ) → ChangesOnly pool pool owner
ChangesOnly-refl pool owner = record { others = λ other differs. refl; rooms = refl; capacity = refl }

pub ChangesOnly-trans : {old now new : Pool} {owner : ℕ} → ChangesOnly old now owner → ChangesOnly now new owner → ChangesOnly old new owner
ChangesOnly-trans first next = record {
  others = λ other differs. next.others other differs ∙ first.others other differs;
  rooms = next.rooms ∙ first.rooms;
  capacity = next.capacity ∙ first.capacity;
}

pub ChangesOnly-one : {old new : Pool} {owner key : ℕ} {slot : Option Tile} → Changes old new owner key slot → ChangesOnly old new owner
ChangesOnly-one change = record { others = change.others; rooms = change.rooms; capacity = change.capacity }
