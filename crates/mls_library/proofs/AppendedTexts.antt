-- A text that is appended part by part, where memory may run out at each.
use Rattle.std.proofs.Common.{◌≡◌, ℕ, ◌++◌, List, [], Result, Ok, Err, IsErr, Vec, Global, sym, ap, subst, ◌∙◌, length-append, arith}
use Rattle.std.proofs.lemmas.Result.{IfOk-from_err, on_err_weaker, on_ok_weaker}
use mathlib.Core.List.{append_assoc, append-nil}
use Rattle.mls_library.specs.SavedCells.{Appends}
use Rattle.mls_library.proofs.SavedRooms.{grown}
use Rattle.mls_library.proofs.SavedTexts.{Extends-appended, Extends-trans, on_err}

module _ {T E : Type 0} (result : Result T E) where
  -- the same text, in other words
  pub Appends-same : (old new : Vec ℕ Global) (more other : List ℕ) → more ≡ other → Appends result old new more → Appends result old new other
  Appends-same old new more other same part = subst (Appends result old new) same part

  -- a part, after one that was appended
  pub Appends-then : {S F : Type 0} (done : S) (old middle new : Vec ℕ Global) (first second : List ℕ) → Appends {T = S} {E = F} (Ok done) old middle first → Appends result middle new second
      → Appends result old new (first ++ second)
  Appends-then done old middle new first second before part = record {
    text = on_ok_weaker result (λ last. last ∙ ap (λ text. text ++ second) before.text ∙ append_assoc old.items first second) part.text;
    kept = on_err_weaker result (Extends-trans old.items middle.items new.items (Extends-appended old.items middle.items first before.text)) part.kept;
    room = on_err_weaker result
        (λ lacks. omega (arith, grown old.items middle.items first old.ok.0 middle.ok.0 before.text, length-append first second, before.capacity, lacks)) part.room;
    capacity = omega (arith, before.capacity, part.capacity);
  }

  -- a part for which memory ran out, with all that was to come after it
  pub Appends-stopped : {S F : Type 0} (fault : F) (old new : Vec ℕ Global) (part rest : List ℕ) → IsErr result → Appends {T = S} {E = F} (Err fault) old new part → Appends result old new (part ++ rest)
  Appends-stopped fault old new part rest fails stopped = record {
    text = IfOk-from_err result _ fails;
    kept = on_err result _ stopped.kept;
    room = on_err result _ (omega (arith, length-append part rest, stopped.room));
    capacity = stopped.capacity;
  }

-- nothing is appended
pub Appends-nothing : {T E : Type 0} (done : T) (text : Vec ℕ Global) → Appends {T = T} {E = E} (Ok done) text text []
Appends-nothing done text = record {
  text = sym (append-nil text.items);
  kept = tt;
  room = tt;
  capacity = omega arith;
}
