-- A text that is appended part by part, where memory may run out at each.
use Rattle.std.proofs.Common.{◌≡◌, ℕ, ◌+◌, ◌<◌, ◌≤◌, ◌++◌, ◌∷◌, List, get_or, length, take, Result, Ok, IsErr, Vec, Global, vec_capacity, vec_len, subst, arith}
use Rattle.std.specs.List.{flat_map}
use Rattle.std.proofs.lemmas.Result.{IfOk-from_err}
use Rattle.mls_wire.specs.Pushes.{Appends}
use Rattle.mls_wire.proofs.PieceRooms.{next_piece_lacks, piece_lacks}
use Rattle.mls_wire.proofs.Results.{on_err, on_err-next, on_ok-next}

module _ {T E : Type 0} (result : Result T E) (old new : Vec ℕ Global) where
  -- the same text, in other words
  pub appends-same : {more other : List ℕ} → more ≡ other → Appends result old new more → Appends result old new other
  appends-same same part = subst (Appends result old new) same part

  -- a part, after one that was appended
  pub appends-next : {S F : Type 0} {done : S} (middle : Vec ℕ Global) {first second : List ℕ} → Appends {T = S} {E = F} (Ok done) old middle first → Appends result middle new second
      → Appends result old new (first ++ second)
  appends-next middle {first} {second} before part = record {
    text = on_ok-next result old.items middle.items new.items first second before.text part.text;
    room = on_err-next result old.items middle.items first second _ _ _ _ before.text old.ok.0 middle.ok.0 before.capacity part.room;
    capacity = omega (arith, before.capacity, part.capacity);
  }

  module _ {X : Type 0} (fails : IsErr result) (f : X → List ℕ) (all : List X) (x : X) (now : Vec ℕ Global) (grows : vec_capacity old ≤ vec_capacity now)
      (lacks : vec_capacity now < vec_len now + length (f x)) (grown : vec_capacity now ≤ vec_capacity new) where
    -- the pieces before the i-th are there, and memory ran out at the i-th
    pub stops_at_piece : (i : ℕ) (d : X) → i < length all → x ≡ get_or all i d → now.items ≡ old.items ++ flat_map f (take i all) → Appends result old new (flat_map f all)
    stops_at_piece i d within here appended = record {
      text = IfOk-from_err result _ fails;
      room = on_err result _ (piece_lacks f all i x d old.items now.items within here appended old.ok.0 now.ok.0 grows lacks);
      capacity = omega (arith, grows, grown);
    }

    -- the pieces that are left are this one and others, and memory ran out at it
    pub stops_at_next_piece : (left rest : List X) → left ≡ x ∷ rest → now.items ++ flat_map f left ≡ old.items ++ flat_map f all → Appends result old new (flat_map f all)
    stops_at_next_piece left rest next appended = record {
      text = IfOk-from_err result _ fails;
      room = on_err result _ (next_piece_lacks f all left rest x old.items now.items next appended old.ok.0 now.ok.0 grows lacks);
      capacity = omega (arith, grows, grown);
    }
