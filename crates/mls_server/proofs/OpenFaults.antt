-- Why a session can't be opened, memory aside.
use Rattle.std.proofs.Common.{◌≡◌, ℕ, ◌<◌, ◌≤◌, ◌^◌, ◌-◌, ◌||◌, Bool, true, false, nat_le, nat_lt, is_some, if◌then◌else◌, Option, Some, None, Err, length, List, refl, sym, ◌∙◌, arith}
use Rattle.std.proofs.lemmas.Bool.Decides.{nat_tests}
use Rattle.mls_server.specs.Events.{Opens, most_ids, most_sessions, open_fault}
use Rattle.mls_server.specs.Settings.{session_reserve}
use Rattle.mls_server.specs.Worlds.{World, session_named}
use Rattle.mls_server.specs.declared.fault.OpenFault.{OpenFault}
use Rattle.mls_server.specs.declared.fault.OpenFault.TheVariants.{OpenAlready, SessionsFull, PoolFull, Memory}

-- the first of three faults
abbrev first_fault : Bool → Bool → Bool → Option OpenFault
first_fault named full small = if named then Some OpenAlready else (if full then Some SessionsFull else (if small then Some PoolFull else None))

never_memory : (named full small : Bool) → first_fault named full small ≡ Some Memory → ⊥
never_memory true full small is = absurd cc
never_memory false true small is = absurd cc
never_memory false false true is = absurd cc
never_memory false false false is = absurd cc

-- there is none
abbrev pub MayOpen : Bool → Bool → Bool → Type 0
MayOpen named full small = (named ≡ false) × (full ≡ false) × (small ≡ false)

no_fault : (named full small : Bool) → first_fault named full small ≡ None → MayOpen named full small
no_fault true full small is = absurd cc
no_fault false true small is = absurd cc
no_fault false false true is = absurd cc
no_fault false false false is = (refl, refl, refl)

module _ (on : World) (name : List ℕ) where
  abbrev is_full : Bool
  is_full = nat_le most_sessions (length on.seats) || nat_le most_ids on.given

  fault-first : open_fault on name ≡ first_fault (is_some (session_named on name)) is_full (nat_lt on.room (session_reserve on.setting))
  unfolding open_fault
  fault-first = refl

  -- a fault other than memory is answered
  pub Opens-fault : (fault : OpenFault) → open_fault on name ≡ Some fault → Opens on name (Err fault) on
  Opens-fault OpenAlready is = (is, refl)
  Opens-fault SessionsFull is = (is, refl)
  Opens-fault PoolFull is = (is, refl)
  Opens-fault Memory is = absurd (never_memory _ _ _ (sym fault-first ∙ is))

  module _ (none : open_fault on name ≡ None) where
    may : MayOpen (is_some (session_named on name)) is_full (nat_lt on.room (session_reserve on.setting))
    may = no_fault _ _ _ (sym fault-first ∙ none)

    pub unnamed-none : is_some (session_named on name) ≡ false
    unnamed-none = may.0

    few_and_left : (full_seats full_ids : Bool) → (full_seats || full_ids) ≡ false → (full_seats ≡ false) × (full_ids ≡ false)
    few_and_left false false is = (refl, refl)
    few_and_left false true is = absurd cc
    few_and_left true ids is = absurd cc

    pub few-none : length on.seats < 64
    few-none = let few = (few_and_left (nat_le most_sessions (length on.seats)) (nat_le most_ids on.given) may.1).0 in grind (arith, nat_tests, few)

    pub left-none : on.given < 2 ^ 64 - 1
    left-none = let left = (few_and_left (nat_le most_sessions (length on.seats)) (nat_le most_ids on.given) may.1).1 in grind (arith, nat_tests, left)

    pub room-none : session_reserve on.setting ≤ on.room
    room-none = let small = may.2 in grind (arith, nat_tests, small)
