-- The numbers and texts of refusals. This project's own.
use Rattle.std.specs.Prelude.{ℕ, List, codes}
use Rattle.mls_session.specs.declared.refusal.Refusal.{Refusal}
use Rattle.mls_session.specs.declared.refusal.Refusal.TheVariants.{EmptyBox, OutsideWorld, NoBox, UnknownType, Quota, JournalFull, UnknownCell, CellOutside, Memory, TooManyUses}

-- what a reply says of a refusal or a fault
pub record Wording : Type 0 where
  pub number : ℕ
  pub text : List ℕ

abbrev pub refusal_wording : Refusal → Wording
refusal_wording EmptyBox = record { number = 1; text = codes "empty box" }
refusal_wording OutsideWorld = record { number = 2; text = codes "outside the world" }
refusal_wording NoBox = record { number = 3; text = codes "no box" }
refusal_wording UnknownType = record { number = 4; text = codes "unknown type" }
refusal_wording Quota = record { number = 5; text = codes "quota" }
refusal_wording JournalFull = record { number = 6; text = codes "journal full" }
refusal_wording UnknownCell = record { number = 7; text = codes "unknown cell" }
refusal_wording CellOutside = record { number = 8; text = codes "cell outside the world" }
refusal_wording Memory = record { number = 9; text = codes "memory" }
refusal_wording TooManyUses = record { number = 10; text = codes "too many uses" }

abbrev pub refusal_number : Refusal → ℕ
refusal_number refusal = (refusal_wording refusal).number

abbrev pub refusal_text : Refusal → List ℕ
refusal_text refusal = (refusal_wording refusal).text
