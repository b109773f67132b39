-- Replies to lines.
use Rattle.std.proofs.Common.{◌≡◌, ℕ, true, false, List, [], None, Result, Ok, Err, Vec, Global, is_ok, append-nil, refl, sym, arith}
use Rattle.mls_seat_lines.specs.mls_session.OwnSteps.{Terms}
use Rattle.mls_seat_lines.specs.mls_wire.NameBooks.{Names}
use Rattle.mls_seat_lines.specs.mls_wire.Pushes.{Appends}
use Rattle.mls_seat_lines.specs.mls_wire.Replies.{response_text}
use Rattle.mls_seat_lines.specs.mls_wire.declared.line.Line.{Line}
use Rattle.mls_seat_lines.specs.mls_wire.declared.line.Line.TheVariants.{Silent, Open, Close, Step, Steps, Audit, Look, Run}
use Rattle.mls_seat_lines.specs.mls_wire.declared.response.Response.TheVariants.{Fault}
use Rattle.mls_lines.specs.Answers.{AnswersLine, fault_alone}

-- no text is appended
pub appends_none : {T E : Type 0} {value : T} (old : Vec ℕ Global) → Appends {T = T} {E = E} (Ok value) old old []
appends_none old = record { text = sym (append-nil old.items); room = tt; capacity = omega arith }

-- the text is there where another result says so
pub appends_as : {S T E F : Type 0} (replied : Result S E) (result : Result T F) (old new : Vec ℕ Global) (text : List ℕ)
    → is_ok result ≡ is_ok replied → Appends replied old new text → Appends result old new text
appends_as (Ok done) (Ok known) old new text same appended = record { text = appended.text; room = tt; capacity = appended.capacity }
appends_as (Ok done) (Err fault) old new text same appended = let bad : false ≡ true = same in absurd (cc)
appends_as (Err fault) (Ok known) old new text same appended = let bad : true ≡ false = same in absurd (cc)
appends_as (Err fault) (Err other) old new text same appended = record { text = tt; room = appended.room; capacity = appended.capacity }

-- a line of an open session has this fault where none is open
pub answers_alone : (terms : Terms) (book : Names) (n : ℕ) (said : Line) → (said ≡ Silent → ⊥) → ((name : List ℕ) → said ≡ Open name → ⊥)
    → AnswersLine terms book n (Ok said) None (response_text book n (Fault (fault_alone said))) true None
answers_alone terms book n Silent some other = absurd (some refl)
answers_alone terms book n (Open name) some other = absurd (other name refl)
answers_alone terms book n (Close name id) some other = (refl, refl)
answers_alone terms book n (Step name id) some other = (refl, refl)
answers_alone terms book n (Steps name id most) some other = (refl, refl)
answers_alone terms book n (Audit name id) some other = (refl, refl)
answers_alone terms book n (Look name id look) some other = (refl, refl)
answers_alone terms book n (Run name id command) some other = (refl, refl)
