-- Lines that were carried out at a seat, one more at a time.
use Rattle.std.proofs.Common.{◌≡◌, ◌<◌, ℕ, Bool, true, inl, inr, Option, Some, None, List, [], ◌∷◌, ◌++◌, refl, subst, arith}
use Rattle.std.proofs.Math.Logic.{∥∥₁_elim}
use Rattle.mls_seat_lines.specs.mls_server.LegalLists.{IsLegalList}
use Rattle.mls_seat_lines.specs.mls_session.OwnSteps.{Terms}
use Rattle.mls_seat_lines.specs.mls_wire.NameBooks.{Names}
use Rattle.mls_lines.specs.Answers.{AnswersLine, OpenSeat, name_held}
use Rattle.mls_lines.specs.Beside.{says_beside}
use Rattle.mls_lines.specs.Scripts.{Answered, AnswersLines, HasAnswered, IsScriptLine, IsReply}

module _ (terms : Terms) (book : Names) (script : Option (List ℕ)) where
  -- the line leads from this session to that one
  abbrev Answers : Option OpenSeat → Answered → Type 0
  Answers before one = AnswersLine terms book one.n (says_beside book (name_held before) one.line) before one.text one.audited one.after

  answers_more : (from : ℕ) (before : Option OpenSeat) (run : List Answered) (to : ℕ) (mid : Option OpenSeat) (last : Answered)
      → AnswersLines terms book script from before run to mid → to < last.n → IsScriptLine script last.n last.line → Answers mid last
      → AnswersLines terms book script from before (run ++ last ∷ []) last.n last.after
  answers_more from before [] to mid last (at, is) later stands answers =
      (omega (arith, at, later), stands, subst (λ (held : Option OpenSeat). Answers held last) is answers, (refl, refl))
  answers_more from before (one ∷ more) to mid last (later_one, stands_one, answers_one, rest) later stands answers =
      (later_one, stands_one, answers_one, answers_more one.n one.after more to mid last rest later stands answers)

  -- a line more was carried out
  answered_more : (to : ℕ) (mid : Option OpenSeat) (last : Answered)
      → ∥ HasAnswered terms book script to mid ∥₁ → to < last.n → IsScriptLine script last.n last.line → Answers mid last
      → ∥ HasAnswered terms book script last.n last.after ∥₁
  answered_more to mid last has later stands answers =
      ∥∥₁_elim has squash₁ (λ (run, answered). ∣ (run ++ last ∷ [], answers_more 0 None run to mid last answered later stands answers) ∣₁)

  -- it has its reply
  pub answered_last : (to : ℕ) (mid : Option OpenSeat) (last : Answered)
      → ∥ HasAnswered terms book script to mid ∥₁ → to < last.n → IsScriptLine script last.n last.line → Answers mid last
      → IsReply terms book script (record { text = last.text; audited = last.audited })
  answered_last to mid last has later stands answers =
      ∥∥₁_elim has squash₁ (λ (run, answered). ∣ inl (run, last, answers_more 0 None run to mid last answered later stands answers, refl) ∣₁)

  -- both of a line that was read as line n
  pub answered_line : (to : ℕ) (mid : Option OpenSeat) (n : ℕ) (line : Option (List ℕ)) (text : List ℕ) (audited : Bool) (after : Option OpenSeat)
      → ∥ HasAnswered terms book script to mid ∥₁ → to < n → IsScriptLine script n line → AnswersLine terms book n (says_beside book (name_held mid) line) mid text audited after
      → ∥ HasAnswered terms book script n after ∥₁ × IsReply terms book script (record { text = text; audited = audited })
  answered_line to mid n line text audited after has later stands answers =
      let last : Answered = record { n = n; line = line; text = text; audited = audited; after = after } in
      (answered_more to mid last has later stands answers, answered_last to mid last has later stands answers)

  -- no line was carried out yet
  pub answered_none : ∥ HasAnswered terms book script 0 None ∥₁
  answered_none = ∣ ([], (refl, refl)) ∣₁

  -- a line before which none was carried out has its reply
  pub answered_first : (last : Answered) → 0 < last.n → IsScriptLine script last.n last.line → Answers None last
      → IsReply terms book script (record { text = last.text; audited = last.audited })
  answered_first last = answered_last 0 None last answered_none

  -- the session that is open is closed at the end of the input
  pub answered_end : (to : ℕ) (held : OpenSeat) (audited : Bool) → ∥ HasAnswered terms book script to (Some held) ∥₁ → (audited ≡ true → IsLegalList terms held.said)
      → IsReply terms book script (record { text = []; audited = audited })
  answered_end to held audited has legal = ∥∥₁_elim has squash₁ (λ answered. ∣ inr (to, held, answered, refl, legal) ∣₁)
