-- What looks at a session return.
use Rattle.std.proofs.Common.{◌≡◌, ◌⊎◌, inl, inr, ◌++◌, [], ℕ, ℤ, true, false, List, Result, Ok, refl, sym, ap, ◌∙◌, append-nil}
use Rattle.std.proofs.lemmas.Bool.{cond-false, cond-true}
use Rattle.mls_session.proofs.Common.{CellUse, Checking, IsRect, JournalCopy, Kept, Layout, Look, Looked, Looks, Picture, Rect, RectFault, Status, Tech, Terms, areas_in, empty_layout, errors_of, exceeds_listed, layout_of, look_of, marked_line_count, marked_text, marks_picture, rect_of, saved_line_count, saved_text, squares_in, status_of, violations_of, why_in}
use Rattle.mls_session.specs.declared.look.Look.TheVariants.{Save, Why, Status as AskStatus, Uses as AskUses, Marks, Errors as AskErrors, Violations as AskViolations, Journal as AskJournal}
use Rattle.mls_session.specs.declared.look.Looked.TheVariants.{Saved, Status as HasStatus, Uses as HasUses, Marked, Errors as HasErrors, Journal as HasJournal, Refused}
use Rattle.mls_session.specs.declared.refusal.Refusal.TheVariants.{Memory, Quota}

-- with the text that was appended
abbrev pub LooksMore : Terms → Kept → Look → Looked → List ℕ → List ℕ → Type 0
LooksMore terms kept look looked out longer = (text : List ℕ) × Looks terms kept look looked text × (longer ≡ out ++ text)

-- at the layout, as text
pub Looks-save :
    (terms : Terms) (kept : Kept) (lines : ℕ) (out longer : List ℕ) → lines ≡ saved_line_count terms.config.tech kept.own.design.drawn.paint
    → longer ≡ out ++ saved_text terms.config.tech kept.own.design.drawn.paint → LooksMore terms kept Save (Saved lines) out longer
unfolding look_of
Looks-save terms kept lines out longer count appended =
    let text = saved_text terms.config.tech kept.own.design.drawn.paint in
    let with_text : ℕ → Looked × List ℕ = λ n. (Saved n, text) in
    (text, inl (ap with_text (sym count)), appended)

abbrev without_text : Looked → Looked × List ℕ
without_text looked = (looked, [])

-- at the rules that forbid a square of the rectangle between these lines
pub Looks-why :
    (terms : Terms) (kept : Kept) (left bottom right top : ℤ) (looked : Looked)
    → (looked ≡ why_in terms.config.rules (layout_of terms.config kept.own.design.drawn) (rect_of left bottom right top)) ⊎ (IsRect (rect_of left bottom right top) × (looked ≡ Refused Memory))
    → Looks terms kept (Why left bottom right top) looked []
unfolding look_of
Looks-why terms kept left bottom right top looked (inl is) = inl (ap without_text (sym is))
Looks-why terms kept left bottom right top looked (inr (made, memory)) = inr (made, memory, refl)

-- at what the rules forbid in the rectangle between these lines
pub Looks-violations :
    (terms : Terms) (kept : Kept) (left bottom right top : ℤ) (looked : Looked)
    → (looked ≡ violations_of terms.config.quota terms.config.rules (layout_of terms.config kept.own.design.drawn) (rect_of left bottom right top)) ⊎ (IsRect (rect_of left bottom right top) × (looked ≡ Refused Memory))
    → Looks terms kept (AskViolations left bottom right top) looked []
unfolding look_of
Looks-violations terms kept left bottom right top looked (inl is) = inl (ap without_text (sym is))
Looks-violations terms kept left bottom right top looked (inr (made, memory)) = inr (made, memory, refl)

-- at how far it has come
pub Looks-status : (terms : Terms) (kept : Kept) (status : Status) → status ≡ status_of terms kept → Looks terms kept AskStatus (HasStatus status) []
unfolding look_of
Looks-status terms kept status is = inl (ap (λ (s : Status). without_text (HasStatus s)) (sym is))

-- at the cells that are placed
pub Looks-uses : (terms : Terms) (kept : Kept) (uses : List CellUse) → uses ≡ kept.own.design.drawn.uses → Looks terms kept AskUses (HasUses uses) []
unfolding look_of
Looks-uses terms kept uses is = inl (ap (λ (list : List CellUse). without_text (HasUses list)) (sym is))

-- at the journal
pub Looks-journal : (terms : Terms) (kept : Kept) (copy : JournalCopy) → copy ≡ record { entries = kept.journal; steps = kept.checks } → Looks terms kept AskJournal (HasJournal copy) []
unfolding look_of
Looks-journal terms kept copy is = inl (ap (λ (c : JournalCopy). without_text (HasJournal c)) (sym is))

-- ---- at the layout with its marks, as text
module _ (terms : Terms) (kept : Kept) where
  abbrev shown : Layout
  shown = layout_of terms.config kept.own.design.drawn

  abbrev marked_shown : Picture
  marked_shown = marks_picture kept.own.design.checking.marks

  abbrev with_marks : ℕ → List ℕ → Looked × List ℕ
  with_marks lines text = (Marked lines, text)

  pub Looks-marks :
      (lines : ℕ) (out longer : List ℕ) → exceeds_listed terms.config shown ≡ false
      → lines ≡ marked_line_count terms.config.tech shown kept.own.design.checking.dirty marked_shown
      → longer ≡ out ++ marked_text terms.config.tech shown kept.own.design.checking.dirty marked_shown → LooksMore terms kept Marks (Marked lines) out longer
  unfolding look_of
  Looks-marks lines out longer few count appended =
      let text = marked_text terms.config.tech shown kept.own.design.checking.dirty marked_shown in
      let number = marked_line_count terms.config.tech shown kept.own.design.checking.dirty marked_shown in (
        text,
        inl (cond-false (exceeds_listed terms.config shown) (without_text (Refused Quota)) (with_marks number text) few ∙ ap (λ (n : ℕ). with_marks n text) (sym count)),
        appended,
      )

  -- which is refused where a plane has too many tiles
  pub Looks-marks-Quota : (out longer : List ℕ) → exceeds_listed terms.config shown ≡ true → longer ≡ out → LooksMore terms kept Marks (Refused Quota) out longer
  unfolding look_of
  Looks-marks-Quota out longer many same =
      let text = marked_text terms.config.tech shown kept.own.design.checking.dirty marked_shown in
      let number = marked_line_count terms.config.tech shown kept.own.design.checking.dirty marked_shown in
      ([], inl (cond-true (exceeds_listed terms.config shown) (without_text (Refused Quota)) (with_marks number text) many), same ∙ sym (append-nil out))

-- ---- at the marks and the areas that await checking in a rectangle, as text
-- with the text that was appended
abbrev pub ErrorsMore : Tech → Checking → Result Rect RectFault → Looked → List ℕ → List ℕ → Type 0
ErrorsMore tech checking made looked out longer =
    (text : List ℕ) × ((errors_of tech checking made ≡ (looked, text)) ⊎ (IsRect made × (looked ≡ Refused Memory) × (text ≡ []))) × (longer ≡ out ++ text)

module _ (tech : Tech) (checking : Checking) (rect : Rect) where
  abbrev areas_here : List Rect
  areas_here = areas_in rect checking.dirty

  abbrev marks_here : Picture
  marks_here = marks_picture (squares_in rect checking.marks)

  pub ErrorsMore-text :
      (lines : ℕ) (out longer : List ℕ) → lines ≡ marked_line_count tech empty_layout areas_here marks_here
      → longer ≡ out ++ marked_text tech empty_layout areas_here marks_here → ErrorsMore tech checking (Ok rect) (HasErrors lines) out longer
  ErrorsMore-text lines out longer count appended =
      let text = marked_text tech empty_layout areas_here marks_here in
      let with_text : ℕ → Looked × List ℕ = λ n. (HasErrors n, text) in
      (text, inl (ap with_text (sym count)), appended)

-- so it is what the look between the lines returns
pub Looks-errors :
    (terms : Terms) (kept : Kept) (left bottom right top : ℤ) (looked : Looked) (out longer : List ℕ)
    → ErrorsMore terms.config.tech kept.own.design.checking (rect_of left bottom right top) looked out longer
    → LooksMore terms kept (AskErrors left bottom right top) looked out longer
unfolding look_of
Looks-errors terms kept left bottom right top looked out longer more = more
