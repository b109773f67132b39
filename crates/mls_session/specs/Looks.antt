-- What a look returns: a definition of what the session keeps, which the look leaves as it is. This project's own.
use Rattle.std.specs.Prelude.{◌≡◌, ◌⊎◌, ℕ, List, [], Result, Ok, Err, if◌then◌else◌, false, length, map, nat_lt, ⊤, All}
use Rattle.std.specs.List.{range_with_len}
use Rattle.mls_session.specs.Common.{Checking, EdgeRule, IsRectangleIn, Layout, ReadsAs, Rect, RectFault, Tech, Violation, areas_in, empty_layout, marked_line_count, marked_text, marks_picture, meets, rect_of, saved_line_count, saved_text, squares_in, squares_in_all, strip_count, tile_count, violated_rules, violations_in, world}
use Rattle.mls_geom.specs.declared.rect.RectFault.TheVariants.{Empty, Outside}
use Rattle.mls_session.specs.Designs.{HasRightMarks}
use Rattle.mls_session.specs.Journals.{Kept}
use Rattle.mls_session.specs.Own.{exceeds_listed, layout_of}
use Rattle.mls_session.specs.OwnSteps.{Terms}
use Rattle.mls_session.specs.declared.look.Look.{Look}
use Rattle.mls_session.specs.declared.look.Look.TheVariants.{Save, Why, Status as AskStatus, Uses as AskUses, Marks, Errors as AskErrors, Violations as AskViolations, Journal as AskJournal}
use Rattle.mls_session.specs.declared.look.Looked.{Looked}
use Rattle.mls_session.specs.declared.look.Looked.TheVariants.{Saved, Why as WhyRules, Status as HasStatus, Uses as HasUses, Marked, Errors as HasErrors, Violations as HasViolations, Journal as HasJournal, Refused}
use Rattle.mls_session.specs.declared.look.Status.{Status}
use Rattle.mls_session.specs.declared.refusal.Refusal.TheVariants.{EmptyBox, OutsideWorld, Memory, Quota}

-- how many tiles each of the first planes of the layout has
abbrev pub tile_counts : ℕ → Layout → List ℕ
tile_counts planes layout = map (λ plane. tile_count world (layout plane)) (range_with_len 0 planes)

-- how far the session has come
abbrev pub status_of : Terms → Kept → Status
status_of terms kept = record {
  entries = kept.own.entries;
  limit = terms.journal;
  steps = kept.checks;
  areas = length kept.own.design.checking.dirty;
  tiles = tile_counts terms.config.tech.plane_count kept.own.design.drawn.paint;
  quota = terms.config.quota;
  mark_tiles = tile_count world (marks_picture kept.own.design.checking.marks);
}

-- why there is no rectangle
abbrev pub no_rect : RectFault → Looked
no_rect Empty = Refused EmptyBox
no_rect Outside = Refused OutsideWorld

-- the rules that forbid a square of the rectangle, or why there is none
abbrev pub why_in : List EdgeRule → Layout → Result Rect RectFault → Looked
why_in rules layout (Ok rect) = WhyRules (violated_rules rules rect layout)
why_in rules layout (Err fault) = no_rect fault

-- the number of lines of the layout's text with the areas that await checking and the marks, and that text, unless a plane has more tiles than are listed of
-- one
abbrev pub marked_of : Terms → Kept → Looked × List ℕ
marked_of terms kept =
    if exceeds_listed terms.config (layout_of terms.config kept.own.design.drawn) then (Refused Quota, [])
    else (
      Marked
          (marked_line_count terms.config.tech (layout_of terms.config kept.own.design.drawn) kept.own.design.checking.dirty (marks_picture kept.own.design.checking.marks)),
      marked_text terms.config.tech (layout_of terms.config kept.own.design.drawn) kept.own.design.checking.dirty (marks_picture kept.own.design.checking.marks),
    )

-- the number of lines of the text of the marks and the areas that await checking in the rectangle, and that text, or why there is no rectangle
abbrev pub errors_of : Tech → Checking → Result Rect RectFault → Looked × List ℕ
errors_of tech checking (Ok rect) = (
  HasErrors (marked_line_count tech empty_layout (areas_in rect checking.dirty) (marks_picture (squares_in rect checking.marks))),
  marked_text tech empty_layout (areas_in rect checking.dirty) (marks_picture (squares_in rect checking.marks)),
)
errors_of tech checking (Err fault) = (no_rect fault, [])

-- what each rule forbids, unless that has more strips than so many
abbrev pub listed_within : ℕ → List Violation → Looked
listed_within most found = if nat_lt most (strip_count found) then Refused Quota else HasViolations found

-- what each rule forbids in the rectangle, or why it isn't listed
abbrev pub violations_of : ℕ → List EdgeRule → Layout → Result Rect RectFault → Looked
violations_of most rules layout (Ok rect) = listed_within most (violations_in rules rect layout)
violations_of most rules layout (Err fault) = no_rect fault

-- what the look returns, and the text that comes with it
unfoldable pub look_of : Terms → Kept → Look → Looked × List ℕ
look_of terms kept Save =
    (Saved (saved_line_count terms.config.tech kept.own.design.drawn.paint), saved_text terms.config.tech kept.own.design.drawn.paint)
look_of terms kept (Why left bottom right top) = (why_in terms.config.rules (layout_of terms.config kept.own.design.drawn) (rect_of left bottom right top), [])
look_of terms kept AskStatus = (HasStatus (status_of terms kept), [])
look_of terms kept AskUses = (HasUses kept.own.design.drawn.uses, [])
look_of terms kept Marks = marked_of terms kept
look_of terms kept (AskErrors left bottom right top) = errors_of terms.config.tech kept.own.design.checking (rect_of left bottom right top)
look_of terms kept (AskViolations left bottom right top) =
    (violations_of terms.config.quota terms.config.rules (layout_of terms.config kept.own.design.drawn) (rect_of left bottom right top), [])
look_of terms kept AskJournal = (HasJournal (record { entries = kept.journal; steps = kept.checks }), [])

-- memory may run out in any look but at a rectangle that there isn't
abbrev pub IsRect : Result Rect RectFault → Type 0
IsRect (Ok rect) = ⊤
IsRect (Err fault) = ⊥

abbrev pub MayRunOut : Look → Type 0
MayRunOut Save = ⊤
MayRunOut (Why left bottom right top) = IsRect (rect_of left bottom right top)
MayRunOut AskStatus = ⊤
MayRunOut AskUses = ⊤
MayRunOut Marks = ⊤
MayRunOut (AskErrors left bottom right top) = IsRect (rect_of left bottom right top)
MayRunOut (AskViolations left bottom right top) = IsRect (rect_of left bottom right top)
MayRunOut AskJournal = ⊤

-- the look returns this with this text, as it is defined; or memory ran out, and there is no text
abbrev pub Looks : Terms → Kept → Look → Looked → List ℕ → Type 0
Looks terms kept look looked text = (look_of terms kept look ≡ (looked, text)) ⊎ (MayRunOut look × (looked ≡ Refused Memory) × (text ≡ []))

-- the layout's text with the areas that await checking and the marks reads as the layout
abbrev pub MarksReadBack : Terms → Kept → Type 0
MarksReadBack terms kept =
    ReadsAs terms.config.tech
    (marked_text terms.config.tech (layout_of terms.config kept.own.design.drawn) kept.own.design.checking.dirty (marks_picture kept.own.design.checking.marks))
    (layout_of terms.config kept.own.design.drawn)

-- the text of the marks and the areas in any rectangle reads as the layout that shows nothing
unfoldable pub ErrorsReadBack : Terms → Kept → Type 0
ErrorsReadBack terms kept =
    (rect : Rect)
    → ReadsAs terms.config.tech (marked_text terms.config.tech empty_layout (areas_in rect kept.own.design.checking.dirty) (marks_picture (squares_in rect kept.own.design.checking.marks)))
    empty_layout

-- where no area that awaits checking meets a rectangle, the strips of what the rules forbid there have its marked squares
abbrev pub ViolationsAreMarks : Terms → Kept → Type 0
ViolationsAreMarks terms kept =
    (rect : Rect) → IsRectangleIn world rect → HasRightMarks terms.config kept.own.design → All (λ area. meets area rect ≡ false) kept.own.design.checking.dirty
    → (x y : ℕ)
    → squares_in_all (violations_in terms.config.rules rect (layout_of terms.config kept.own.design.drawn)) x y ≡ squares_in rect kept.own.design.checking.marks x y

-- the fact, if the look is at that text
abbrev pub OnMarks : Look → Type 0 → Type 0
OnMarks Save P = ⊤
OnMarks (Why left bottom right top) P = ⊤
OnMarks AskStatus P = ⊤
OnMarks AskUses P = ⊤
OnMarks Marks P = P
OnMarks (AskErrors left bottom right top) P = ⊤
OnMarks (AskViolations left bottom right top) P = ⊤
OnMarks AskJournal P = ⊤
