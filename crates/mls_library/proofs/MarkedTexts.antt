-- The section of some rectangles, appended to a text, and the room that it needs.
use Rattle.std.proofs.Common.{◌≡◌, ℕ, ◌+◌, ◌<◌, ◌≤◌, ◌==◌, false, List, [], ◌∷◌, ◌++◌, length, take, drop, get_or, refl, sym, ap, ◌∙◌, arith}
use Rattle.std.proofs.lemmas.List.{length-map, take_more, take-append-drop}
use Rattle.std.proofs.lemmas.Bool.{true≢false}
use mathlib.Core.List.{append_assoc}
use Rattle.mls_geom.specs.Rects.{Rect}
use Rattle.mls_library.specs.MarkedCells.{rect_lines, rects_section}
use Rattle.mls_library.specs.SavedCells.{rect_words, section_words, spaced, text_of}
use Rattle.mls_library.proofs.SavedTexts.{text_by, text_by-append, text_by-push, text_of-append, text_of-none}

abbrev pub rect_line : Rect → List ℕ
rect_line rect = spaced (rect_words rect)

abbrev pub rects_text : List Rect → List ℕ
rects_text rects = text_of (rect_lines rects)

-- ---- a loop over rectangles
module _ (rects : List Rect) (i : ℕ) (rect : Rect) (within : i < length rects) (here : rect ≡ get_or rects i rect) where
  pub rects_text-more : rects_text (take (i + 1) rects) ≡ rects_text (take i rects) ++ (rect_line rect ++ 10 ∷ [])
  rects_text-more =
      ap (text_by rect_line) (take_more rects i rect within) ∙ text_by-push rect_line (take i rects) (get_or rects i rect)
      ∙ ap (λ r. rects_text (take i rects) ++ (rect_line r ++ 10 ∷ [])) (sym here)

  -- the rectangles before it, its line, and the rectangles after it
  pub rects_text-parts : rects_text (take i rects) ++ ((rect_line rect ++ 10 ∷ []) ++ rects_text (drop (i + 1) rects)) ≡ rects_text rects
  rects_text-parts =
      sym (append_assoc (rects_text (take i rects)) (rect_line rect ++ 10 ∷ []) (rects_text (drop (i + 1) rects))) ∙ ap (λ text. text ++ rects_text (drop (i + 1) rects)) (sym rects_text-more)
      ∙ sym (text_by-append rect_line (take (i + 1) rects) (drop (i + 1) rects)) ∙ ap rects_text (take-append-drop (i + 1) rects)

-- ---- a section
pub some_rects : (rects : List Rect) → (length rects == 0) ≡ false → 1 ≤ length rects
some_rects [] some = absurd (true≢false some)
some_rects (rect ∷ rects) some = omega arith

pub length-rects_section-none : (name : List ℕ) (rects : List Rect) → length rects ≡ 0 → 0 ≡ length (rects_section name rects)
length-rects_section-none name [] none = refl
length-rects_section-none name (rect ∷ rects) none = absurd (omega (arith, none))

pub length-rects_section-some : (name : List ℕ) (rects : List Rect) → 1 ≤ length rects → length rects + 1 ≡ length (rects_section name rects)
length-rects_section-some name [] some = absurd (omega (arith, some))
length-rects_section-some name (rect ∷ rects) some = omega (arith, length-map (rect ∷ rects) rect_line)

pub rects_section-none : (name : List ℕ) (rects : List Rect) → length rects ≡ 0 → text_of (rects_section name rects) ≡ []
rects_section-none name [] none = text_of-none
rects_section-none name (rect ∷ rects) none = absurd (omega (arith, none))

pub rects_section-some : (name : List ℕ) (rects : List Rect) → 1 ≤ length rects
    → text_of (rects_section name rects) ≡ text_of (spaced (section_words name) ∷ []) ++ rects_text rects
rects_section-some name [] some = absurd (omega (arith, some))
rects_section-some name (rect ∷ rects) some = text_of-append (spaced (section_words name) ∷ []) (rect_lines (rect ∷ rects))
