-- The text of a layout with its marks reads back as the layout: the sections of what is known of the marks are skipped.
use Rattle.std.proofs.Common.{◌≡◌, ℕ, ◌<◌, ◌==◌, false, List, [], ◌∷◌, ◌++◌, length, All, Ok, get_or, map, refl, sym, ap, subst, ◌∙◌, arith}
use Rattle.std.specs.Prelude.{IfSome, codes}
use Rattle.std.proofs.lemmas.List.Elements.{All-append, All-cons, All-filter, All-head, All-map, All-nil, All-tail}
use mathlib.Core.List.{append_assoc}
use Rattle.mls_geom.specs.Layouts.{Layout}
use Rattle.mls_geom.specs.Pictures.{Picture}
use Rattle.mls_geom.specs.Rects.{Rect, IsRectangleIn}
use Rattle.mls_geom.specs.StripLists.{strips_of}
use Rattle.mls_geom.specs.World.{world}
use Rattle.mls_geom.specs.declared.piece.Piece.{Piece}
use Rattle.mls_geom.proofs.ListedStrips.{AreStrips-strips_of}
use Rattle.mls_tech.specs.Readings.{HasNames, Tech}
use Rattle.mls_text.specs.Lines.{IsUnbroken}
use Rattle.mls_library.specs.CellFiles.{line_meaning, plain_line, section_named, skipped_line}
use Rattle.mls_library.specs.MarkedCells.{dirty_lines, mark_lines, marked, marked_text, rect_lines, rects_section}
use Rattle.mls_library.specs.SavedCells.{HoldsOwnTypes, ReadsAs, of_kind, rect_words, section_lines, section_words, spaced, strip_lines, strips_on, type_numbers}
use Rattle.mls_library.specs.declared.cell_rect.CellRect.{CellRect}
use Rattle.mls_library.specs.declared.meaning.Meaning.TheVariants.{Nothing, Enters}
use Rattle.mls_library.specs.declared.place.Place.TheVariants.{Skipped}
use Rattle.mls_library.proofs.SavedCells.{legal_strips, named_types}
use Rattle.mls_library.proofs.SavedLayouts.{layout_of-layers_rects}
use Rattle.mls_library.proofs.SavedLines.{IsKept, IsPlain, IsPlain-test, IsWord-plain}
use Rattle.mls_library.proofs.SavedReading.{IsKept-layers_to_end, IsKept-rect_words, IsKept-section, IsUnbroken-plain, Reads, ReadsLater, Reads-enters, Reads-layers_to_end, Reads-nothing, layers_rects, layers_to_end, line_meaning-section, reading_of-after_header, words_of-rect_words, words_of-section}

-- ---- a section that is skipped
-- the line of a rectangle says nothing there
line_meaning-skipped : (tech : Tech) (rect : Rect) → line_meaning tech (Skipped false) (rect_words rect) ≡ Ok Nothing
unfolding line_meaning plain_line skipped_line
line_meaning-skipped tech rect = refl

Reads-rect_lines : (tech : Tech) (rects : List Rect) → All (IsRectangleIn world) rects → (more : List (List ℕ)) (tail : List CellRect) → Reads tech (Skipped false) more tail
    → Reads tech (Skipped false) (rect_lines rects ++ more) tail
Reads-rect_lines tech [] legal more tail rest = rest
Reads-rect_lines tech (rect ∷ rects) legal more tail rest =
    Reads-nothing tech (Skipped false) (spaced (rect_words rect)) (rect_lines rects ++ more) tail
    (ap (line_meaning tech (Skipped false)) (words_of-rect_words rect (All-head (IsRectangleIn world) rect rects legal)) ∙ line_meaning-skipped tech rect)
    (Reads-rect_lines tech rects (All-tail (IsRectangleIn world) rect rects legal) more tail rest)

module _ (tech : Tech) (name : List ℕ) (skipped : section_named tech name ≡ Ok (Enters (Skipped false))) (some : 0 < length name) (plain : IsPlain name) where
  Reads-rects_section : (rects : List Rect) → All (IsRectangleIn world) rects → (more : List (List ℕ)) (tail : List CellRect) → ReadsLater tech more tail
      → ReadsLater tech (rects_section name rects ++ more) tail
  Reads-rects_section [] legal more tail rest place later = rest place later
  Reads-rects_section (rect ∷ rects) legal more tail rest place later =
      Reads-enters tech place (spaced (section_words name)) (rect_lines (rect ∷ rects) ++ more) tail (Skipped false)
      (ap (line_meaning tech place) (words_of-section name (IsWord-plain name some plain)) ∙ line_meaning-section tech place name later ∙ skipped)
      (Reads-rect_lines tech (rect ∷ rects) legal more tail (rest (Skipped false) refl))

  IsKept-rects_section : (rects : List Rect) → All (IsRectangleIn world) rects → All IsKept (rects_section name rects)
  IsKept-rects_section [] legal = All-nil IsKept
  IsKept-rects_section (rect ∷ rects) legal =
      All-cons IsKept (spaced (section_words name)) (rect_lines (rect ∷ rects)) (IsKept-section name (IsUnbroken-plain name plain))
      (All-map IsKept (λ each. spaced (rect_words each)) (rect ∷ rects) (λ k d within. IsKept-rect_words (get_or (rect ∷ rects) k d) (legal k d within)))

-- strips have the lines of their rectangles
abbrev rects_of : List Piece → List Rect
rects_of strips = map (λ strip. strip.rect) strips

strip_lines-rects : (strips : List Piece) → strip_lines strips ≡ rect_lines (rects_of strips)
strip_lines-rects [] = refl
strip_lines-rects (strip ∷ strips) = ap (λ lines. spaced (rect_words strip.rect) ∷ lines) (strip_lines-rects strips)

section_lines-rects : (name : List ℕ) (strips : List Piece) → section_lines name strips ≡ rects_section name (rects_of strips)
section_lines-rects name [] = refl
section_lines-rects name (strip ∷ strips) = ap (λ lines. spaced (section_words name) ∷ lines) (strip_lines-rects (strip ∷ strips))

-- ---- the two sections
checkpaint_skipped : (tech : Tech) → section_named tech (codes "checkpaint") ≡ Ok (Enters (Skipped false))
unfolding section_named
checkpaint_skipped tech = refl

error_p_skipped : (tech : Tech) → section_named tech (codes "error_p") ≡ Ok (Enters (Skipped false))
unfolding section_named
error_p_skipped tech = refl

module _ (tech : Tech) (areas : List Rect) (legal : All (IsRectangleIn world) areas) (marks : Picture) where
  abbrev strips : List Piece
  strips = strips_of world marks

  abbrev both : List (List ℕ)
  both = dirty_lines areas ++ mark_lines strips

  abbrev mark_rects : List Rect
  mark_rects = rects_of (of_kind marked strips)

  legal_marks : All (IsRectangleIn world) mark_rects
  legal_marks =
      All-map (IsRectangleIn world) (λ strip. strip.rect) (of_kind marked strips)
      (All-filter (λ strip. strip.kind == marked) (λ strip. IsRectangleIn world strip.rect) strips (legal_strips marks))

  Reads-both : (more : List (List ℕ)) (tail : List CellRect) → ReadsLater tech more tail → ReadsLater tech (both ++ more) tail
  Reads-both more tail rest =
      subst (λ lines. ReadsLater tech lines tail) (sym (append_assoc (dirty_lines areas) (mark_lines strips) more))
      (Reads-rects_section tech (codes "checkpaint") (checkpaint_skipped tech) (omega arith) (IsPlain-test (codes "checkpaint") refl) areas legal (mark_lines strips ++ more) tail
      (subst (λ lines. ReadsLater tech (lines ++ more) tail) (sym (section_lines-rects (codes "error_p") (of_kind marked strips)))
      (Reads-rects_section tech (codes "error_p") (error_p_skipped tech) (omega arith) (IsPlain-test (codes "error_p") refl) mark_rects legal_marks more tail rest)))

  IsKept-both : All IsKept both
  IsKept-both =
      All-append IsKept (dirty_lines areas) (mark_lines strips)
      (IsKept-rects_section tech (codes "checkpaint") (checkpaint_skipped tech) (omega arith) (IsPlain-test (codes "checkpaint") refl) areas legal)
      (subst (All IsKept) (sym (section_lines-rects (codes "error_p") (of_kind marked strips)))
      (IsKept-rects_section tech (codes "error_p") (error_p_skipped tech) (omega arith) (IsPlain-test (codes "error_p") refl) mark_rects legal_marks))

  -- whatever the marks are, and the areas that await checking
  pub marked-reads-back : (layout : Layout) → HasNames tech.types tech.type_planes → IfSome tech.name IsUnbroken → HoldsOwnTypes tech layout
      → ReadsAs tech (marked_text tech layout areas marks) layout
  marked-reads-back layout names unbroken own =
      let rects = layers_rects tech (strips_on layout) (type_numbers tech) in
      let legal_layers = λ (plane : ℕ). legal_strips (layout plane) in
      let named = named_types tech names in (
        rects,
        reading_of-after_header tech unbroken (both ++ layers_to_end tech (strips_on layout) legal_layers named)
            (All-append IsKept both (layers_to_end tech (strips_on layout) legal_layers named) IsKept-both (IsKept-layers_to_end tech (strips_on layout) legal_layers named)) rects
            (Reads-both (layers_to_end tech (strips_on layout) legal_layers named) rects (Reads-layers_to_end tech (strips_on layout) legal_layers named)),
        layout_of-layers_rects tech layout (strips_on layout) (λ plane. AreStrips-strips_of world (layout plane)) own,
      )
