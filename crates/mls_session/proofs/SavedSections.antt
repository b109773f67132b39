-- A loop over the types that lists the strips of one type's plane in each turn: its text, and the number of its lines.
use Rattle.std.proofs.Common.{◌≡◌, ℕ, ◌+◌, ◌-◌, ◌≤◌, ◌++◌, ◌<◌, Some, List, length, sym, ap, ◌∙◌, arith}
use Rattle.mls_session.proofs.Common.{IsSection, Layout, Piece, Tech, header_lines, layer_lines, plane_of_type, saved_line_count, saved_text, strips_on, text_of}
use Rattle.mls_library.proofs.SavedRooms.{layer_fits}
use Rattle.mls_library.proofs.SavedTexts.{count_up_to-all, count_up_to-more, count_up_to-none, lines_up_to, text_up_to-more}

module _ (tech : Tech) (layout : Layout) where
  -- the lines before a type's section
  abbrev pub lines_before : ℕ → List (List ℕ)
  lines_before kind = lines_up_to (header_lines tech) tech (strips_on layout) (kind - 1)

  pub count-first : 3 ≡ length (lines_before 1) + 1
  count-first = omega (arith, count_up_to-none (header_lines tech) tech (strips_on layout))

  pub count-all : (kind lines : ℕ) → lines ≡ length (lines_before kind) + 1 → kind ≡ length tech.type_planes + 1 → lines ≡ saved_line_count tech layout
  count-all kind lines so_far all =
      let types : kind - 1 ≡ length tech.type_planes = omega (arith, all) in
      so_far ∙ ap (λ n. length (lines_up_to (header_lines tech) tech (strips_on layout) n) + 1) types
      ∙ sym (count_up_to-all (header_lines tech) tech (strips_on layout))

  -- ---- one section more
  module _ (kind : ℕ) (strips : List Piece) (section : ℕ) (from : 1 ≤ kind) (is : IsSection tech layout kind strips section) where
    this : kind - 1 + 1 ≡ kind
    this = omega (arith, from)

    last : kind - 1 + 1 ≡ kind + 1 - 1
    last = omega (arith, from)

    place : plane_of_type tech.type_planes (kind - 1 + 1) ≡ Some is.plane
    place = ap (plane_of_type tech.type_planes) this ∙ is.place

    pub count-next : (lines : ℕ) → lines ≡ length (lines_before kind) + 1 → lines + section ≡ length (lines_before (kind + 1)) + 1
    count-next lines so_far =
        let more = count_up_to-more (header_lines tech) tech (strips_on layout) (kind - 1) is.plane strips place is.strips_are in
        let own = ap (λ k. length (layer_lines tech k strips)) this in
        omega (arith, so_far, is.count, more, own, ap (λ n. length (lines_up_to (header_lines tech) tech (strips_on layout) n)) last)

    pub text-next :
        (base old new : List ℕ) → old ≡ base ++ text_of (lines_before kind) → new ≡ old ++ text_of (layer_lines tech kind strips)
        → new ≡ base ++ text_of (lines_before (kind + 1))
    text-next base old new so_far appended =
        text_up_to-more (header_lines tech) tech (strips_on layout) base old new (kind - 1) is.plane strips place is.strips_are so_far
        (appended ∙ ap (λ k. old ++ text_of (layer_lines tech k strips)) (sym this))
        ∙ ap (λ n. base ++ text_of (lines_up_to (header_lines tech) tech (strips_on layout) n)) last

    pub section_fits : kind - 1 < length tech.type_planes → length (text_of (lines_before kind)) + length (text_of (layer_lines tech kind strips)) ≤ length (saved_text tech layout)
    section_fits few =
        let fits = layer_fits (header_lines tech) tech (strips_on layout) (kind - 1) is.plane strips few place is.strips_are in
        omega (arith, fits, ap (λ k. length (text_of (layer_lines tech k strips))) this)
