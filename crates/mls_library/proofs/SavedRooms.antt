-- Room for a text that is appended part by part: a part that has no room leaves none for the whole.
use Rattle.std.proofs.Common.{◌≡◌, ℕ, zero, suc, ◌+◌, ◌-◌, ◌<◌, ◌≤◌, Some, List, ◌++◌, length, sym, ap, ◌∙◌, length-append, arith}
use Rattle.mls_geom.specs.declared.piece.Piece.{Piece}
use Rattle.mls_tech.specs.Readings.{Tech, plane_of_type}
use Rattle.mls_library.specs.SavedCells.{end_lines, layer_lines, text_of}
use Rattle.mls_library.proofs.SavedTexts.{lines_up_to, lines_up_to-all, lines_up_to-more, lines_up_to-next, lines_up_to-none, lines_with_layers, text_of-append, type_lines}

-- lengths, after a text was appended
pub grown : {m n : ℕ} (old new more : List ℕ) → m ≡ length old → n ≡ length new → new ≡ old ++ more → n ≡ m + length more
grown old new more before after appended = after ∙ ap length appended ∙ length-append old more ∙ ap (λ k. k + length more) (sym before)

-- ---- the whole file
module _ (front : List (List ℕ)) (tech : Tech) (strips : ℕ → List Piece) where
  abbrev up_to : ℕ → ℕ
  up_to types = length (text_of (lines_up_to front tech strips types))

  abbrev whole : ℕ
  whole = length (text_of (lines_with_layers front tech strips))

  up_to_grows : (types more : ℕ) → up_to types ≤ up_to (more + types)
  up_to_grows types zero =
      let same : zero + types ≡ types = omega arith in
      omega (arith, ap up_to same)
  up_to_grows types (suc more) =
      let next : suc more + types ≡ suc (more + types) = omega arith in
      let lines = type_lines tech strips (1 + (more + types)) in
      omega (
        arith,
        up_to_grows types more,
        ap up_to next,
        ap (λ all. length (text_of all)) (lines_up_to-next front tech strips (more + types)),
        ap length (text_of-append (lines_up_to front tech strips (more + types)) lines),
        length-append (text_of (lines_up_to front tech strips (more + types))) (text_of lines),
      )

  pub end_fits : up_to (length tech.type_planes) + length (text_of end_lines) ≤ whole
  end_fits =
      let all = lines_up_to front tech strips (length tech.type_planes) in
      omega (arith, ap (λ lines. length (text_of lines)) (lines_up_to-all front tech strips), ap length (text_of-append all end_lines), length-append (text_of all) (text_of end_lines))

  up_to_fits : (types : ℕ) → types ≤ length tech.type_planes → up_to types ≤ whole
  up_to_fits types few =
      let all : length tech.type_planes - types + types ≡ length tech.type_planes = omega (arith, few) in
      omega (arith, up_to_grows types (length tech.type_planes - types), ap up_to all, end_fits)

  -- what stands before the types' sections
  pub front_fits : length (text_of front) ≤ whole
  front_fits = omega (arith, up_to_fits 0 (omega arith), ap (λ lines. length (text_of lines)) (lines_up_to-none front tech strips))

  -- the section of one type more, on whose plane these strips are
  pub layer_fits : (types plane : ℕ) (list : List Piece) → types < length tech.type_planes → plane_of_type tech.type_planes (types + 1) ≡ Some plane → list ≡ strips plane
      → up_to types + length (text_of (layer_lines tech (types + 1) list)) ≤ whole
  layer_fits types plane list few place listed =
      let before = lines_up_to front tech strips types in
      let lines = layer_lines tech (types + 1) list in
      omega (
        arith,
        up_to_fits (types + 1) (omega (arith, few)),
        ap (λ all. length (text_of all)) (lines_up_to-more front tech strips types plane list place listed),
        ap length (text_of-append before lines),
        length-append (text_of before) (text_of lines),
      )
