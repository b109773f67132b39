use Rattle.std.proofs.Common.{◌≡◌, ◌≤◌, ◌∷◌, [], ◌++◌, List, length, map, inl, inr, refl, sym, ap, ◌∙◌, arith}
use Rattle.std.proofs.lemmas.Bool.{cases_lt}
use Rattle.std.proofs.lemmas.List.{length-map, map-append}
use Rattle.mls_geom.specs.TileCounts.{tile_count}
use Rattle.mls_geom.specs.World.{world}
use Rattle.mls_geom.specs.declared.piece.Piece.{Piece}
use Rattle.mls_geom.proofs.StripPictures.{AreUnorderedStrips-ordered}
use Rattle.mls_library.specs.CellFiles.{layout_of_rects, pieces_on}
use Rattle.mls_library.specs.Inner.{AreLayoutStrips, ArePlaneStrips}
use Rattle.mls_library.proofs.LayoutStrips.{AreLayoutStrips-push, tile_counts-any, too_many}
use Rattle.mls_library.proofs.plane_strips.list_plane_strips.Goals as goal

pub loop-number-preserved : goal.loop-number-preserved
loop-number-preserved c =
    let rects = c.args.rects.now in
    let found = c.loop-number.found.items in
    let lists : List (List Piece) = map (λ list. list.items) found in
    let list : List Piece = c.in_ok-from_slice.field-0.items in
    let plane = c.loop-number.number in
    let number : length lists ≡ plane = length-map _ _ ∙ c.loop-number.invariant.count in
    let over : c.deref.result.now ≡ pieces_on plane rects = c.deref.ensures.value ∙ c.in_ok-list_pieces.ensures.items ∙ ap (λ plane. pieces_on plane rects) c.new.ensures in
    let same : list ≡ c.strips.new.scratch.strips = c.in_ok-from_slice.ensures.items ∙ c.strips-in-loop-number.ensures in
    let count : length list ≡ tile_count world (layout_of_rects rects plane) = rw (same, ← over) (sym c.in_ok-strips.ensures.count.0 ∙ c.in_ok-strips.ensures.count.1) in
    let few : length list ≤ c.args.limit = elim (cases_lt c.args.limit (length list)) [
      | inl many ↦ absurd (cc (c.in_ok-strips.ensures.too_many.1 (rw (c.get.ensures.value, over, ← count) many)))
      | inr within ↦ within
    ] in
    let strips : ArePlaneStrips (layout_of_rects rects plane) list =
    rw (same, ← over) (record { strips = AreUnorderedStrips-ordered world _ _ c.in_ok-strips.ensures.strips; shows = c.in_ok-strips.ensures.picture })
    in
    let pushed : AreLayoutStrips c.args.limit rects (lists ++ list ∷ []) =
    AreLayoutStrips-push c.args.limit rects lists list c.loop-number.invariant.strips (rw number strips) few (rw number count)
    in
    record {
      strips = rw (c.push_reserved.ensures.items, map-append (λ list. list.items) found (c.in_ok-from_slice.field-0 ∷ [])) pushed;
      count = omega (arith, c.push_reserved.ensures.len, c.loop-number.invariant.count);
      reserved = omega (arith, c.push_reserved.ensures.capacity, c.loop-number.invariant.reserved);
      pieces_fit = omega (arith, c.in_ok-strips.ensures.room, c.loop-number.invariant.pieces_fit);
      strips_fit = omega (arith, c.in_ok-strips.ensures.room, c.loop-number.invariant.strips_fit);
    }

pub returns-in_err-strips-clause-fault : goal.returns-in_err-strips-clause-fault
returns-in_err-strips-clause-fault c =
    let over : c.deref.result.now ≡ pieces_on c.loop-number.number c.args.rects.now =
    c.deref.ensures.value ∙ c.in_ok-list_pieces.ensures.items ∙ ap (λ plane. pieces_on plane c.args.rects.now) c.new.ensures
    in
    let many = rw (c.get.ensures.value, over) at (c.in_err-strips.ensures.too_many.0 refl) in
    let found = tile_counts-any c.args.limit c.args.rects.now c.args.planes c.loop-number.number (omega (arith, c.loop-number-test.true)) many in
    too_many c.from_residual-in_err-strips.result c.from_residual-in_err-strips.ensures.1 found
