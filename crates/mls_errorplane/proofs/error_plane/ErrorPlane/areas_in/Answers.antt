use Rattle.std.proofs.Common.{◌∷◌, ◌++◌, ◌∙◌, [], List, Some, None, Vec, Global, ap, sym, take, append-nil}
use Rattle.mls_errorplane.proofs.Common.{Rect, areas_in, clipped}
use Rattle.mls_errorplane.proofs.ErrorsIn.{filter_map-more}
use Rattle.mls_errorplane.proofs.error_plane.ErrorPlane.areas_in.Goals as goal
use Rattle.mls_errorplane.proofs.error_plane.ErrorPlane.areas_in.Goals.{in-Some+in_ok-push, in_default}

pub loop-area-preserved : goal.loop-area-preserved
loop-area-preserved c =
    let h = λ (area : Rect). clipped area c.args.rect in
    let i = c.loop-area.area-index in
    let all = c.deref-area-items.result.now in
    elim c.match-clip.branch [
      | in-Some+in_ok-push w ↦ ap (λ (list : Vec Rect Global). list.items) w.parts-is ∙ w.in_ok-push.ensures.items
          ∙ ap (λ (list : List Rect). list ++ w.in-Some.part ∷ []) c.loop-area.invariant
          ∙ sym (filter_map-more h all i c.area-item.result (Some w.in-Some.part) c.loop-area-test.true c.area-item.is (sym w.in-Some.is ∙ c.clip.ensures.value))
      | in_default w ↦ ap (λ (list : Vec Rect Global). list.items) w.parts-is ∙ c.loop-area.invariant ∙ sym (append-nil (areas_in c.args.rect (take i all)))
          ∙ sym (filter_map-more h all i c.area-item.result None c.loop-area-test.true c.area-item.is (sym w.in_default.is ∙ c.clip.ensures.value))
    ]
