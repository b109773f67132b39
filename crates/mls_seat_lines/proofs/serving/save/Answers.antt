use Rattle.std.proofs.Common.{◌≡◌, ◌++◌, ℕ, List, refl, sym, ap, subst, ◌∙◌}
use Rattle.mls_live.specs.Audits.{CanSaveAt}
use Rattle.mls_wire.specs.mls_server.declared.answer.Answer.TheVariants.{Saved}
use Rattle.mls_wire.specs.Replies.{answer_text}
use Rattle.mls_seat_lines.proofs.serving.save.Goals as goal

pub returns : goal.returns
returns g c =
    let (text, can, is) = c.save-result.ensures.saves in
    let result = c.save-result.result in
    let saved = c.deref.result.now in
    let same : text ≡ saved = sym (c.deref.ensures.value ∙ is ∙ ap (λ (before : List ℕ). before ++ text) c.new-saved.ensures.items) in
    let reply = answer_text (g.B.Names.book c.args.wording.now.names.now) c.args.name.now (Saved result saved) in
    (reply, (result, c.save-result.ensures.list, (saved, refl, subst (CanSaveAt g.N.Naming.terms result) same can)), c.push_saved.ensures)
