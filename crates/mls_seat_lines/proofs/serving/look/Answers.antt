use Rattle.std.proofs.Common.{◌≡◌, ◌++◌, ℕ, List, refl, sym, ap, subst, ◌∙◌}
use Rattle.mls_live.specs.Audits.{CanLookAt}
use Rattle.mls_wire.specs.mls_server.declared.answer.Answer.TheVariants.{Looked}
use Rattle.mls_wire.specs.Replies.{answer_text}
use Rattle.mls_seat_lines.proofs.serving.look.Goals as goal

pub returns : goal.returns
returns g c =
    let (text, can, is) = c.look-result.ensures.looks in
    let result = c.look-result.result in
    let shown = c.deref.result.now in
    let same : text ≡ shown = sym (c.deref.ensures.value ∙ is ∙ ap (λ (before : List ℕ). before ++ text) c.new-shown.ensures.items) in
    let reply = answer_text (g.B.Names.book c.args.wording.now.names.now) c.args.name.now (Looked result shown) in
    (reply, (result, shown, refl, subst (CanLookAt g.N.Naming.terms c.args.look result) same can), c.push_looked.ensures.appends)
