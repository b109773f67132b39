use Rattle.std.proofs.Common.{ℕ, ap, ◌∙◌, sym, length}
use Rattle.mls_session.proofs.Common.{Design, Designed, Reply, designed_of, marked_count, total_marks}
use Rattle.mls_session.specs.declared.reply.Reply.TheVariants.{Count}
use Rattle.mls_session.proofs.design.Design.count.Goals as goal

pub returns : goal.returns
unfolding total_marks marked_count
returns c = λ pool home.
    let own = designed_of pool c.args.self.now in
    let marked = c.marked-errors.ensures ∙ ap (λ (s : Design). s.errors.marked) c.self.view_is ∙ home.errors.marks.counted in
    let pending = c.areas-pending.ensures.value ∙ ap (λ (s : Design). length s.errors.dirty) c.self.view_is in
    let pair : ℕ → ℕ → Designed × Reply = λ errors areas. (own, Count errors areas) in
    ap (λ errors. pair errors (length c.args.self.now.errors.dirty)) (sym marked) ∙ ap (pair c.marked-errors.result) (sym pending)
