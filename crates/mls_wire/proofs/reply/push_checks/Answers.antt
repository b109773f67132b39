use Rattle.std.proofs.Common.{◌≡◌, ◌++◌, ap, ◌∙◌, append_assoc, codes}
use Rattle.std.specs.Fmt.{decimal}
use Rattle.mls_wire.specs.Replies.{checks_text}
use Rattle.mls_wire.proofs.Results.{on_ok-appended}
use Rattle.mls_wire.proofs.reply.push_checks.Goals as goal

pub returns-clause-text : goal.returns-clause-text
unfolding checks_text
returns-clause-text c =
    let out = c.args.out.now.items in
    let status = c.args.status.now in
    let steps : c.extend_from_slice.new.self.items ≡ out ++ (decimal status.steps ++ codes " steps since, ") =
    c.in_ok-extend_from_slice.ensures.items ∙ ap (λ l. l ++ codes " steps since, ") c.in_ok-push_decimal.ensures.text ∙ append_assoc out _ _ in
    let areas : c.push_decimal-2.new.out.items ≡ out ++ (decimal status.steps ++ codes " steps since, " ++ decimal status.areas) =
    c.in_ok-push_decimal-2.ensures.text ∙ ap (λ l. l ++ decimal status.areas) steps ∙ append_assoc out _ _ in
    on_ok-appended c.extend_from_slice-2.result out _ _ _ _ areas c.extend_from_slice-2.ensures.items
