use Rattle.std.proofs.Common.{ℕ, ap, inl}
use Rattle.mls_wire.specs.Replies.{response_text}
use Rattle.mls_wire.specs.declared.response.Response.TheVariants.{Audited}
use Rattle.mls_seat_lines.proofs.serving.audit.Goals as goal

pub returns-in-Ok : goal.returns-in-Ok
returns-in-Ok g c =
    let audited = λ (entries : ℕ). response_text (g.B.Names.book c.args.wording.now.names.now) 0 (Audited c.args.name.now entries) in
    let text = audited c.in-Ok.audited.entries in
    (text, inl (ap audited c.in-Ok.ensures.entries, c.in-Ok.ensures.legal), c.push_response.ensures)
