use Rattle.std.proofs.Common.{rules}
use Rattle.std.specs.Int.{w32}
use Rattle.std.specs.Prelude.{FitsSigned}
use Rattle.std.proofs.lemmas.Int.{to_z-of_z}
use Rattle.mls_wire.specs.JournalLines.{command_words}
use Rattle.mls_wire.proofs.JournalTexts.{box_text-words}
use Rattle.mls_wire.proofs.PushedTexts.{appends-same}
use Rattle.mls_wire.proofs.journal_lines.push_said.Goals as goal

pub returns-in-Box : goal.returns-in-Box
unfolding command_words
returns-in-Box g c =
    let left : FitsSigned w32 c.in-Box.left = search rules in
    let bottom : FitsSigned w32 c.in-Box.bottom = search rules in
    let right : FitsSigned w32 c.in-Box.right = search rules in
    let top : FitsSigned w32 c.in-Box.top = search rules in
    let words = box_text-words c.in-Box.left c.in-Box.bottom c.in-Box.right c.in-Box.top in
    rw c.in-Box.is (appends-same c.push_box.result c.args.out.now c.push_box.new.out words (simp to_z-of_z at c.push_box.ensures))
