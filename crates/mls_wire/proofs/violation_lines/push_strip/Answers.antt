-- The sides follow the word.
use Rattle.std.proofs.Common.{Ok, ◌∷◌, codes}
use Rattle.std.specs.Prelude.{⊤}
use Rattle.mls_wire.specs.Pushes.{Appends}
use Rattle.mls_wire.proofs.PushedTexts.{appends-next, appends-same}
use Rattle.mls_wire.proofs.StripLines.{strip_text-sides}
use Rattle.mls_wire.proofs.violation_lines.push_strip.Goals as goal

pub returns : goal.returns
returns c =
    let named = c.in_ok-extend_from_slice.ensures in
    let word : Appends {T = ⊤} {E = ⊤} (Ok tt) c.args.out.now c.extend_from_slice.new.self (10 ∷ codes "rect") = record { text = named.items; room = tt; capacity = named.capacity } in
    let sides = appends-next c.push_sides.result c.args.out.now c.push_sides.new.out c.extend_from_slice.new.self word c.push_sides.ensures in
    let same = strip_text-sides c.args.strip c.left.result c.bottom.result c.right.result c.top.result c.left.ensures.legal c.left.ensures.value c.bottom.ensures.value c.right.ensures.value c.top.ensures.value in
    appends-same c.push_sides.result c.args.out.now c.push_sides.new.out same sides
