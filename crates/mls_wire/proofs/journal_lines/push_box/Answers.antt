-- The numbers follow the word.
use Rattle.std.proofs.Common.{Ok, codes}
use Rattle.std.specs.Prelude.{⊤}
use Rattle.std.proofs.lemmas.Int.{to_z-of_z}
use Rattle.mls_wire.specs.Pushes.{Appends}
use Rattle.mls_wire.proofs.PushedTexts.{appends-next}
use Rattle.mls_wire.proofs.journal_lines.push_box.Goals as goal

pub returns : goal.returns
returns c =
    let named = c.in_ok-extend_from_slice.ensures in
    let word : Appends {T = ⊤} {E = ⊤} (Ok tt) c.args.out.now c.extend_from_slice.new.self (codes " box") = record { text = named.items; room = tt; capacity = named.capacity } in
    let sides =
    let left = c.ranges.left in let bottom = c.ranges.bottom in let right = c.ranges.right in let top = c.ranges.top in simp to_z-of_z at c.push_sides.ensures in
    appends-next c.push_sides.result c.args.out.now c.push_sides.new.out c.extend_from_slice.new.self word sides
