-- The upper corner follows the lower one.
use Rattle.std.proofs.lemmas.Int.{to_z-of_z}
use Rattle.mls_wire.proofs.PushedTexts.{appends-next}
use Rattle.mls_wire.proofs.journal_lines.push_sides.Goals as goal

pub returns : goal.returns
returns c =
    let lower = let left = c.ranges.left in let bottom = c.ranges.bottom in simp to_z-of_z at c.in_ok-push_pair.ensures in
    let upper = let right = c.ranges.right in let top = c.ranges.top in simp to_z-of_z at c.push_pair-2.ensures in
    appends-next c.push_pair-2.result c.args.out.now c.push_pair-2.new.out c.push_pair.new.out lower upper
