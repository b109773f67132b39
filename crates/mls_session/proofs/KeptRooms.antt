-- A scratch that calls use one after another keeps its room.
use Rattle.std.proofs.Common.{◌∙◌}
use Rattle.mls_paint.specs.Scratches.{KeepsRoom, Scratch}

pub KeepsRoom-trans : {old mid new : Scratch} → KeepsRoom old mid → KeepsRoom mid new → KeepsRoom old new
KeepsRoom-trans first second = record { room = second.room ∙ first.room; pieces = second.pieces ∙ first.pieces }
