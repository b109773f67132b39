-- How listing the strips of what a plane shows may fail. This project's own.
use Rattle.std.specs.Prelude.{⊤}
use Rattle.mls_layout.specs.declared.strips.Unlisted.{Unlisted}
use Rattle.mls_layout.specs.declared.strips.Unlisted.TheVariants.{Memory, TooMany}

-- the fact, where there are too many strips
abbrev pub IfTooMany : Unlisted → Type 0 → Type 0
IfTooMany TooMany P = P
IfTooMany Memory P = ⊤
