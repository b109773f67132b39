-- The layout that shows nothing has its own types alone.
use Rattle.std.proofs.Common.{refl}
use Rattle.mls_session.specs.Common.{HoldsOwnTypes, Tech, empty_layout}

pub own-empty : (tech : Tech) → HoldsOwnTypes tech empty_layout
own-empty tech = record { own = λ plane x y some. absurd (some refl); within = λ plane x y out. refl }
