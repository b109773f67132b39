-- How listing strips may fail.
use Rattle.std.proofs.Common.{◌≡◌, Result, Ok, Err, IfErr, IsErr, IsErrAnd}
use Rattle.mls_errorplane.specs.Common.{IfTooMany, Unlisted}
use Rattle.mls_layout.specs.declared.strips.Unlisted.TheVariants.{Memory, TooMany}

-- what holds, holds where there are too many strips
pub IfErr-holds : {X : Type 0} (result : Result X Unlisted) (P : Type 0) → P → IfErr result (λ fault. IfTooMany fault P)
IfErr-holds (Ok x) P holds = tt
IfErr-holds (Err TooMany) P holds = holds
IfErr-holds (Err Memory) P holds = tt

-- where the same fault is handed on, what follows from the fact holds
pub IfErr-weaker :
    {X : Type 0} (result : Result X Unlisted) (fault : Unlisted) (P Q : Type 0) → IsErr result × IsErrAnd result (λ given. given ≡ fault) → (P → Q) → IfTooMany fault P
    → IfErr result (λ given. IfTooMany given Q)
IfErr-weaker (Ok x) fault P Q handed weaker holds = tt
IfErr-weaker (Err Memory) fault P Q handed weaker holds = tt
IfErr-weaker (Err TooMany) TooMany P Q handed weaker holds = weaker holds
IfErr-weaker (Err TooMany) Memory P Q handed weaker holds = absurd (cc (handed.1))
