-- Facts that hold for some replies, ends and lists only.
use Rattle.std.proofs.Common.{◌≡◌, ℕ, Option, Some, None, List, Bor, subst, IfSome, option_copied}
use Rattle.mls_session.proofs.Common.{Finished, OnSaved, Outcome, Reply, Stepped, UnlessDone, UnlessFinished}
use Rattle.mls_errorplane.specs.declared.error_plane.Stepped.TheVariants.{Done}
use Rattle.mls_session.specs.declared.reply.Reply.TheVariants.{Saved}

-- the second of two facts
pub UnlessDone-second : (end : Stepped) (P Q : Type 0) → UnlessDone end (P × Q) → UnlessDone end Q
UnlessDone-second Done P Q both = both
UnlessDone-second end P Q both = both.1

pub UnlessFinished-second : (outcome : Outcome) (P Q : Type 0) → UnlessFinished outcome (P × Q) → UnlessFinished outcome Q
UnlessFinished-second Finished P Q both = both
UnlessFinished-second outcome P Q both = both.1

-- what holds anyway holds where the layout was saved
pub on_saved : (reply : Reply) (P : Type 0) → P → OnSaved reply P
on_saved (Saved lines) P p = p
on_saved reply P p = tt

-- what holds of a list that is lent holds of the list
pub of_lent : (P : List ℕ → Type 0) (lent : Option (Bor (List ℕ))) (list : Option (List ℕ)) → option_copied lent ≡ list → IfSome lent (λ bytes. P bytes.now) → IfSome list P
of_lent P None list is holds = subst (λ (l : Option (List ℕ)). IfSome l P) is tt
of_lent P (Some bytes) list is holds = subst (λ (l : Option (List ℕ)). IfSome l P) is holds
