-- What saving a layout returns. This project's own.
use Rattle.std.specs.Prelude.{◌≡◌, ℕ, List, ◌++◌, ⊤}
use Rattle.mls_session.specs.Common.{Layout, Tech, saved_line_count, saved_text}
use Rattle.mls_session.specs.declared.refusal.Refusal.TheVariants.{Memory}
use Rattle.mls_session.specs.declared.reply.Reply.{Reply}
use Rattle.mls_session.specs.declared.reply.Reply.TheVariants.{Done, Kinds, Saved, Count, Why, Refused, Stopped}

-- the text of the layout was appended, and the reply has the number of its lines; or memory ran out, and nothing was appended
abbrev pub SavesText : Tech → Layout → Reply → List ℕ → List ℕ → Type 0
SavesText tech layout (Saved lines) old new = (lines ≡ saved_line_count tech layout) × (new ≡ old ++ saved_text tech layout)
SavesText tech layout (Refused refusal) old new = (refusal ≡ Memory) × (new ≡ old)
SavesText tech layout _ old new = ⊥

-- the fact, if the layout was saved
abbrev pub OnSaved : Reply → Type 0 → Type 0
OnSaved (Saved lines) P = P
OnSaved (Refused refusal) P = ⊤
OnSaved (Stopped refusal pending) P = ⊤
OnSaved Done P = ⊤
OnSaved (Kinds kinds) P = ⊤
OnSaved (Count errors pending) P = ⊤
OnSaved (Why violated) P = ⊤
