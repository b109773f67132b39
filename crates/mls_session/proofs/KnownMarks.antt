-- Commands that leave the layout and the marks leave marks right where they are known to be so.
use Rattle.std.proofs.Common.{◌≡◌, ◌==◌, Bool, true, false, Option, Some, None, Result, Ok, Err, inl, inr, cond, refl, sym, ap, subst, ◌∙◌}
use Rattle.mls_session.proofs.Common.{Checked, Command, Commands, Config, Designed, Does, Empty, Kept, KnowsRight, Outside, OwnState, Rect, RectFault, Reply, RunsOut, Terms, box_step, check_in, design_step, edit_step, is_journalled, known_after, leaves_marks, noted, own_step, rect_of, what_step, why_step}
use Rattle.mls_session.specs.declared.command.Command.TheVariants.{Box, What, Save, Check, CatchUp, Why, Count}

module _ (config : Config) (own : Designed) (checked : Option Checked) (right : KnowsRight config own checked) where
  after_box : (rect : Result Rect RectFault) → KnowsRight config (edit_step config own None (box_step own.drawn rect)).0 checked
  after_box (Ok e) = right
  after_box (Err Empty) = right
  after_box (Err Outside) = right

  after_what : (box : Option Rect) → KnowsRight config (edit_step config own None (what_step config own.drawn box)).0 checked
  after_what None = right
  after_what (Some e) = right

  after_check : (box : Option Rect) → KnowsRight config (edit_step config own box (check_in own.drawn box)).0 checked
  after_check None = right
  after_check (Some e) = right

  after_why : (box : Option Rect) → KnowsRight config (why_step config own box).0 checked
  after_why None = right
  after_why (Some e) = right

  design_step-knows : (command : Command) → KnowsRight config (design_step config own command).0 (known_after command checked)
  unfolding design_step
  design_step-knows (Box left bottom right' top) = after_box (rect_of left bottom right' top)
  design_step-knows What = after_what own.drawn.box
  design_step-knows Save = right
  design_step-knows Check = after_check own.drawn.box
  design_step-knows Why = after_why own.drawn.box
  design_step-knows Count = right
  design_step-knows _ = tt

  -- where nothing changes, what was known is so still, and more than is known after the command
  kept-knows : (command : Command) → KnowsRight config own (known_after command checked)
  kept-knows command = either (leaves_marks command)
    where
      either : (leaves : Bool) → KnowsRight config own (cond leaves checked None)
      either true = right
      either false = tt

-- either way, the own state is the one that is given
either_own : (journalled : Bool) (one other : Kept) (own : OwnState) → one.own ≡ own → other.own ≡ own → (cond journalled one other).own ≡ own
either_own true one other own is is' = is
either_own false one other own is is' = is'

noted-own : (kept : Kept) (own : OwnState) (command : Command) (reply : Reply) → (noted kept own command reply).own ≡ own
noted-own kept own command reply = either_own (is_journalled reply) _ _ own refl refl

module _ (terms : Terms) (old : Kept) (checked : Option Checked) (right : KnowsRight terms.config old.own.design checked) (command : Command) where
  abbrev KnowsAfter : OwnState → Type 0
  KnowsAfter own = KnowsRight terms.config own.design (known_after command checked)

  either_step : (full : Bool) (one other : OwnState × Reply) → KnowsAfter one.0 → KnowsAfter other.0 → KnowsAfter (cond full one other).0
  either_step true one other knows knows' = knows
  either_step false one other knows knows' = knows'

  own_step-knows : KnowsAfter (own_step terms old.own command).0
  unfolding own_step
  own_step-knows =
      either_step (old.own.entries == terms.journal) _ _ (kept-knows terms.config old.own.design checked right command)
      (design_step-knows terms.config old.own.design checked right command)

  Does-knows : (reply : Reply) (new : Kept) → Does terms old command reply new → KnowsAfter new.own
  Does-knows reply new (own, step, is) =
      let reached : new.own ≡ own = ap (λ (kept : Kept). kept.own) is ∙ noted-own old own command reply in
      subst KnowsAfter (ap (λ (s : OwnState × Reply). s.0) step ∙ sym reached) own_step-knows

  same-knows : (new : Kept) → new ≡ old → KnowsAfter new.own
  same-knows new same = subst (λ (kept : Kept). KnowsAfter kept.own) (sym same) (kept-knows terms.config old.own.design checked right command)

module _ (terms : Terms) (old new : Kept) (checked : Option Checked) (reply : Reply) (right : KnowsRight terms.config old.own.design checked) where
  RunsOut-knows : (command : Command) → RunsOut terms old command reply new → KnowsRight terms.config new.own.design (known_after command checked)
  RunsOut-knows Why (boxed, refused, same) = same-knows terms old checked right Why new same
  RunsOut-knows What (boxed, placed, refused, same) = same-knows terms old checked right What new same
  RunsOut-knows CatchUp out = tt
  RunsOut-knows _ out = absurd out

  pub Commands-knows : (command : Command) → Commands terms old command reply new → KnowsRight terms.config new.own.design (known_after command checked)
  Commands-knows command (inl does) = Does-knows terms old checked right command reply new does
  Commands-knows command (inr (some, out)) = RunsOut-knows command out
