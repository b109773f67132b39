-- What every event keeps of a world: the setting, how its sessions are numbered, and what all other sessions keep.
use Rattle.std.proofs.Common.{◌≡◌, ◌≢◌, ◌⊎◌, ℕ, ◌+◌, ◌≤◌, ◌==◌, Bool, true, false, Option, Some, None, Result, Ok, Err, List, [], ◌∷◌, inl, inr, le_refl, refl, sym, ap, ◌∙◌, subst, arith}
use Rattle.std.proofs.lemmas.Bool.{eq-eqb, eqb-true}
use Rattle.mls_session.specs.mls_errorplane.declared.job.Job.{Job}
use Rattle.mls_session.specs.Journals.{ChecksTimes, Commands, Finishes, Kept, StepsOnce, StepsUpTo, kept_at_opening}
use Rattle.mls_session.specs.declared.reply.Reply.{Reply}
use Rattle.mls_server.proofs.Seats.{with_kept-none, with_kept-numbered, with_kept-other, with_session-numbered, with_session-other, with_session-same, without_session-numbered, without_session-other, without_session-same}
use Rattle.mls_server.specs.Events.{Closes, DoesGrab, Happens, OnSeat, Opens, Runs, SavesText}
use Rattle.mls_server.specs.OwnLists.{is_of}
use Rattle.mls_server.specs.Settings.{terms_for}
use Rattle.mls_server.specs.Worlds.{IsNumbered, World, kept_in, with_kept, with_session, without_session}
use Rattle.mls_server.specs.declared.answer.Answer.{Answer}
use Rattle.mls_server.specs.declared.event.Event.{Event}
use Rattle.mls_server.specs.declared.event.Event.TheVariants.{Open, Close, Command, Save, Look, Grab, Finish, Step, Steps, Settle}
use Rattle.mls_server.specs.declared.fault.GrabFault.{GrabFault}
use Rattle.mls_server.specs.declared.fault.GrabFault.TheVariants.{NotOpen as NoSession, Memory as OutOfMemory}
use Rattle.mls_server.specs.declared.fault.NotOpen.{NotOpen}
use Rattle.mls_server.specs.declared.fault.OpenFault.{OpenFault}
use Rattle.mls_server.specs.declared.fault.OpenFault.TheVariants.{OpenAlready, SessionsFull, PoolFull, Memory}

-- ---- the world that an event leads to
-- that with a session more, or none
abbrev pub MayOpen : World → List ℕ → World → Type 0
MayOpen old name new = (new ≡ with_session old name) ⊎ (new ≡ old)

-- that without this session, or none
abbrev pub MayClose : World → ℕ → World → Type 0
MayClose old id new = (new ≡ without_session old id) ⊎ (new ≡ old)

-- that where this session keeps something else, or none
abbrev pub MayKeep : World → ℕ → World → Type 0
MayKeep old id new = ((kept : Kept) × (new ≡ with_kept old id kept)) ⊎ (new ≡ old)

module _ (old : World) where
  Opens-may : (name : List ℕ) (result : Result ℕ OpenFault) (new : World) → Opens old name result new → MayOpen old name new
  Opens-may name (Ok id) new (fault, number, is) = inl is
  Opens-may name (Err Memory) new (fault, is) = inr is
  Opens-may name (Err OpenAlready) new (fault, is) = inr is
  Opens-may name (Err SessionsFull) new (fault, is) = inr is
  Opens-may name (Err PoolFull) new (fault, is) = inr is

  Closes-may : (id : ℕ) (result : Result (Unit {0}) NotOpen) (new : World) → Closes old id result new → MayClose old id new
  Closes-may id (Ok done) new (is_open, is) = inl is
  Closes-may id (Err fault) new (closed, is) = inr is

  OnSeat-may : {A : Type 0} (id : ℕ) (Does : Kept → A → Kept → Type 0) (result : Result A NotOpen) (new : World) → OnSeat old id Does result new → MayKeep old id new
  OnSeat-may id Does (Ok answer) new (before, after, is_open, does, is) = inl (after, is)
  OnSeat-may id Does (Err fault) new (closed, is) = inr is

  SavesText-may : (id : ℕ) (result : Result Reply NotOpen) (text : List ℕ) (new : World) → SavesText old id result text new → MayKeep old id new
  SavesText-may id (Ok reply) text new (before, after, is_open, saves, is) = inl (after, is)
  SavesText-may id (Err fault) text new (closed, empty, is) = inr is

  DoesGrab-may : (id : ℕ) (result : Result (Option Job) GrabFault) (new : World) → DoesGrab old id result new → MayKeep old id new
  DoesGrab-may id (Ok job) new (kept, is_open, next, is) = inr is
  DoesGrab-may id (Err NoSession) new (closed, is) = inr is
  DoesGrab-may id (Err OutOfMemory) new (kept, is_open, some, is) = inr is

-- by the event
abbrev pub MayLead : World → Event → World → Type 0
MayLead old (Open name) new = MayOpen old name new
MayLead old (Close id) new = MayClose old id new
MayLead old (Command id command) new = MayKeep old id new
MayLead old (Save id) new = MayKeep old id new
MayLead old (Look id look) new = new ≡ old
MayLead old (Grab id) new = MayKeep old id new
MayLead old (Finish id finding) new = MayKeep old id new
MayLead old (Step id) new = MayKeep old id new
MayLead old (Steps id most) new = MayKeep old id new
MayLead old (Settle id) new = MayKeep old id new

pub Happens-may : (old : World) (event : Event) (answer : Answer) (new : World) → Happens old event answer new → MayLead old event new
Happens-may old (Open name) answer new (result, is, opens) = Opens-may old name result new opens
Happens-may old (Close id) answer new (result, is, closes) = Closes-may old id result new closes
Happens-may old (Command id command) answer new (result, is, does) =
    OnSeat-may old id (λ before reply after. Commands (terms_for old.setting) before command reply after) result new does
Happens-may old (Save id) answer new (result, text, is, saves) = SavesText-may old id result text new saves
Happens-may old (Look id look) answer new (result, text, is, looks, same) = same
Happens-may old (Grab id) answer new (result, is, grabs) = DoesGrab-may old id result new grabs
Happens-may old (Finish id finding) answer new (result, is, does) =
    OnSeat-may old id (λ before outcome after. Finishes (terms_for old.setting) before finding outcome after) result new does
Happens-may old (Step id) answer new (result, is, does) = OnSeat-may old id (λ before end after. StepsOnce (terms_for old.setting) before end after) result new does
Happens-may old (Steps id most) answer new (result, is, does) =
    OnSeat-may old id (λ before run after. StepsUpTo (terms_for old.setting) most before run after) result new does
Happens-may old (Settle id) answer new (result, is, does) =
    OnSeat-may old id (λ before count after. ChecksTimes (terms_for old.setting) count before after) result new does

-- ---- what every event keeps
-- the setting, and that ids are given in order
pub record Keeps (old new : World) : Type 0 where
  pub setting : new.setting ≡ old.setting
  pub given : old.given ≤ new.given
  pub numbered : IsNumbered old → IsNumbered new

module _ (old : World) where
  kept_all : (new : World) → new ≡ old → Keeps old new
  kept_all new is = subst (Keeps old) (sym is) (record { setting = refl; given = le_refl old.given; numbered = λ numbered. numbered })

  keep_keeps : (id : ℕ) (new : World) → MayKeep old id new → Keeps old new
  keep_keeps id new (inl (kept, is)) = subst (Keeps old) (sym is) (record { setting = refl; given = le_refl old.given; numbered = with_kept-numbered old id kept })
  keep_keeps id new (inr is) = kept_all new is

  pub MayLead-keeps : (event : Event) (new : World) → MayLead old event new → Keeps old new
  MayLead-keeps (Open name) new (inl is) = subst (Keeps old) (sym is) (record { setting = refl; given = omega arith; numbered = with_session-numbered old name })
  MayLead-keeps (Open name) new (inr is) = kept_all new is
  MayLead-keeps (Close id) new (inl is) = subst (Keeps old) (sym is) (record { setting = refl; given = le_refl old.given; numbered = without_session-numbered old id })
  MayLead-keeps (Close id) new (inr is) = kept_all new is
  MayLead-keeps (Look id look) new is = kept_all new is
  MayLead-keeps event new may = keep_keeps _ new may

  pub Happens-keeps : (event : Event) (answer : Answer) (new : World) → Happens old event answer new → Keeps old new
  Happens-keeps event answer new happens = MayLead-keeps event new (Happens-may old event answer new happens)

-- ---- other sessions
-- the session of this id keeps what it kept, or it was opened under the next id
abbrev pub Leaves : World → ℕ → World → Type 0
Leaves old id new = (kept_in new id ≡ kept_in old id) ⊎ ((id ≡ old.given + 1) × (kept_in new id ≡ Some (kept_at_opening old.setting.rules)))

module _ (old : World) (numbered : IsNumbered old) (other : ℕ) where
  left_all : (new : World) → new ≡ old → Leaves old other new
  left_all new is = inl (ap (λ (on : World). kept_in on other) is)

  apart : (id : ℕ) → (id == other) ≡ false → other ≢ id
  apart id not_of same = let of : (id == other) ≡ true = eq-eqb id other (sym same) in cc

  keep_leaves : (id : ℕ) (new : World) → (id == other) ≡ false → MayKeep old id new → Leaves old other new
  keep_leaves id new not_of (inl (kept, is)) = inl (ap (λ (on : World). kept_in on other) is ∙ with_kept-other old id kept other (apart id not_of))
  keep_leaves id new not_of (inr is) = left_all new is

  close_leaves : (id : ℕ) (new : World) → (id == other) ≡ false → MayClose old id new → Leaves old other new
  close_leaves id new not_of (inl is) = inl (ap (λ (on : World). kept_in on other) is ∙ without_session-other old id other (apart id not_of))
  close_leaves id new not_of (inr is) = left_all new is

  opened_leaves : (next : Bool) (name : List ℕ) (new : World) → (other == old.given + 1) ≡ next → new ≡ with_session old name → Leaves old other new
  opened_leaves true name new at is =
      let same : other ≡ old.given + 1 = eqb-true other (old.given + 1) at in
      inr (same, ap (λ (on : World). kept_in on other) is ∙ ap (kept_in (with_session old name)) same ∙ with_session-same old name numbered)
  opened_leaves false name new at is =
      let no : other ≢ old.given + 1 = λ same. apart_next same at in
      inl (ap (λ (on : World). kept_in on other) is ∙ with_session-other old name other no)
    where
      apart_next : other ≡ old.given + 1 → (other == old.given + 1) ≡ false → ⊥
      apart_next same not_next = let next : (other == old.given + 1) ≡ true = eq-eqb other (old.given + 1) same in cc

  open_leaves : (name : List ℕ) (new : World) → MayOpen old name new → Leaves old other new
  open_leaves name new (inl is) = opened_leaves (other == old.given + 1) name new refl is
  open_leaves name new (inr is) = left_all new is

  -- an event that is not of this id
  pub Happens-leaves : (event : Event) (answer : Answer) (new : World) → is_of other event ≡ false → Happens old event answer new → Leaves old other new
  Happens-leaves event answer new not_of happens = by_event event not_of (Happens-may old event answer new happens)
    where
      by_event : (event : Event) → is_of other event ≡ false → MayLead old event new → Leaves old other new
      by_event (Open name) not_of may = open_leaves name new may
      by_event (Close id) not_of may = close_leaves id new not_of may
      by_event (Look id look) not_of is = left_all new is
      by_event event not_of may = keep_leaves _ new not_of may

-- ---- ids that were given
-- one that is not open never opens again
module _ (old : World) (id : ℕ) (new : World) (none : kept_in old id ≡ None) where
  same_closed : new ≡ old → kept_in new id ≡ None
  same_closed is = ap (λ (on : World). kept_in on id) is ∙ none

  Leaves-closed : id ≤ old.given → Leaves old id new → kept_in new id ≡ None
  Leaves-closed given (inl same) = same ∙ none
  Leaves-closed given (inr (next, opened)) = absurd (omega arith)

  MayKeep-closed : (number : ℕ) → (number == id) ≡ true → MayKeep old number new → kept_in new id ≡ None
  MayKeep-closed number of (inl (kept, is)) =
      ap (λ (on : World). kept_in on id) is ∙ ap (λ (other : ℕ). kept_in (with_kept old other kept) id) (eqb-true number id of) ∙ with_kept-none old id kept none
  MayKeep-closed number of (inr is) = same_closed is

  MayClose-closed : (number : ℕ) → (number == id) ≡ true → MayClose old number new → kept_in new id ≡ None
  MayClose-closed number of (inl is) =
      ap (λ (on : World). kept_in on id) is ∙ ap (λ (other : ℕ). kept_in (without_session old other) id) (eqb-true number id of) ∙ without_session-same old id
  MayClose-closed number of (inr is) = same_closed is

  MayLead-closed : (event : Event) → is_of id event ≡ true → MayLead old event new → kept_in new id ≡ None
  MayLead-closed (Open name) of may = absurd cc
  MayLead-closed (Close number) of may = MayClose-closed number of may
  MayLead-closed (Look number look) of is = same_closed is
  MayLead-closed event of may = MayKeep-closed _ of may

  pub Happens-closed : (event : Event) (answer : Answer) → IsNumbered old → id ≤ old.given → Happens old event answer new → kept_in new id ≡ None
  Happens-closed event answer numbered given happens = by_test (is_of id event) refl
    where
      by_test : (test : Bool) → is_of id event ≡ test → kept_in new id ≡ None
      by_test true of = MayLead-closed event of (Happens-may old event answer new happens)
      by_test false not_of = Leaves-closed given (Happens-leaves old numbered id event answer new not_of happens)

-- ---- runs
pub Runs-keeps : (old new : World) (events : List Event) (answers : List Answer) → Runs old events answers new → Keeps old new
Runs-keeps old new [] [] ran = kept_all old new ran
Runs-keeps old new [] (answer ∷ answers) never = absurd never
Runs-keeps old new (event ∷ events) [] never = absurd never
Runs-keeps old new (event ∷ events) (answer ∷ answers) (mid, happens, ran) =
    let first : Keeps old mid = Happens-keeps old event answer mid happens in
    let rest : Keeps mid new = Runs-keeps mid new events answers ran in
    record { setting = rest.setting ∙ first.setting; given = omega arith; numbered = λ numbered. rest.numbered (first.numbered numbered) }
