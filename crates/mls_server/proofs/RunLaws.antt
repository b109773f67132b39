-- Runs of events, one event more at a time; what is true of a world whose marks are right.
use Rattle.std.proofs.Common.{◌≡◌, ◌++◌, ◌+◌, ◌<◌, ℕ, suc, true, List, [], ◌∷◌, get_or, length, take, take-suc, refl, sym, ap, ◌∙◌, subst, arith}
use Rattle.std.proofs.lemmas.List.Elements.{All-weaker}
use Rattle.mls_session.specs.mls_checker.Forbids.{forbidden}
use Rattle.mls_session.specs.mls_checker.Marking.{squares_of}
use Rattle.mls_geom.specs.Rects.{holds}
use Rattle.mls_geom.specs.World.{world}
use Rattle.mls_session.specs.Designs.{HasRightMarks}
use Rattle.mls_session.specs.Own.{layout_of}
use Rattle.mls_server.specs.Events.{Happens, Runs}
use Rattle.mls_server.specs.Settings.{config_for}
use Rattle.mls_server.specs.Worlds.{MarksAreExact, MarksAreRight, Seat, World}
use Rattle.mls_server.specs.declared.answer.Answer.{Answer}
use Rattle.mls_server.specs.declared.event.Event.{Event}

-- an event more, at the end
pub Runs-snoc :
    (old mid new : World) (events : List Event) (answers : List Answer) (event : Event) (answer : Answer) → Runs old events answers mid
    → Happens mid event answer new → Runs old (events ++ event ∷ []) (answers ++ answer ∷ []) new
Runs-snoc old mid new [] [] event answer ran happens = (new, subst (λ (on : World). Happens on event answer new) ran happens, refl)
Runs-snoc old mid new [] (first ∷ answers) event answer ran happens = absurd ran
Runs-snoc old mid new (first ∷ events) [] event answer ran happens = absurd ran
Runs-snoc old mid new (first ∷ events) (said ∷ answers) event answer (next, begins, ran) happens =
    (next, begins, Runs-snoc next mid new events answers event answer ran happens)

-- the next of a list of events
pub Runs-next :
    (old mid new : World) (events : List Event) (answers : List Answer) (index : ℕ) (event : Event) (answer : Answer) → index < length events
    → Runs old (take index events) answers mid → Happens mid (get_or events index event) answer new → Runs old (take (index + 1) events) (answers ++ answer ∷ []) new
Runs-next old mid new events answers index event answer within ran happens =
    subst (λ (done : List Event). Runs old done (answers ++ answer ∷ []) new) (sym (ap (λ count. take count events) one ∙ take-suc events index event within))
    (Runs-snoc old mid new (take index events) answers (get_or events index event) answer ran happens)
  where
    one : index + 1 ≡ suc index
    one = omega arith

-- ---- marks and journals
-- where no area awaits checking, no square lies in one
pub MarksAreExact-from_right : (on : World) → MarksAreRight on → MarksAreExact on
MarksAreExact-from_right on right =
    All-weaker (λ (seat : Seat). HasRightMarks (config_for on.setting) seat.kept.own.design)
    (λ (seat : Seat). seat.kept.own.design.checking.dirty ≡ [] → (x y : ℕ) → holds world x y ≡ true
    → seat.kept.own.design.checking.marks x y ≡ forbidden on.setting.rules (layout_of (config_for on.setting) seat.kept.own.design.drawn) x y)
    (λ seat marks none x y inside. marks x y inside (ap (λ areas. squares_of areas x y) none)) on.seats right
