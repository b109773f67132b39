-- What the requests of a session give at its seat, whatever the other threads do meanwhile. This project's own.
use Rattle.std.specs.Prelude.{◌≡◌, ◌==◌, ℕ, Bool, true, List, [], ◌∷◌, ◌++◌, map, Ok}
use Rattle.std.specs.List.{filter}
use Rattle.mls_seat_lines.specs.mls_session.OwnSteps.{Terms}
use Rattle.mls_seat_lines.specs.mls_session.declared.journal.Said.{Said}
use Rattle.mls_seat_lines.specs.mls_server.LegalLists.{IsLegalList}
use Rattle.mls_seat_lines.specs.mls_server.declared.answer.Answer.TheVariants.{Opened}
use Rattle.mls_seat_lines.specs.mls_wire.NameBooks.{Names}
use Rattle.mls_seat_lines.specs.mls_wire.Replies.{answer_text}
use Rattle.mls_seat_lines.specs.Requests.{ServesRequest}
use Rattle.mls_seat_lines.specs.declared.request.Request.{Request}
use Rattle.mls_crew.specs.declared.handed.Handed.{Handed}

-- the requests that were handed to the session of this number, in order
abbrev pub requests_handed : ℕ → List Handed → List Request
requests_handed session handed = map (λ one. one.request) (filter (λ one. one.session == session) handed)

-- the requests are served one after another
abbrev pub ServesRequests : Terms → Names → List ℕ → List Said → List Request → List ℕ → List Said → Type 0
ServesRequests terms book name said [] out last = (out ≡ []) × (last ≡ said)
ServesRequests terms book name said (request ∷ requests) out last =
    (text : List ℕ) × (now : List Said) × (rest : List ℕ) × ServesRequest terms book name said request text now × ServesRequests terms book name now requests rest last × (out ≡ text ++ rest)

-- the text of a session, and whether its seat's list was audited at the end
pub record GroupText : Type 0 where
  pub text : List ℕ
  pub audited : Bool

-- the text of a session begins with the line that it was opened, and then has what its requests give. Where it is audited, its commands and replies, with some number
-- of check steps before each command, are a legal journal
abbrev pub GivesGroup : Terms → Names → List ℕ → List Request → GroupText → Type 0
GivesGroup terms book name requests group =
    (id : ℕ) × (said : List Said) × (more : List ℕ) × ServesRequests terms book name [] requests more said
    × (group.text ≡ answer_text book name (Opened (Ok id)) ++ more) × (group.audited ≡ true → IsLegalList terms said)
