-- What is written to lines that are carried out as they come. This project's own.
use Rattle.std.specs.Prelude.{◌≡◌, ◌≢◌, ◌⊎◌, ℕ, ◌<◌, ◌-◌, Bool, true, Option, Some, None, Result, IfErr, IfOk, OnErr, List, [], ◌∷◌, ◌++◌, slice_get, option_map}
use Rattle.std.specs.List.{All, flat_map, list_all}
use Rattle.mls_seat_lines.specs.mls_server.LegalLists.{IsLegalList}
use Rattle.mls_seat_lines.specs.mls_server.Settings.{terms_for}
use Rattle.mls_seat_lines.specs.mls_server.Worlds.{World}
use Rattle.mls_seat_lines.specs.mls_session.OwnSteps.{Terms}
use Rattle.mls_seat_lines.specs.mls_wire.Lines.{script_of}
use Rattle.mls_seat_lines.specs.mls_wire.NameBooks.{Names}
use Rattle.mls_seat_lines.specs.mls_wire.Serving.{AppendsFront, Gains}
use Rattle.mls_seat_lines.specs.mls_wire.Watches.{HasCause, Watched}
use Rattle.mls_seat_lines.specs.mls_wire.declared.serving.ServeFault.{ServeFault}
use Rattle.mls_seat_lines.specs.mls_wire.declared.serving.ServeFault.TheVariants.{Read, Write, Memory}
use Rattle.mls_lines.specs.Answers.{AnswersLine, OpenSeat, name_held}
use Rattle.mls_seat_lines.specs.SymbolTables.{book_in, symbols_of}
use Rattle.mls_lines.specs.Beside.{says_beside}

-- where the script's bytes are known, its n-th line, from 1, is this one
abbrev pub IsScriptLine : Option (List ℕ) → ℕ → Option (List ℕ) → Type 0
IsScriptLine script n line = option_map (λ bytes. slice_get (script_of bytes) (n - 1)) script ≡ option_map (λ bytes. Some line) script

-- a line that has its reply: its number, its bytes, its text, whether a list was audited where it closed a session, and the session that is open after it
pub record Answered : Type 0 where
  pub n : ℕ
  pub line : Option (List ℕ)
  pub text : List ℕ
  pub audited : Bool
  pub after : Option OpenSeat

-- lines of the script, all after line `from` and each after the one before, are carried out at a seat one after another; line `to` comes last
abbrev pub AnswersLines : Terms → Names → Option (List ℕ) → ℕ → Option OpenSeat → List Answered → ℕ → Option OpenSeat → Type 0
AnswersLines terms book script from before [] to after = (to ≡ from) × (after ≡ before)
AnswersLines terms book script from before (one ∷ more) to after =
    (from < one.n) × IsScriptLine script one.n one.line
    × AnswersLine terms book one.n (says_beside book (name_held before) one.line) before one.text one.audited one.after
    × AnswersLines terms book script one.n one.after more to after

-- some lines of the script were carried out in their order at a seat, at which first no session is open; this is the last of them, and this session is open then
abbrev pub HasAnswered : Terms → Names → Option (List ℕ) → ℕ → Option OpenSeat → Type 0
HasAnswered terms book script to after = (answered : List Answered) × AnswersLines terms book script 0 None answered to after

-- a reply: its text, and whether a list was audited where a session was closed
pub record ReplyText : Type 0 where
  pub text : List ℕ
  pub audited : Bool

-- it is what the last of some lines of the script has, which are carried out in their order at a seat, at which first no session is open
abbrev pub IsLineReply : Terms → Names → Option (List ℕ) → ReplyText → Type 0
IsLineReply terms book script reply =
    (earlier : List Answered) × (last : Answered) × AnswersLines terms book script 0 None (earlier ++ last ∷ []) last.n last.after
    × (reply ≡ record { text = last.text; audited = last.audited })

-- after such lines the session that is open is closed, without a text. Where its list was audited, it is that of a legal journal
abbrev pub IsEndReply : Terms → Names → Option (List ℕ) → ReplyText → Type 0
IsEndReply terms book script reply =
    (to : ℕ) × (held : OpenSeat) × HasAnswered terms book script to (Some held) × (reply.text ≡ []) × (reply.audited ≡ true → IsLegalList terms held.said)

abbrev pub IsReply : Terms → Names → Option (List ℕ) → ReplyText → Type 0
IsReply terms book script reply = ∥ IsLineReply terms book script reply ⊎ IsEndReply terms book script reply ∥₁

-- the bytes are the texts of replies, one whole after another, and all lists of sessions that were closed were audited, or not all
abbrev pub AreReplies : Terms → Names → Option (List ℕ) → Bool → List ℕ → Type 0
AreReplies terms book script audited out =
    (all : List ReplyText) × All (λ reply. IsReply terms book script reply) all × (out ≡ flat_map (λ reply. reply.text) all) × (audited ≡ list_all (λ reply. reply.audited) all)

-- all of them, or not
abbrev pub AreSomeReplies : Terms → Names → Option (List ℕ) → List ℕ → Type 0
AreSomeReplies terms book script out = (audited : Bool) × AreReplies terms book script audited out

-- how writing replies ends: the output gained replies, and all lists of sessions that were closed were audited, or not all; or it failed, and gained a beginning of
-- some
abbrev pub EndsWriting : {W E : Type 0} → Terms → Names → Option (List ℕ) → (W → Option (List ℕ)) → Result Bool E → Watched W → Watched W → Type 0
EndsWriting terms book script contents written old new =
    IfOk written (λ audited. Gains (contents old.device) (contents new.device) (AreReplies terms book script audited))
    × OnErr written ((out : List ℕ) × AreSomeReplies terms book script out × AppendsFront (contents old.device) (contents new.device) out)
    × OnErr written (HasCause new)

-- how reading lines ends: where it fails, the input or memory does
abbrev pub EndsReading : {R T : Type 0} → Result T ServeFault → Watched R → Type 0
EndsReading read input = IfErr read (λ fault. fault ≡ Read → HasCause input) × IfErr read (λ fault. fault ≢ Write)

-- the script fails with this fault; only where the output fails, the last reply may lack its end
abbrev pub EndsStream : {R W : Type 0} → Terms → Names → Option (List ℕ) → ServeFault → Watched R → (W → Option (List ℕ)) → Watched W → Watched W → Type 0
EndsStream terms book script Read input contents old new = HasCause input × Gains (contents old.device) (contents new.device) (AreSomeReplies terms book script)
EndsStream terms book script Memory input contents old new = Gains (contents old.device) (contents new.device) (AreSomeReplies terms book script)
EndsStream terms book script Write input contents old new =
    HasCause new × ((out : List ℕ) × AreSomeReplies terms book script out × AppendsFront (contents old.device) (contents new.device) out)

-- ---- over a server in which no session is open
abbrev pub book_on : World → Names
book_on on = book_in (symbols_of on.setting)

-- the output gained replies to lines of the script, and all lists of sessions that were closed were audited, or not all
abbrev pub WritesStream : World → Option (List ℕ) → Option (List ℕ) → Option (List ℕ) → Bool → Type 0
WritesStream on script written now audited = Gains written now (AreReplies (terms_for on.setting) (book_on on) script audited)

abbrev pub FailsStream : {R W : Type 0} → World → ServeFault → Option (List ℕ) → Watched R → (W → Option (List ℕ)) → Watched W → Watched W → Type 0
FailsStream on fault script input contents old new = EndsStream (terms_for on.setting) (book_on on) script fault input contents old new
