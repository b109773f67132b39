-- What a script with workers writes. This project's own.
use Rattle.std.specs.Prelude.{◌≡◌, ℕ, ◌<◌, Bool, false, Result, Option, Some, None, List, [], ◌++◌, length, map, slice_index_or, ⊤}
use Rattle.std.specs.List.{flat_map, list_all}
use Rattle.mls_seat_lines.specs.mls_session.OwnSteps.{Terms}
use Rattle.mls_seat_lines.specs.mls_server.Settings.{terms_for}
use Rattle.mls_seat_lines.specs.mls_server.Worlds.{World}
use Rattle.mls_seat_lines.specs.mls_wire.Lines.{script_of}
use Rattle.mls_seat_lines.specs.mls_wire.NameBooks.{Names, book_of}
use Rattle.mls_seat_lines.specs.mls_wire.Ahead.{ahead_says}
use Rattle.mls_seat_lines.specs.mls_wire.Serving.{AppendsFront, Gains}
use Rattle.mls_seat_lines.specs.mls_wire.Watches.{HasCause, Watched}
use Rattle.mls_seat_lines.specs.mls_wire.declared.line.Line.{Line}
use Rattle.mls_seat_lines.specs.mls_wire.declared.line.LineFault.{LineFault}
use Rattle.mls_seat_lines.specs.mls_wire.declared.serving.ServeFault.{ServeFault}
use Rattle.mls_seat_lines.specs.mls_wire.declared.serving.ServeFault.TheVariants.{Read, Write, Memory}
use Rattle.mls_seat_lines.specs.SymbolTables.{book_in, symbols_of}
use Rattle.mls_crew.specs.Groups.{GivesGroup, GroupText, requests_handed}
use Rattle.mls_crew.specs.Sorting.{Sorted, Sorts}

-- no text at all
abbrev pub no_text : GroupText
no_text = record { text = []; audited = false }

-- the session of this number has its text
abbrev pub GivesPart : Terms → Names → Sorted → ℕ → GroupText → Type 0
GivesPart terms book sorted session group = GivesGroup terms book (slice_index_or sorted.opened session []) (requests_handed session sorted.handed) group

-- each session that was opened has its text
pub record GivesGroups (terms : Terms) (book : Names) (sorted : Sorted) (groups : List GroupText) : Type 0 where
  pub count : length groups ≡ length sorted.opened
  pub each : (session : ℕ) → session < length sorted.opened
      → GivesPart terms book sorted session (slice_index_or groups session no_text)

-- what lines say is sorted, and the output has the text of those that have replies at once, and then that of each session, in the order of opening. It is audited
-- where each session is
pub record GivesBatch (terms : Terms) (book : Names) (read : List (Result Line LineFault)) (audited : Bool) (out : List ℕ) : Type 0 where
  pub sorted : Sorted
  pub sorts : Sorts book 1 [] read sorted
  pub groups : List GroupText
  pub gives : GivesGroups terms book sorted groups
  pub order : out ≡ sorted.head ++ flat_map (λ group. group.text) groups
  pub all : audited ≡ list_all (λ group. group.audited) groups

abbrev pub GivesScript : World → List (Option (List ℕ)) → Bool → List ℕ → Type 0
GivesScript on lines audited out = GivesBatch (terms_for on.setting) (book_in (symbols_of on.setting)) (map (ahead_says (book_of on)) lines) audited out

-- the output gained what is written to the script
abbrev pub WritesBatch : World → Option (List ℕ) → Option (List ℕ) → Option (List ℕ) → Bool → Type 0
WritesBatch on None written now audited = ⊤
WritesBatch on (Some script) written now audited = Gains written now (GivesScript on (script_of script) audited)

-- it gained a beginning of that
abbrev pub WritesFront : World → Option (List ℕ) → Option (List ℕ) → Option (List ℕ) → Type 0
WritesFront on None written now = ⊤
WritesFront on (Some script) written now =
    (audited : Bool) × (out : List ℕ) × GivesScript on (script_of script) audited out × AppendsFront written now out

-- the script fails with this fault. Unless the output fails, nothing is written
abbrev pub FailsBatch : {R W : Type 0} → World → ServeFault → Option (List ℕ) → Watched R → (W → Option (List ℕ)) → Watched W → Watched W → Type 0
FailsBatch on Read script input contents old new = HasCause input × (new ≡ old)
FailsBatch on Memory script input contents old new = new ≡ old
FailsBatch on Write script input contents old new = HasCause new × WritesFront on script (contents old.device) (contents new.device)
