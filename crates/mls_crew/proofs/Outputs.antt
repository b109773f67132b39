-- What is written to a script, by cases on whether its bytes are known.
use Rattle.std.proofs.Common.{ℕ, Bool, Option, Some, None, Result, List, refl, subst}
use Rattle.std.specs.Io.KnownBytes.{Appends}
use Rattle.mls_seat_lines.specs.mls_server.Settings.{terms_for}
use Rattle.mls_seat_lines.specs.mls_server.Worlds.{World}
use Rattle.mls_seat_lines.specs.mls_wire.Ahead.{SaysScript, StopsReading}
use Rattle.mls_seat_lines.specs.mls_wire.Lines.{script_of}
use Rattle.mls_seat_lines.specs.mls_wire.NameBooks.{book_of}
use Rattle.mls_seat_lines.specs.mls_wire.Serving.{AppendsFront}
use Rattle.mls_seat_lines.specs.mls_wire.Watches.{Watched}
use Rattle.mls_seat_lines.specs.mls_wire.declared.line.Line.{Line}
use Rattle.mls_seat_lines.specs.mls_wire.declared.line.LineFault.{LineFault}
use Rattle.mls_seat_lines.specs.mls_wire.declared.serving.ServeFault.{ServeFault}
use Rattle.mls_seat_lines.specs.mls_wire.declared.serving.ServeFault.TheVariants.{Read, Write, Memory}
use Rattle.mls_seat_lines.specs.SymbolTables.{book_in, symbols_of}
use Rattle.mls_crew.specs.Scripts.{FailsBatch, GivesBatch, GivesScript, WritesBatch, WritesFront}

module _ (on : World) (read : List (Result Line LineFault)) (audited : Bool) (out : List ℕ)
    (gives : GivesBatch (terms_for on.setting) (book_in (symbols_of on.setting)) read audited out) where
  -- it is what the script gives whose lines say this
  given : (script : List ℕ) → SaysScript (book_of on) (Some script) read → GivesScript on (script_of script) audited out
  given script says = subst (λ (s : List (Result Line LineFault)). GivesBatch (terms_for on.setting) (book_in (symbols_of on.setting)) s audited out) says gives

  pub batch_writes : (script written now : Option (List ℕ)) → SaysScript (book_of on) script read → Appends written now out → WritesBatch on script written now audited
  batch_writes None written now says gained = tt
  batch_writes (Some script) written now says gained = (out, given script says, gained)

  pub batch_begins : (script written now : Option (List ℕ)) → SaysScript (book_of on) script read → AppendsFront written now out → WritesFront on script written now
  batch_begins None written now says gained = tt
  batch_begins (Some script) written now says gained = (audited, out, given script says, gained)

-- reading the script fails, and nothing was written
pub reading_fails :
    {R W : Type 0} (on : World) (fault : ServeFault) (script : Option (List ℕ)) (input : Watched R) (contents : W → Option (List ℕ)) (output : Watched W)
    → StopsReading fault input → FailsBatch on fault script input contents output output
reading_fails on Read script input contents output stops = (stops, refl)
reading_fails on Memory script input contents output stops = refl
reading_fails on Write script input contents output stops = absurd stops
