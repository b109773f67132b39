-- Serving a script line by line.
use Rattle.std.proofs.Common.{◌≡◌, ◌≢◌, ℕ, ◌+◌, ◌<◌, ◌≤◌, Option, Some, None, List, [], ◌∷◌, ◌++◌, Result, OnOk, IfErr, All, length, map, refl, sym, ap, subst, ◌∙◌, arith, append_assoc, append-nil}
use Rattle.std.proofs.KnownBytes.{Appends-nil, Appends-trans}
use Rattle.std.proofs.lemmas.List.{length-append, map-append}
use Rattle.std.proofs.lemmas.List.Elements.{All-append, All-cons, All-nil}
use Rattle.std.specs.Io.KnownBytes.{Appends, prepend_known}
use Rattle.std.specs.Result.{IsErr, IsErrAnd}
use Rattle.mls_text.proofs.LineLemmas.{lines_of-last}
use Rattle.mls_text.specs.Lines.{IsUnbroken, lines_of}
use Rattle.mls_server.specs.Worlds.{IsNumbered, JournalsAreLegal, MarksAreExact, MarksAreRight, World}
use Rattle.mls_server.specs.declared.answer.Answer.{Answer}
use Rattle.mls_server.specs.declared.event.Event.{Event}
use Rattle.mls_wire.specs.Lines.{line_if_short, script_of}
use Rattle.mls_wire.specs.NextLines.{BeginsKnownLine, TakesLine, TakesKnownLine}
use Rattle.mls_wire.specs.Runs.{IsSound, RunsLine, RunsLines, RunsScript, RunsUpTo}
use Rattle.mls_wire.specs.Serving.{AppendsFront, Gains, StopsAtLine, WritesRun, WritesCutRun, WritesLine, WritesCutLine}
use Rattle.mls_wire.specs.declared.reader.NextLine.{NextLine}
use Rattle.mls_wire.specs.declared.reader.NextLine.TheVariants.{End, Line, LastLine}
use Rattle.mls_wire.specs.declared.serving.ServeFault.{ServeFault}
use Rattle.mls_wire.specs.declared.serving.ServeFault.TheVariants.{Read, Write, Memory}
use Rattle.mls_wire.proofs.Results.{if_err, if_err-map, on_ok-map}
use Rattle.mls_wire.proofs.RunLemmas.{RunsLines-alone, RunsLines-snoc}
use Rattle.mls_wire.proofs.ScriptTexts.{fed, fed-snoc, lines_of-whole, whole_lines_of-begun}

-- ---- one line

-- what every server keeps holds after the line
pub sound_then : (new : World) → MarksAreRight new → MarksAreExact new → JournalsAreLegal new → IsSound new
sound_then new right exact legal = record { right = right; exact = exact; legal = legal }

module _ (old new : World) (n : ℕ) (line : Option (List ℕ)) (text : List ℕ)
    (asked : List Event) (answered : List Answer) (runs : RunsLine old n line text asked answered new) where
  -- memory ran out, and no byte of the text was written
  pub cut_before : {T : Type 0} (r : Result T ServeFault) (known : Option (List ℕ)) → IsErr r × IsErrAnd r (λ fault. fault ≡ Memory)
      → IfErr r (λ fault. WritesCutLine old n line fault known known new)
  cut_before r known is = if_err r Memory (λ fault. WritesCutLine old n line fault known known new) is ([], ((text, asked, answered, runs), λ memory. refl), Appends-nil known)

  -- a beginning of it was written
  pub cut_within : {T : Type 0} (r : Result T ServeFault) (a b : Option (List ℕ)) (bytes : List ℕ) → IsErr r × IsErrAnd r (λ fault. fault ≡ Write) → bytes ≡ text → AppendsFront a b bytes
      → IfErr r (λ fault. WritesCutLine old n line fault a b new)
  cut_within r a b bytes is same h =
      if_err r Write (λ fault. WritesCutLine old n line fault a b new) is
      (h.0, ((h.1, asked, answered, subst (λ whole. RunsLine old n line whole asked answered new) (sym same ∙ h.2) runs), λ memory. absurd (cc)), h.3)

  -- all of it was written
  pub done_line : (a b : Option (List ℕ)) (bytes : List ℕ) → bytes ≡ text → Appends a b bytes → WritesLine old n line a b new
  done_line a b bytes same h = (text, (asked, answered, runs), subst (Appends a b) same h)

-- ---- the lines of a script

-- these lines before line n were run, with this output
pub record HasRun (old : World) (n : ℕ) (lines : List (Option (List ℕ))) (out : List ℕ) (session : World) : Type 0 where
  pub number : n ≡ length lines + 1
  pub events : List Event
  pub answers : List Answer
  pub runs : RunsLines old 1 lines out events answers session
  pub ids : IsNumbered old

-- the whole lines before line n were served, with this output, and this is left of the script
pub record IsServed (old : World) (script : List ℕ) (n : ℕ) (left out : List ℕ) (session : World) : Type 0 where
  pub lines : List (List ℕ)
  pub split : script ≡ fed lines ++ left
  pub unbroken : All IsUnbroken lines
  pub run : HasRun old n (map line_if_short lines) out session

-- the same where the script is known; where it isn't, some lines were
abbrev pub Serves : World → Option (List ℕ) → Option (List ℕ) → ℕ → Option (List ℕ) → Option (List ℕ) → World → Type 0
Serves old None written n left now session = Gains written now (λ out. (lines : List (Option (List ℕ))) × HasRun old n lines out session)
Serves old (Some script) written n None now session = ⊥
Serves old (Some script) written n (Some left) now session = Gains written now (λ out. IsServed old script n left out session)

run_first : (old : World) → IsNumbered old → HasRun old 1 [] [] old
run_first old ids = record { number = refl; events = []; answers = []; runs = (refl, refl, refl, refl); ids = ids }

module _ (old session : World) (n : ℕ) (lines : List (Option (List ℕ))) (out : List ℕ) (run : HasRun old n lines out session) where
  -- all lines of a script, in whose events each session is told what it would be told alone
  run_whole : RunsScript old lines out session
  run_whole = record {
    events = run.events;
    answers = run.answers;
    runs = run.runs;
    alone = RunsLines-alone old session 1 lines out run.events run.answers run.ids run.runs;
  }

  module _ (new : World) (line : Option (List ℕ)) (asked : List Event) (answered : List Answer) where
    number_first : n ≡ 1 + length lines
    number_first = omega (arith, run.number)

    -- one more line
    run_more : (text : List ℕ) → RunsLine session n line text asked answered new → HasRun old (n + 1) (lines ++ line ∷ []) (out ++ text) new
    run_more text more = record {
      number = omega (arith, run.number, length-append lines (line ∷ []));
      events = run.events ++ asked;
      answers = run.answers ++ answered;
      runs = RunsLines-snoc old session new 1 lines line out text run.events asked run.answers answered run.runs
          (subst (λ k. RunsLine session k line text asked answered new) number_first more);
      ids = run.ids;
    }

    -- one more line, whose reply text was not written whole
    run_cut : (front missing : List ℕ) → RunsLine session n line (front ++ missing) asked answered new → RunsUpTo old (lines ++ line ∷ []) front (out ++ front) new
    unfolding run_more
    run_cut front missing more =
        let ran = run_more (front ++ missing) more in
        record {
          before = lines;
          last = line;
          order = refl;
          mid = session;
          replies = out;
          missing = missing;
          events = run.events;
          answers = run.answers;
          asked = asked;
          answered = answered;
          runs = run.runs;
          cut = subst (λ k. RunsLine session k line (front ++ missing) asked answered new) run.number more;
          alone = RunsLines-alone old new 1 (lines ++ line ∷ []) (out ++ (front ++ missing)) ran.events ran.answers run.ids ran.runs;
          written = refl;
        }

-- a line was taken whose text ends the part of the script that was taken
record HasTaken (script left : List ℕ) (before : List (List ℕ)) (line : Option (List ℕ)) : Type 0 where
  pub taken : List ℕ
  pub split : script ≡ taken ++ left
  pub whole : lines_of script ≡ lines_of taken ++ lines_of left
  pub lines : script_of taken ≡ map line_if_short before ++ line ∷ []

-- a line with its line feed
taken_line : (script left next kept : List ℕ) (lines : List (List ℕ)) → script ≡ fed lines ++ left → All IsUnbroken lines → TakesLine left next Line kept
    → HasTaken script next lines (line_if_short kept)
taken_line script left next kept lines split unbroken taken =
    let line = taken.0 in
    let all = lines ++ line ∷ [] in
    let each : All IsUnbroken all = All-append IsUnbroken lines (line ∷ []) unbroken (All-cons IsUnbroken line [] taken.1 (All-nil IsUnbroken)) in
    let text : script ≡ fed all ++ next = split ∙ ap (λ l. fed lines ++ l) taken.2 ∙ fed-snoc lines line next in
    let same : lines_of (fed all) ≡ all = ap lines_of (sym (append-nil (fed all))) ∙ lines_of-whole all [] each ∙ append-nil all in
    record {
      taken = fed all;
      split = text;
      whole = ap lines_of text ∙ lines_of-whole all next each ∙ ap (λ l. l ++ lines_of next) (sym same);
      lines = ap (map line_if_short) same ∙ map-append line_if_short lines (line ∷ []) ∙ ap (λ l. map line_if_short lines ++ l ∷ []) (sym taken.3);
    }

-- the last line of the script, without one
lines_of_script : (script left : List ℕ) (lines : List (List ℕ)) → script ≡ fed lines ++ left → All IsUnbroken lines → IsUnbroken left → 0 < length left
    → lines_of script ≡ lines ++ left ∷ []
lines_of_script script left lines split unbroken last some =
    ap lines_of split ∙ lines_of-whole lines left unbroken ∙ ap (λ l. lines ++ l) (lines_of-last left last some)

script_of_last : (script left next kept : List ℕ) (lines : List (List ℕ)) → script ≡ fed lines ++ left → All IsUnbroken lines → TakesLine left next LastLine kept
    → script_of script ≡ map line_if_short lines ++ line_if_short kept ∷ []
script_of_last script left next kept lines split unbroken taken =
    ap (map line_if_short) (lines_of_script script left lines split unbroken taken.0 taken.1) ∙ map-append line_if_short lines (left ∷ [])
    ∙ ap (λ l. map line_if_short lines ++ l ∷ []) (sym taken.3)

taken_last : (script left next kept : List ℕ) (lines : List (List ℕ)) → script ≡ fed lines ++ left → All IsUnbroken lines → TakesLine left next LastLine kept
    → HasTaken script next lines (line_if_short kept)
taken_last script left next kept lines split unbroken taken =
    record {
      taken = script;
      split = sym (ap (λ l. script ++ l) taken.2 ∙ append-nil script);
      whole = sym (ap (λ l. lines_of script ++ lines_of l) taken.2 ∙ append-nil (lines_of script));
      lines = script_of_last script left next kept lines split unbroken taken;
    }

-- a line with its line feed was served
pub served_more : (old session new : World) (n : ℕ) (kept : List ℕ) (script written left next now then : Option (List ℕ))
    → Serves old script written n left now session → TakesKnownLine left next Line kept → WritesLine session n (line_if_short kept) now then new
    → Serves old script written (n + 1) next then new
served_more old session new n kept None written left next now then s t w =
    (s.0 ++ w.0, (s.1.0 ++ line_if_short kept ∷ [], run_more old session n s.1.0 s.0 s.1.1 new (line_if_short kept) w.1.0 w.1.1 w.0 w.1.2), Appends-trans written now then s.0 w.0 s.2 w.2)
served_more old session new n kept (Some script) written None next now then s t w = absurd s
served_more old session new n kept (Some script) written (Some left) None now then s t w = absurd t
served_more old session new n kept (Some script) written (Some left) (Some next) now then s t w =
    let served = s.1 in
    let line = t.0 in
    let lines : map line_if_short (served.lines ++ line ∷ []) ≡ map line_if_short served.lines ++ line_if_short kept ∷ [] =
    map-append line_if_short served.lines (line ∷ []) ∙ ap (λ l. map line_if_short served.lines ++ l ∷ []) (sym t.3) in (
      s.0 ++ w.0,
      record {
        lines = served.lines ++ line ∷ [];
        split = served.split ∙ ap (λ l. fed served.lines ++ l) t.2 ∙ fed-snoc served.lines line next;
        unbroken = All-append IsUnbroken served.lines (line ∷ []) served.unbroken (All-cons IsUnbroken line [] t.1 (All-nil IsUnbroken));
        run = subst (λ all. HasRun old (n + 1) all (s.0 ++ w.0) new) (sym lines)
            (run_more old session n (map line_if_short served.lines) s.0 served.run new (line_if_short kept) w.1.0 w.1.1 w.0 w.1.2);
      },
      Appends-trans written now then s.0 w.0 s.2 w.2,
    )

-- the last line was served, and the script ends with it
pub served_last : (old session new : World) (n : ℕ) (kept : List ℕ) (script written left next now then : Option (List ℕ))
    → Serves old script written n left now session → TakesKnownLine left next LastLine kept → WritesLine session n (line_if_short kept) now then new
    → WritesRun old script written then new
served_last old session new n kept None written left next now then s t w =
    let ran = run_more old session n s.1.0 s.0 s.1.1 new (line_if_short kept) w.1.0 w.1.1 w.0 w.1.2 in
    (s.0 ++ w.0, (s.1.0 ++ line_if_short kept ∷ [], run_whole old new (n + 1) _ _ ran), Appends-trans written now then s.0 w.0 s.2 w.2)
served_last old session new n kept (Some script) written None next now then s t w = absurd s
served_last old session new n kept (Some script) written (Some left) None now then s t w = absurd t
served_last old session new n kept (Some script) written (Some left) (Some next) now then s t w =
    let served = s.1 in
    let lines = script_of_last script left next kept served.lines served.split served.unbroken t in (
      s.0 ++ w.0,
      subst (λ all. RunsScript old all (s.0 ++ w.0) new) (sym lines)
          (run_whole old new (n + 1) _ _ (run_more old session n (map line_if_short served.lines) s.0 served.run new (line_if_short kept) w.1.0 w.1.1 w.0 w.1.2)),
      Appends-trans written now then s.0 w.0 s.2 w.2,
    )

-- nothing was left of the script
pub served_all : (old session : World) (n : ℕ) (kept : List ℕ) (script written left next now : Option (List ℕ))
    → Serves old script written n left now session → TakesKnownLine left next End kept → WritesRun old script written now session
served_all old session n kept None written left next now s t = (s.0, (s.1.0, run_whole old session n s.1.0 s.0 s.1.1), s.2)
served_all old session n kept (Some script) written None next now s t = absurd s
served_all old session n kept (Some script) written (Some left) None now s t = absurd t
served_all old session n kept (Some script) written (Some left) (Some next) now s t =
    let served = s.1 in
    let lines : lines_of script ≡ served.lines = ap lines_of (served.split ∙ ap (λ l. fed served.lines ++ l) t.0) ∙ lines_of-whole served.lines [] served.unbroken ∙ append-nil served.lines in
    (s.0, subst (λ all. RunsScript old all s.0 session) (sym (ap (map line_if_short) lines)) (run_whole old session n _ _ served.run), s.2)

-- the input failed within a line
served_begun : (old session : World) (n : ℕ) (script written left rest now : Option (List ℕ))
    → Serves old script written n left now session → BeginsKnownLine left rest → WritesCutRun old Read script rest written now session
served_begun old session n None written left rest now s t = (s.0, (s.1.0, run_whole old session n s.1.0 s.0 s.1.1), s.2)
served_begun old session n (Some script) written None rest now s t = absurd s
served_begun old session n (Some script) written (Some left) None now s t = absurd t.2
served_begun old session n (Some script) written (Some left) (Some rest) now s t =
    let served = s.1 in
    let lines = whole_lines_of-begun served.lines t.0 served.unbroken t.1 in (
      s.0,
      record {
        consumed = fed served.lines ++ t.0;
        split = served.split ∙ ap (λ l. fed served.lines ++ l) t.2 ∙ sym (append_assoc (fed served.lines) t.0 rest);
        runs = subst (λ all. RunsScript old all s.0 session) (sym (ap (map line_if_short) lines)) (run_whole old session n _ _ served.run);
      },
      s.2,
    )

pub failed_within : {T : Type 0} (r : Result T ServeFault) (old session : World) (n : ℕ) (script written left rest now : Option (List ℕ))
    → IsErr r × IsErrAnd r (λ fault. fault ≡ Read) → Serves old script written n left now session → BeginsKnownLine left rest
    → IfErr r (λ fault. WritesCutRun old fault script rest written now session)
failed_within r old session n script written left rest now is s t =
    if_err r Read (λ fault. WritesCutRun old fault script rest written now session) is (served_begun old session n script written left rest now s t)

-- a line that was taken was run, and its reply text was not written whole
cut_line : (old session new : World) (n : ℕ) (script left ahead rest out front missing : List ℕ) (asked : List Event) (answered : List Answer) (line : Option (List ℕ))
    → (served : IsServed old script n left out session) → HasTaken script (ahead ++ rest) served.lines line → length ahead ≤ 4096
    → RunsLine session n line (front ++ missing) asked answered new → StopsAtLine old script rest front (out ++ front) new
cut_line old session new n script left ahead rest out front missing asked answered line served has near run =
    let cut = run_cut old session n (map line_if_short served.lines) out served.run new line asked answered front missing run in
    record {
      taken = has.taken;
      ahead = ahead;
      split = has.split;
      near = near;
      whole = has.whole;
      runs = subst (λ lines. RunsUpTo old lines front (out ++ front) new) (sym has.lines) cut;
    }

-- a line was taken from the script
abbrev IsTaken : NextLine → Type 0
IsTaken next = next ≢ End

has_taken : (script left rest kept : List ℕ) (lines : List (List ℕ)) (next : NextLine) → IsTaken next → script ≡ fed lines ++ left → All IsUnbroken lines → TakesLine left rest next kept
    → HasTaken script rest lines (line_if_short kept)
has_taken script left rest kept lines End some split unbroken t = absurd (some refl)
has_taken script left rest kept lines Line some split unbroken t = taken_line script left rest kept lines split unbroken t
has_taken script left rest kept lines LastLine some split unbroken t = taken_last script left rest kept lines split unbroken t

served_within : (old session new : World) (n : ℕ) (ahead kept : List ℕ) (script written left rest now then : Option (List ℕ))
    (next : NextLine) (fault : ServeFault) → next ≢ End → fault ≢ Read → length ahead ≤ 4096 → Serves old script written n left now session
    → TakesKnownLine left (prepend_known ahead rest) next kept → WritesCutLine session n (line_if_short kept) fault now then new
    → WritesCutRun old fault script rest written then new
served_within old session new n ahead kept None written left rest now then next Read some other near s t w = absurd (other refl)
served_within old session new n ahead kept None written left rest now then next Write some other near s t w =
    let cut = run_cut old session n s.1.0 s.0 s.1.1 new (line_if_short kept) w.1.0.1 w.1.0.2 w.0 w.1.0.0 w.1.0.3 in
    (s.0 ++ w.0, (s.1.0 ++ line_if_short kept ∷ [], w.0, cut), Appends-trans written now then s.0 w.0 s.2 w.2)
served_within old session new n ahead kept None written left rest now then next Memory some other near s t w =
    let cut = run_cut old session n s.1.0 s.0 s.1.1 new (line_if_short kept) w.1.0.1 w.1.0.2 w.0 w.1.0.0 w.1.0.3 in
    let none : w.0 ≡ [] = w.1.1 refl in
    (s.0 ++ w.0, (s.1.0 ++ line_if_short kept ∷ [], subst (λ front. RunsUpTo old (s.1.0 ++ line_if_short kept ∷ []) front (s.0 ++ w.0) new) none cut), Appends-trans written now then s.0 w.0 s.2 w.2)
served_within old session new n ahead kept (Some script) written None rest now then next fault some other near s t w = absurd s
served_within old session new n ahead kept (Some script) written (Some left) None now then next fault some other near s t w = absurd t
served_within old session new n ahead kept (Some script) written (Some left) (Some rest) now then next Read some other near s t w = absurd (other refl)
served_within old session new n ahead kept (Some script) written (Some left) (Some rest) now then next Write some other near s t w =
    let has = has_taken script left (ahead ++ rest) kept s.1.lines next some s.1.split s.1.unbroken t in (
      s.0 ++ w.0,
      (w.0, cut_line old session new n script left ahead rest s.0 w.0 w.1.0.0 w.1.0.1 w.1.0.2 (line_if_short kept) s.1 has near w.1.0.3),
      Appends-trans written now then s.0 w.0 s.2 w.2,
    )
served_within old session new n ahead kept (Some script) written (Some left) (Some rest) now then next Memory some other near s t w =
    let has = has_taken script left (ahead ++ rest) kept s.1.lines next some s.1.split s.1.unbroken t in
    let none : w.0 ≡ [] = w.1.1 refl in (
      s.0 ++ w.0,
      subst (λ front. StopsAtLine old script rest front (s.0 ++ w.0) new) none
          (cut_line old session new n script left ahead rest s.0 w.0 w.1.0.0 w.1.0.1 w.1.0.2 (line_if_short kept) s.1 has near w.1.0.3),
      Appends-trans written now then s.0 w.0 s.2 w.2,
    )

-- ---- the results of a line

module _ (old session new : World) (n : ℕ) (kept : List ℕ) (line : Option (List ℕ)) (same : line ≡ line_if_short kept)
    (script written left now then : Option (List ℕ)) (served : Serves old script written n left now session) where
  read_whole : WritesLine session n line now then new → WritesLine session n (line_if_short kept) now then new
  read_whole w = subst (λ l. WritesLine session n l now then new) same w

  read_cut : (fault : ServeFault) → WritesCutLine session n line fault now then new → WritesCutLine session n (line_if_short kept) fault now then new
  read_cut fault w = subst (λ l. WritesCutLine session n l fault now then new) same w

  -- a line with its line feed
  pub line_done : (next : Option (List ℕ)) → TakesKnownLine left next Line kept → WritesLine session n line now then new → Serves old script written (n + 1) next then new
  line_done next t w = served_more old session new n kept script written left next now then served t (read_whole w)

  -- the last line
  pub last_done : {T : Type 0} (r : Result T ServeFault) (next : Option (List ℕ)) → TakesKnownLine left next LastLine kept → OnOk r (WritesLine session n line now then new)
      → OnOk r (WritesRun old script written then new)
  last_done r next t = on_ok-map r _ _ (λ w. served_last old session new n kept script written left next now then served t (read_whole w))

  module _ (ahead : List ℕ) (rest : Option (List ℕ)) (near : length ahead ≤ 4096) where
    -- a line whose reply text was not written whole
    pub line_cut : {T : Type 0} (r : Result T ServeFault) (fault : ServeFault) → IsErr r × IsErrAnd r (λ given. given ≡ fault) → fault ≢ Read
        → TakesKnownLine left (prepend_known ahead rest) Line kept → WritesCutLine session n line fault now then new
        → IfErr r (λ given. WritesCutRun old given script rest written then new)
    line_cut r fault is write t w =
        if_err r fault (λ given. WritesCutRun old given script rest written then new) is
        (served_within old session new n ahead kept script written left rest now then Line fault (λ e. absurd (cc)) write near served t (read_cut fault w))

    pub last_cut : {T : Type 0} (r : Result T ServeFault) → TakesKnownLine left (prepend_known ahead rest) LastLine kept
        → IfErr r (λ fault. fault ≢ Read) → IfErr r (λ fault. WritesCutLine session n line fault now then new)
        → IfErr r (λ fault. WritesCutRun old fault script rest written then new)
    last_cut r t =
        if_err-map r (λ fault. fault ≢ Read) (λ fault. WritesCutLine session n line fault now then new) (λ fault. WritesCutRun old fault script rest written then new)
        (λ fault write w. served_within old session new n ahead kept script written left rest now then LastLine fault (λ e. absurd (cc)) write near served t (read_cut fault w))
