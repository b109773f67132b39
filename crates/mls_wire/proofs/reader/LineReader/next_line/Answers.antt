use Rattle.std.proofs.Common.{◌≡◌, ◌<◌, ◌∷◌, ◌∙◌, length, take, ap, subst, inl, inr, ⊎_elim, arith}
use Rattle.std.proofs.lemmas.List.{length-take-le}
use Rattle.mls_text.specs.Lines.{IsUnbroken}
use Rattle.mls_wire.specs.LineReaders.{script_ahead}
use Rattle.mls_wire.proofs.NextLineLemmas.{HasCome, HasCome-chunk, HasCome-all, TakesKnownLine-fed, TakesKnownLine-last, TakesKnownLine-end, BeginsKnownLine-come}
use Rattle.mls_wire.proofs.Results.{on_err}
use Rattle.mls_wire.proofs.reader.LineReader.next_line.Given as given
use Rattle.mls_wire.proofs.reader.LineReader.next_line.Goals as goal
use Rattle.mls_wire.proofs.reader.LineReader.next_line.Goals.{In_ok-read_ahead}

-- all that had been read is a beginning of the line
came_so_far : (g : given.Over) (c : In_ok-read_ahead g)
    → HasCome (script_ahead c.args.self.now (g.R.Read.remaining c.args.input.now.device)) (script_ahead c.read_ahead.new.self (g.R.Read.remaining c.read_ahead.new.input.device)) c.read_ahead.new.self.line
came_so_far g c =
    let start = script_ahead c.args.self.now (g.R.Read.remaining c.args.input.now.device) in
    let (unbroken, none, first) = c.chunks-test.ensures.all in
    let read = c.in_ok-read_ahead.ensures in
    HasCome-all {start = start} (g.R.Read.remaining c.chunks.input.device) _ _ _ _ _ c.chunks.invariant.came unbroken none (read.line ∙ first) read.kept

pub chunks-preserved : goal.chunks-preserved
chunks-preserved g c =
    let before = c.chunks.invariant in
    let read = c.in_ok-read_ahead.ensures in
    record {
      came = came_so_far g (goal.at.chunks-preserved g c).In_ok-read_ahead;
      needed = inl (⊎_elim (λ unbroken. unbroken) (λ same. subst IsUnbroken same.1 c.chunks-test.ensures.all.0) before.needed);
      lines = omega (arith, read.within, read.fewer);
      calls = omega (arith, read.called.calls);
      failed = read.called.failed ∙ before.failed;
    }

pub returns-clause-needed : goal.returns-clause-needed
returns-clause-needed g c = ⊎_elim inl (λ same. inr same.0) c.chunks.invariant.needed

pub returns-in_err-read_ahead-clause-begun : goal.returns-in_err-read_ahead-clause-begun
returns-in_err-read_ahead-clause-begun g c =
    let start = script_ahead c.args.self.now (g.R.Read.remaining c.args.input.now.device) in
    let (unbroken, none, first) = c.chunks-test.ensures.all in
    let read = c.in_err-read_ahead.ensures in
    let came = HasCome-all {start = start} (g.R.Read.remaining c.chunks.input.device) _ _ _ _ _ c.chunks.invariant.came unbroken none (read.line ∙ first) read.kept in
    on_err _ _ (BeginsKnownLine-come start _ _ _ came read.none)

pub returns-then-self-gt0-clause-taken : goal.returns-then-self-gt0-clause-taken
returns-then-self-gt0-clause-taken g c =
    let end = c.in_ok-read_ahead.ensures.end c.if-not-branch.true in
    let came = came_so_far g (goal.at.returns-then-self-gt0-clause-taken g c).In_ok-read_ahead in
    let fields = c.self-in-chunks.inside in
    let (ordered, within, fits) = c.self-in-chunks.invariant in
    let long = length-take-le fields.len fields.kept (omega (arith, fits, c.self-in-chunks.told.1)) in
    let some : 0 < length (take fields.len fields.kept) = omega (arith, long, c.if-self-gt0.true) in
    TakesKnownLine-last _ _ _ came end (rw (← c.self-in-chunks.view_is) some)

pub returns-then-not-branch-clause-taken : goal.returns-then-not-branch-clause-taken
returns-then-not-branch-clause-taken g c =
    let end = c.in_ok-read_ahead.ensures.end c.if-not-branch.true in
    let came = came_so_far g (goal.at.returns-then-not-branch-clause-taken g c).In_ok-read_ahead in
    let fields = c.self-in-chunks.inside in
    let none : fields.len ≡ 0 = omega (arith, c.if-self-gt0.false) in
    TakesKnownLine-end _ _ _ came end (rw (← c.self-in-chunks.view_is) (ap (λ n. take n fields.kept) none))

pub returns-clause-taken : goal.returns-clause-taken
returns-clause-taken g c =
    let start = script_ahead c.args.self.now (g.R.Read.remaining c.args.input.now.device) in
    let (chunk, unbroken, ahead, first) = c.chunks-test.ensures.fed in
    let rest = c.take_to_newline.new.self.ahead in
    let remaining = g.R.Read.remaining c.chunks.input.device in
    TakesKnownLine-fed start remaining rest _ (HasCome-chunk {start = start} remaining _ (10 ∷ rest) _ _ chunk c.chunks.invariant.came unbroken ahead first)
