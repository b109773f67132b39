use Rattle.std.proofs.Common.{◌≡◌, ◌+◌, Ok, Err, ap, sym, ◌∙◌, subst, arith}
use Rattle.std.specs.Prelude.{IfErr}
use Rattle.std.proofs.lemmas.List.Elements.{All-push}
use Rattle.mls_text.specs.Lines.{raw_lines}
use Rattle.mls_text.specs.Words.{words_of}
use Rattle.mls_library.specs.CellFiles.{line_meaning, read_lines, reading_of}
use Rattle.mls_library.specs.Inner.{IsKnownPlace, IsTypeOn}
use Rattle.mls_library.specs.declared.meaning.Meaning.TheVariants.{Nothing, Enters, Paints, Ends}
use Rattle.mls_library.proofs.ReadingLemmas.{read_lines-line, read_lines-none, unless_memory-line}
use Rattle.mls_library.proofs.LineMeanings.{IsOfFile, line_meaning-fault}
use Rattle.mls_library.proofs.file.read_cell.Goals as goal

pub loop-line-preserved-in-Ok-Nothing : goal.loop-line-preserved-in-Ok-Nothing
loop-line-preserved-in-Ok-Nothing c =
    let said : Ok Nothing ≡ line_meaning c.args.tech.now c.loop-line.place (words_of c.in-Some.line.now) = cc in
    let read = read_lines c.args.tech.now c.loop-line.place c.loop-line.rects.items c.loop-line.number in
    record {
      same =
          read_lines-line c.args.tech.now c.loop-line.place c.loop-line.rects.items c.loop-line.number c.in-Some.line.now (raw_lines c.in-Some.after.now) (Ok Nothing) said
          ∙ ap read (sym c.in-Some.ensures.line) ∙ c.loop-line.invariant.same;
      place_known = c.loop-line.invariant.place_known;
      rects_known = c.loop-line.invariant.rects_known;
      fits = omega (arith, c.loop-line.invariant.fits, c.in-Some.ensures.shorter);
    }

pub loop-line-preserved-in-Ok-Enters : goal.loop-line-preserved-in-Ok-Enters
loop-line-preserved-in-Ok-Enters c =
    let said : Ok (Enters c.in-Ok-Enters.next) ≡ line_meaning c.args.tech.now c.loop-line.place (words_of c.in-Some.line.now) = cc in
    let read = read_lines c.args.tech.now c.loop-line.place c.loop-line.rects.items c.loop-line.number in
    let known : IsKnownPlace (IsTypeOn c.args.tech.now) c.in-Ok-Enters.next = rw c.in-Ok-Enters.field-0-is at (c.in-Ok-Enters.ensures.known c.loop-line.invariant.place_known) in
    record {
      same =
          read_lines-line c.args.tech.now c.loop-line.place c.loop-line.rects.items c.loop-line.number c.in-Some.line.now (raw_lines c.in-Some.after.now) (Ok (Enters c.in-Ok-Enters.next)) said
          ∙ ap read (sym c.in-Some.ensures.line) ∙ c.loop-line.invariant.same;
      place_known = known;
      rects_known = c.loop-line.invariant.rects_known;
      fits = omega (arith, c.loop-line.invariant.fits, c.in-Some.ensures.shorter);
    }

pub loop-line-preserved : goal.loop-line-preserved
loop-line-preserved c =
    let said : Ok (Paints c.in-Ok-Paints.rect) ≡ line_meaning c.args.tech.now c.loop-line.place (words_of c.in-Some.line.now) = cc in
    let read = read_lines c.args.tech.now c.loop-line.place c.loop-line.rects.items c.loop-line.number in
    let known : IsTypeOn c.args.tech.now c.in-Ok-Paints.rect.piece.kind c.in-Ok-Paints.rect.plane = rw c.in-Ok-Paints.field-0-is at (c.in-Ok-Paints.ensures.known c.loop-line.invariant.place_known) in
    record {
      same =
          ap (λ rects. read_lines c.args.tech.now c.loop-line.place rects (c.loop-line.number + 1) (raw_lines c.in-Some.after.now)) c.in_ok-push-in-Ok-Paints.ensures.items
          ∙ read_lines-line c.args.tech.now c.loop-line.place c.loop-line.rects.items c.loop-line.number c.in-Some.line.now (raw_lines c.in-Some.after.now) (Ok (Paints c.in-Ok-Paints.rect)) said
          ∙ ap read (sym c.in-Some.ensures.line) ∙ c.loop-line.invariant.same;
      place_known = c.loop-line.invariant.place_known;
      rects_known = rw c.in_ok-push-in-Ok-Paints.ensures.items (All-push (λ rect. IsTypeOn c.args.tech.now rect.piece.kind rect.plane) c.loop-line.rects.items c.in-Ok-Paints.rect c.loop-line.invariant.rects_known known);
      fits = omega (arith, c.loop-line.invariant.fits, c.in-Some.ensures.shorter);
    }

pub returns-in-Ok-Ends-clause-value : goal.returns-in-Ok-Ends-clause-value
unfolding reading_of
returns-in-Ok-Ends-clause-value c =
    let said : Ok Ends ≡ line_meaning c.args.tech.now c.loop-line.place (words_of c.in-Some.line.now) = cc in
    let read = read_lines c.args.tech.now c.loop-line.place c.loop-line.rects.items c.loop-line.number in
    sym c.loop-line.invariant.same ∙ ap read c.in-Some.ensures.line
    ∙ sym (read_lines-line c.args.tech.now c.loop-line.place c.loop-line.rects.items c.loop-line.number c.in-Some.line.now (raw_lines c.in-Some.after.now) (Ok Ends) said)

pub returns-in-Err-clause-value : goal.returns-in-Err-clause-value
unfolding reading_of
returns-in-Err-clause-value c =
    let said : Err c.in-Err.kind ≡ line_meaning c.args.tech.now c.loop-line.place (words_of c.in-Some.line.now) = cc in
    let read = read_lines c.args.tech.now c.loop-line.place c.loop-line.rects.items c.loop-line.number in
    let of_file : IsOfFile c.in-Err.kind = subst (λ meant. IfErr meant IsOfFile) (sym said) (line_meaning-fault c.args.tech.now c.loop-line.place (words_of c.in-Some.line.now)) in
    unless_memory-line c.in-Err.kind (c.loop-line.number + 1) of_file
    (sym c.loop-line.invariant.same ∙ ap read c.in-Some.ensures.line
    ∙ sym (read_lines-line c.args.tech.now c.loop-line.place c.loop-line.rects.items c.loop-line.number c.in-Some.line.now (raw_lines c.in-Some.after.now) (Err c.in-Err.kind) said))

pub returns-clause-value : goal.returns-clause-value
unfolding reading_of
returns-clause-value c =
    let read = read_lines c.args.tech.now c.loop-line.place c.loop-line.rects.items c.loop-line.number in
    sym c.loop-line.invariant.same ∙ ap (λ bytes. read (raw_lines bytes)) c.in_default.ensures.line ∙ read_lines-none _ _ _ _
