use Rattle.std.proofs.Common.{◌≡◌, ◌+◌, ◌-◌, ◌∷◌, ◌++◌, take, drop, slice_range, sym, ap, ◌∙◌, arith}
use Rattle.mls_wire.proofs.Chunks.{slice_range-more}
use Rattle.mls_text.proofs.LineLemmas.{split_at_feed, unbroken_None}
use Rattle.mls_wire.proofs.reader.LineReader.take_to_newline.Goals as goal

pub returns-in-Some-clause-fed : goal.returns-in-Some-clause-fed
returns-in-Some-clause-fed c =
    let old = c.self.inside in
    let count = c.in-Some.count in
    let chunk = take count (slice_range old.bytes old.start old.end) in
    let found = split_at_feed _ count c.in-Some.ensures in
    let rest = slice_range-more old.bytes old.start old.end (count + 1) in
    let written = rw c.self.told.1 at c.append_within-self-inside.ensures.bytes in
    (chunk, found.0, rw (← c.self.view_is) (found.1 ∙ ap (λ l. chunk ++ 10 ∷ l) (sym rest)), rw (← c.self.view_is) written)

pub returns-in-None-clause-all : goal.returns-in-None-clause-all
returns-in-None-clause-all c =
    let old = c.self.inside in
    let none : old.end - old.end ≡ 0 = omega arith in
    let written = rw c.self.told.1 at c.append_within-self-inside-in-None.ensures.bytes in
    (rw (← c.self.view_is) (unbroken_None _ c.in-None.ensures), ap (λ n. take n (drop old.end old.bytes)) none, rw (← c.self.view_is) written)
