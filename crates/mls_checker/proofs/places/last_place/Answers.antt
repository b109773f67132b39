use Rattle.std.proofs.Common.{◌-◌, inl, inr, arith}
use Rattle.std.proofs.lemmas.Bool.{cases_lt}
use Rattle.mls_checker.proofs.PlaceEnds.{last-none, last-short, last-there, word-none}
use Rattle.mls_checker.proofs.places.last_place.Goals as goal

pub overflow_add-first : goal.overflow_add-first
overflow_add-first c =
    let short = last-short (c.words.end - 1) c.word_to-word.result (omega arith) (omega arith) c.word_to-word.ensures.there in
    omega (arith, short)

pub returns-then-word-ne0-clause-most : goal.returns-then-word-ne0-clause-most
returns-then-word-ne0-clause-most c =
    let short = last-short (c.words.end - 1) c.word_to-word.result (omega arith) (omega arith) c.word_to-word.ensures.there in
    omega (arith, short, c.max.ensures, c.words.invariant.within)

pub returns-then-word-ne0-clause-none : goal.returns-then-word-ne0-clause-none
returns-then-word-ne0-clause-none c n on before = elim (cases_lt n c.words.end) [
  | inl here ↦ last-none c.args.map.now c.args.has (c.words.end - 1) c.word_to-word.result c.max.result n (omega arith) (omega arith) c.word_to-word.ensures.has
      (omega (arith, c.max.ensures)) on (omega (arith, here))
  | inr behind ↦ c.words.invariant.none n behind before
]

pub returns-then-word-ne0-clause-there : goal.returns-then-word-ne0-clause-there
returns-then-word-ne0-clause-there c after =
    last-there c.args.map.now c.args.has (c.words.end - 1) c.word_to-word.result c.max.result (omega arith) (omega arith) c.word_to-word.ensures.there c.word_to-word.ensures.has
    (omega (arith, c.max.ensures, after))

pub words-preserved : goal.words-preserved
words-preserved c = record {
  within = omega (arith, c.words.invariant.within);
  none = λ n on before. elim (cases_lt n c.words.end) [
    | inl here ↦ word-none c.args.map.now c.args.has (c.words.end - 1) c.word_to-word.result n (omega arith) c.word_to-word.ensures.has on (omega (arith, here))
    | inr behind ↦ c.words.invariant.none n behind before
  ];
}
