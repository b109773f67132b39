use Rattle.std.proofs.Common.{◌≡◌, ◌+◌, ◌/◌, ◌%◌, ◌^◌, inl, inr, refl, ap, ◌∙◌, arith}
use Rattle.std.specs.Int.{w64, trailing_zeros}
use Rattle.std.proofs.lemmas.Bool.{cases_lt}
use Rattle.mls_checker.specs.Maps.{has_place}
use Rattle.mls_checker.proofs.PlaceRuns.{rest-before, rest-none, rest-short, rest-there}
use Rattle.mls_checker.proofs.places.first_place.Goals as goal

pub overflow_add-place : goal.overflow_add-place
overflow_add-place c =
    let short = rest-short c.args.has c.args.map.now c.words.place c.word_at.result _ c.word_at.ensures (omega arith) refl in
    omega (arith, short)

pub returns-then-rest-ne0-clause-none : goal.returns-then-rest-ne0-clause-none
returns-then-rest-ne0-clause-none c n on before = elim (cases_lt n c.words.place) [
  | inl earlier ↦ c.words.invariant.none n on earlier
  | inr here ↦
      let zeros = trailing_zeros w64 (c.word_at.result / 2 ^ (c.words.place % 64)) in
      rest-before c.args.has c.args.map.now c.words.place c.word_at.result zeros n c.word_at.ensures (omega arith) refl here (omega (arith, c.min.ensures, before))
]

pub returns-then-rest-ne0-clause-there : goal.returns-then-rest-ne0-clause-there
returns-then-rest-ne0-clause-there c less =
    let zeros = trailing_zeros w64 (c.word_at.result / 2 ^ (c.words.place % 64)) in
    let is : c.min.result ≡ c.words.place + zeros = omega (arith, c.min.ensures, less) in
    ap (has_place c.args.map.now) is ∙ rest-there c.args.has c.args.map.now c.words.place c.word_at.result zeros c.word_at.ensures (omega arith) refl

pub words-preserved : goal.words-preserved
words-preserved c = record {
  after = omega (arith, c.words.invariant.after);
  none = λ n on before. elim (cases_lt n c.words.place) [
    | inl earlier ↦ c.words.invariant.none n on earlier
    | inr here ↦ rest-none c.args.has c.args.map.now c.words.place c.word_at.result n c.word_at.ensures (omega arith) here (omega (arith, before))
  ];
}
