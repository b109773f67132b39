-- The number that is named is the one that is given.
use Rattle.std.proofs.Common.{◌≡◌, ◌∙◌, ◌<◌, ◌^◌, ℕ, List, Option, Some, None, Result, sym, subst}
use Rattle.std.specs.Option.{MatchOption, SomeIff, UnwrapsOrElse}
use Rattle.std.specs.Str.Parse.{ParsesUnsigned, ExplainsUnsignedError, HasUnsignedDigitsIfOk}
use Rattle.std.specs.declared.num.ParseIntError.{ParseIntError}
use Rattle.clap.specs.Words.{ReadsOne, Text, one_text}
use Rattle.clap.proofs.CallerReads.{signed_reads}
use Rattle.clap.specs.declared.parser.matches.Found.{Found}
use Rattle.mls_bounded.specs.Ranges.{IsInRange}
use Rattle.mls_magicd.specs.CommandLines.{IsFoundNumber, IsNumberFor, IsNumberOf, NumberOption, number_written, number_given}

-- what a text gives that is read as a `u32`
abbrev GivesNumber : List ℕ → Result ℕ ParseIntError → Type 0
GivesNumber text given = ParsesUnsigned 32 10 text given × ExplainsUnsignedError 10 text given × HasUnsignedDigitsIfOk text given

-- a legal number makes the value
made : (IsLegal P : ℕ → Type 0) (n : ℕ) (made_of : Option ℕ) (value : ℕ) → IsLegal n → SomeIff made_of (IsLegal n) n → UnwrapsOrElse made_of P value → value ≡ n
made IsLegal P n None value legal not_made unwrapped = absurd (not_made legal)
made IsLegal P n (Some m) value legal is_made unwrapped = unwrapped ∙ is_made.1

-- a value is made of the number that is read where that is legal, or else it is the option's default
module _ (option : NumberOption) (read made_of : Option ℕ) (value : ℕ)
    (makes : MatchOption read (made_of ≡ None) (λ m. SomeIff made_of (IsInRange option.least option.most m) m)) (unwrapped : UnwrapsOrElse made_of (λ n. n ≡ option.default) value) where
  value_of_none : read ≡ None → value ≡ option.default
  value_of_none none =
      let not_made = subst (λ (o : Option ℕ). MatchOption o (made_of ≡ None) (λ m. SomeIff made_of (IsInRange option.least option.most m) m)) none makes in
      subst (λ (o : Option ℕ). UnwrapsOrElse o (λ n. n ≡ option.default) value) not_made unwrapped

  value_of_text : (text : List ℕ) (n : ℕ) → ReadsOne GivesNumber text read → read ≡ Some n → IsInRange option.least option.most n → value ≡ number_written text
  unfolding number_written
  value_of_text text n reads is legal =
      let parsed = subst (λ (o : Option ℕ). ReadsOne GivesNumber text o) is reads in
      made (IsInRange option.least option.most) _ n made_of value legal (subst (λ (o : Option ℕ). MatchOption o (made_of ≡ None) (λ m. SomeIff made_of (IsInRange option.least option.most m) m)) is makes) unwrapped ∙ parsed.0.1

  -- the value is the number that a parse found
  pub found-number : (found : Found) → (one_text found option.name ≡ None → read ≡ None)
      → ((text : List ℕ) → one_text found option.name ≡ Some text → ReadsOne GivesNumber text read)
      → option.most < 2 ^ 32 → IsFoundNumber option found value
  found-number found none some fits = record {
    usual = λ absent. value_of_none (none absent);
    named = λ text present is_text.
        let reads = some text present in
        let in_range = signed_reads ParseIntError GivesNumber 32 option.least option.most is_text.0 read (subst (λ (t : List ℕ). ReadsOne GivesNumber t read) is_text.1 reads)
        (λ u x given. given.0) fits is_text.2 in
        value_of_text text in_range.0 reads in_range.1 (record { enough = in_range.2; bounded = in_range.3 });
  }

-- the words name one number
pub number-unique : (option : NumberOption) (words : List Text) (n m : ℕ) → IsNumberFor option words n → IsNumberFor option words m → n ≡ m
number-unique option words n m = go (number_given option words)
  where
    go : (o : Option Text) → IsNumberOf option o n → IsNumberOf option o m → n ≡ m
    go None is also = is ∙ sym also
    go (Some text) is also = is ∙ sym also
