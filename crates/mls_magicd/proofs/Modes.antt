-- How the script is served, where the words ask for it.
use Rattle.std.proofs.Common.{◌≡◌, ◌≢◌, ◌∙◌, ℕ, Option, None, Some, List, refl, sym, subst}
use Rattle.std.proofs.lemmas.Bool.{ne_eqb}
use Rattle.mls_magicd.specs.CommandLines.{AskForLive, AskForNoLive, IsNumberFor, IsNumberOf, NumberOption, ParsesAs, mode_of, number_given, workers_option}
use Rattle.mls_magicd.specs.declared.options.Mode.TheVariants.{Alone, Batch, Stream}
use Rattle.mls_magicd.specs.declared.options.Options.{Options}

-- the words name one number
one_number : (option : NumberOption) (given : Option (List ℕ)) (a b : ℕ) → IsNumberOf option given a → IsNumberOf option given b → a ≡ b
one_number option None a b p q = p ∙ sym q
one_number option (Some text) a b p q = p ∙ sym q

pub asked_stream : (words : List (List ℕ)) (options : Options) → ParsesAs words options → AskForLive words → mode_of options ≡ Stream
unfolding mode_of
asked_stream words options parsed asks = rw (parsed.live asks) refl

pub asked_alone : (words : List (List ℕ)) (options : Options) → ParsesAs words options → AskForNoLive words → IsNumberFor workers_option words 0 → mode_of options ≡ Alone
unfolding mode_of
asked_alone words options parsed no_live zero =
    rw (parsed.no_live no_live, one_number workers_option (number_given workers_option words) options.workers 0 parsed.workers zero) refl

pub asked_batch :
    (words : List (List ℕ)) (options : Options) (workers : ℕ) → ParsesAs words options → AskForNoLive words → IsNumberFor workers_option words workers → workers ≢ 0
    → mode_of options ≡ Batch
unfolding mode_of
asked_batch words options workers parsed no_live named some =
    let same = one_number workers_option (number_given workers_option words) options.workers workers parsed.workers named in
    rw (parsed.no_live no_live, ne_eqb options.workers 0 (λ zero. some (sym same ∙ zero))) refl
