-- The built-in technology, and what a technology's text is read as.
use Rattle.std.proofs.Common.{◌≡◌, ℕ, List, Option, Ok, Err, refl, subst}
use Rattle.mls_tech.specs.Readings.{Tech, ReadsUnlessMemory, reading_of}
use Rattle.mls_tech.specs.declared.fault.TechFault.{TechFault}
use Rattle.mls_tech.specs.declared.technology_m.TheConstants.{TECHNOLOGY_M}
use Rattle.mls_magicd.specs.Technologies.{HasFault, HasReading, IsTechnologyText, technology_m}

-- the code's constant is technology M
pub technology_m-text : TECHNOLOGY_M.now ≡ technology_m
unfolding technology_m
technology_m-text = refl

module _ (reads_as : List ℕ → List ℕ → Type 0) (path named : Option (List ℕ)) (text : List ℕ) (same : path ≡ named) (is : IsTechnologyText reads_as path text) where
  is_text : IsTechnologyText reads_as named text
  is_text = subst (λ (p : Option (List ℕ)). IsTechnologyText reads_as p text) same is

  -- the text is read as this
  pub has-reading : (tech : Tech) → reading_of text ≡ Ok tech → HasReading reads_as named tech
  has-reading tech read = (text, is_text, read)

  -- it has this fault, or memory ran out over it
  pub has-fault : (fault : TechFault) → ReadsUnlessMemory {A = Tech} (Err fault) (reading_of text) → HasFault reads_as named fault
  has-fault fault read = (text, is_text, read)
