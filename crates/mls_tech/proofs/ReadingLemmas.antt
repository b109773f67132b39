-- A technology file line by line.
use Rattle.std.proofs.Common.{◌≡◌, ℕ, cond, List, [], ◌∷◌, Option, None, Result, Ok, Err, refl, ap, sym, eq-eqb}
use Rattle.std.specs.Prelude.{IsUtf8}
use Rattle.std.proofs.lemmas.Str.{utf8_valid_len-IsUtf8}
use Rattle.mls_tech.specs.FileLines.{NumberedLine, content_lines}
use Rattle.mls_tech.specs.Readings.{Tech, nothing_read, reading_of, bad_line, fault_at, read_after, read_line, read_lines, UnlessMemory}
use Rattle.mls_tech.specs.declared.fault.TechFault.{TechFault}
use Rattle.mls_tech.specs.declared.fault.TechFaultKind.{TechFaultKind}
use Rattle.mls_tech.specs.declared.fault.TechFaultKind.TheVariants.{NotUtf8, Memory}
use Rattle.mls_tech.specs.Inner.Gives.{FailsUnlessMemory}
use Rattle.mls_tech.specs.declared.section.Section.{Section}

module _ (inside : Option Section) (tech : Tech) where
  module _ (line : NumberedLine) (lines : List NumberedLine) where
    lines_after : Result (Option Section × Tech) TechFaultKind → Result Tech TechFault
    lines_after read = read_after (fault_at line.line read) (λ next. read_lines next.0 next.1 lines)

    -- where a line is read, it and the lines after it add up to the same
    pub read_lines-kept : (next : Option Section × Tech) → read_line inside tech line lines ≡ Ok next → read_lines next.0 next.1 lines ≡ read_lines inside tech (line ∷ lines)
    unfolding read_lines lines_after
    read_lines-kept next read = sym (ap lines_after read)

    -- where it isn't, its fault is the file's
    pub read_lines-fault : (kind : TechFaultKind) → read_line inside tech line lines ≡ Err kind → read_lines inside tech (line ∷ lines) ≡ Err (record { line = line.line; kind = kind })
    unfolding read_lines lines_after
    read_lines-fault kind read = ap lines_after read

  -- no lines add nothing
  pub read_lines-none : read_lines inside tech [] ≡ Ok tech
  unfolding read_lines
  read_lines-none = refl

-- a fact that follows from a fault holds where the fault is reported, memory aside
pub unless_memory : {A P : Type 0} (kind : TechFaultKind) (read : Result A TechFaultKind) → FailsUnlessMemory kind read → (read ≡ Err kind → P) → UnlessMemory kind P
unless_memory Memory read fails follows = tt
unless_memory kind read fails follows = follows fails

-- what is UTF-8 is read line by line
pub reading_of-text : (bytes : List ℕ) → IsUtf8 bytes → reading_of bytes ≡ read_lines None nothing_read (content_lines bytes)
unfolding reading_of
reading_of-text bytes text =
    ap (λ b. cond b (read_lines None nothing_read (content_lines bytes)) (Err (record { line = bad_line bytes; kind = NotUtf8 }))) (eq-eqb _ _ (utf8_valid_len-IsUtf8 bytes text))
