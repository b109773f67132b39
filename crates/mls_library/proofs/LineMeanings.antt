-- A line of a type's section paints on the section's plane, and `Memory` is no line's fault.
use Rattle.std.proofs.Common.{ℕ, ◌&&◌, not, Bool, true, false, cond, Option, Some, None, List, [], ◌∷◌}
use Rattle.std.specs.Prelude.{Result, Ok, Err, IfErr, IfOk, codes, ⊤}
use Rattle.mls_geom.specs.Rects.{Rect}
use Rattle.mls_geom.specs.World.{is_outside, rect_of}
use Rattle.mls_geom.specs.declared.rect.RectFault.{RectFault}
use Rattle.mls_tech.specs.Readings.{Tech}
use Rattle.mls_library.specs.CellFiles.{◌>>=◌, or_fault, first_line, header_line, integer_of, is_check_section, is_integer, is_section_mark, is_start, is_text_section, is_word, layer_line, layer_named, line_meaning, painted_by, plain_line, rect_between, rect_line, scale_line, section_line, section_named, skipped_line, world_line}
use Rattle.mls_library.specs.Inner.{IsKnownMeaning, IsKnownPlace}
use Rattle.mls_library.specs.declared.fault.CellFaultKind.{CellFaultKind}
use Rattle.mls_library.specs.declared.fault.CellFaultKind.TheVariants.{Memory, OutsideWorld, UnknownLayer}
use Rattle.mls_library.specs.declared.meaning.Meaning.{Meaning}
use Rattle.mls_library.specs.declared.place.Place.{Place}
use Rattle.mls_library.specs.declared.place.Place.TheVariants.{Start, Header, Skipped, Layer}

-- a fault of a file
abbrev pub IsOfFile : CellFaultKind → Type 0
IsOfFile Memory = ⊥
IsOfFile kind = ⊤

-- the meaning is as it should be, or the fault is of the file
abbrev Says : {B : Type 0} → (B → Type 0) → Result B CellFaultKind → Type 0
Says P (Ok x) = P x
Says P (Err kind) = IsOfFile kind

Says-bind : {A B : Type 0} (P : B → Type 0) (r : Result A CellFaultKind) (f : A → Result B CellFaultKind) → IfErr r IsOfFile → ((x : A) → Says P (f x)) → Says P (r >>= f)
Says-bind P (Ok x) f said each = each x
Says-bind P (Err kind) f said each = said

Says-cond : {B : Type 0} (P : B → Type 0) (b : Bool) (x y : Result B CellFaultKind) → Says P x → Says P y → Says P (cond b x y)
Says-cond P true x y h k = h
Says-cond P false x y h k = k

Says-ok : {B : Type 0} (P : B → Type 0) (r : Result B CellFaultKind) → Says P r → IfOk r P
Says-ok P (Ok x) said = said
Says-ok P (Err kind) said = tt

Says-err : {B : Type 0} (P : B → Type 0) (r : Result B CellFaultKind) → Says P r → IfErr r IsOfFile
Says-err P (Ok x) said = tt
Says-err P (Err kind) said = said

IfErr-cond : {B : Type 0} (b : Bool) (x y : Result B CellFaultKind) → IfErr x IsOfFile → IfErr y IsOfFile → IfErr (cond b x y) IsOfFile
IfErr-cond true x y h k = h
IfErr-cond false x y h k = k

-- ---- lines that begin no section
world_line-says : (word : List ℕ) → IfErr (world_line word) IsOfFile
unfolding world_line
world_line-says word = IfErr-cond (is_outside (integer_of word)) (Err OutsideWorld) (Ok (integer_of word)) tt tt

module _ (lies_on : ℕ → ℕ → Type 0) where
  abbrev known : Meaning → Type 0
  known = IsKnownMeaning lies_on

  first_line-says : (keyword : List ℕ) (words : List (List ℕ)) → Says known (first_line keyword words)
  unfolding first_line
  first_line-says keyword [] = Says-cond known (is_word (codes "magic") keyword) _ _ tt tt
  first_line-says keyword (word ∷ words) = tt

  scale_line-says : (words : List (List ℕ)) → Says known (scale_line words)
  unfolding scale_line
  scale_line-says [] = tt
  scale_line-says (x ∷ []) = tt
  scale_line-says (x ∷ y ∷ []) = Says-cond known (is_word (codes "1") x && is_word (codes "1") y) _ _ tt tt
  scale_line-says (x ∷ y ∷ z ∷ words) = tt

  header_line-says : (keyword : List ℕ) (words : List (List ℕ)) → Says known (header_line keyword words)
  unfolding header_line
  header_line-says keyword words =
      Says-cond known (is_word (codes "use") keyword) _ _ tt
      (Says-cond known (is_word (codes "tri") keyword) _ _ tt
      (Says-cond known (is_word (codes "magscale") keyword) _ _ (scale_line-says words) tt))

  skipped_line-says : (with_uses : Bool) (keyword : List ℕ) → Says known (skipped_line with_uses keyword)
  unfolding skipped_line
  skipped_line-says with_uses keyword = Says-cond known (is_word (codes "use") keyword && not with_uses) _ _ tt tt

  module _ (kind plane : ℕ) (lies : lies_on kind plane) where
    painted_by-says : (r : Result Rect RectFault) → Says known (painted_by kind plane r)
    painted_by-says (Ok rect) = lies
    painted_by-says (Err fault) = tt

    rect_between-says : (left bottom right top : List ℕ) → Says known (rect_between kind plane left bottom right top)
    unfolding rect_between
    rect_between-says left bottom right top =
        Says-bind known (world_line left) _ (world_line-says left)
        (λ l. Says-bind known (world_line bottom) _ (world_line-says bottom)
        (λ b. Says-bind known (world_line right) _ (world_line-says right)
        (λ r. Says-bind known (world_line top) _ (world_line-says top) (λ t. painted_by-says (rect_of l b r t)))))

    rect_line-says : (words : List (List ℕ)) → Says known (rect_line kind plane words)
    unfolding rect_line
    rect_line-says [] = tt
    rect_line-says (left ∷ []) = tt
    rect_line-says (left ∷ bottom ∷ []) = tt
    rect_line-says (left ∷ bottom ∷ right ∷ []) = tt
    rect_line-says (left ∷ bottom ∷ right ∷ top ∷ []) =
        Says-cond known (is_integer left && is_integer bottom && is_integer right && is_integer top) _ _ (rect_between-says left bottom right top) tt
    rect_line-says (left ∷ bottom ∷ right ∷ top ∷ more ∷ words) = tt

    layer_line-says : (keyword : List ℕ) (words : List (List ℕ)) → Says known (layer_line kind plane keyword words)
    unfolding layer_line
    layer_line-says keyword words =
        Says-cond known (is_word (codes "rect") keyword) _ _ (rect_line-says words)
        (Says-cond known (is_word (codes "use") keyword) _ _ tt
        (Says-cond known (is_word (codes "tri") keyword) _ _ tt tt))

  plain_line-says : (place : Place) (keyword : List ℕ) (words : List (List ℕ)) → IsKnownPlace lies_on place → Says known (plain_line place keyword words)
  unfolding plain_line
  plain_line-says Start keyword words lies = first_line-says keyword words
  plain_line-says Header keyword words lies = header_line-says keyword words
  plain_line-says (Skipped with_uses) keyword words lies = skipped_line-says with_uses keyword
  plain_line-says (Layer kind plane) keyword words lies = layer_line-says kind plane lies keyword words

  -- a line that begins no section, in a known place
  pub plain_line-known : (place : Place) (keyword : List ℕ) (words : List (List ℕ)) → IsKnownPlace lies_on place → IfOk (plain_line place keyword words) (IsKnownMeaning lies_on)
  plain_line-known place keyword words lies = Says-ok known _ (plain_line-says place keyword words lies)

-- ---- lines that begin one
abbrev any : Meaning → Type 0
any meaning = ⊤

or_fault-says : (found : Option Meaning) → Says any (or_fault UnknownLayer found)
or_fault-says None = tt
or_fault-says (Some meaning) = tt

section_named-says : (tech : Tech) (name : List ℕ) → Says any (section_named tech name)
unfolding section_named layer_named
section_named-says tech name =
    Says-cond any (is_word (codes "end") name) _ _ tt
    (Says-cond any (is_text_section name) _ _ tt
    (Says-cond any (is_check_section name) _ _ tt (or_fault-says _)))

section_line-says : (tech : Tech) (words : List (List ℕ)) → Says any (section_line tech words)
unfolding section_line
section_line-says tech [] = tt
section_line-says tech (name ∷ []) = tt
section_line-says tech (name ∷ closing ∷ []) = Says-cond any (is_word (codes ">>") closing) _ _ (section_named-says tech name) tt
section_line-says tech (name ∷ closing ∷ more ∷ words) = tt

-- ---- any line
-- a place where nothing is asked of a section
any_place : (place : Place) → IsKnownPlace (λ kind plane. ⊤) place
any_place Start = tt
any_place Header = tt
any_place (Skipped with_uses) = tt
any_place (Layer kind plane) = tt

plain_line-fault : (place : Place) (keyword : List ℕ) (words : List (List ℕ)) → IfErr (plain_line place keyword words) IsOfFile
plain_line-fault place keyword words = Says-err (known (λ kind plane. ⊤)) _ (plain_line-says (λ kind plane. ⊤) place keyword words (any_place place))

-- the fault of a line
pub line_meaning-fault : (tech : Tech) (place : Place) (words : List (List ℕ)) → IfErr (line_meaning tech place words) IsOfFile
unfolding line_meaning
line_meaning-fault tech place [] = tt
line_meaning-fault tech place (keyword ∷ words) =
    IfErr-cond (is_section_mark keyword && not (is_start place)) (section_line tech words) (plain_line place keyword words)
    (Says-err any _ (section_line-says tech words))
    (plain_line-fault place keyword words)
