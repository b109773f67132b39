-- The meaning of a technology file: the value that its lines add up to, or its first fault with its line. It depends on the bytes alone.
use Rattle.std.specs.Prelude.{◌≡◌, ◌≢◌, ◌<◌, ◌≤◌, ℕ, All, ◌+◌, ◌-◌, ◌==◌, Bool, false, not, ◌||◌, ◌&&◌, nat_lt, nat_le, if◌then◌else◌, Option, Some, None, Result, Ok, Err, List, [], ◌∷◌, ◌++◌, length, codes, slice_get, take, count_by, find, is_none, is_some, IfSome, IsSome, IsTrue}
use Rattle.std.specs.List.{list_all, list_any}
use Rattle.std.specs.Map.{lookup}
use Rattle.std.specs.Option.{option_map, option_map_or}
use Rattle.std.specs.Str.Lossy.{utf8_valid_len}
use Rattle.mls_tech.specs.DrcLines.{DrcLine, States, Skips, drc_line}
use Rattle.mls_tech.specs.FileLines.{NumberedLine, content_lines}
use Rattle.mls_tech.specs.Names.{is_name, is_type_name}
use Rattle.mls_tech.specs.TypeLists.{Scope, ◌>>=◌, or_fault}
use Rattle.mls_text.specs.Fields.{fields_of}
use Rattle.mls_text.specs.Lines.{IsUnbroken}
use Rattle.mls_text.specs.Words.{words_of, same_word}
use Rattle.mls_tech.specs.declared.fault.TechFault.{TechFault}
use Rattle.mls_tech.specs.declared.fault.TechFaultKind.{TechFaultKind}
use Rattle.mls_tech.specs.declared.fault.TechFaultKind.TheVariants.{NotUtf8, NoEnd, UnknownPlane, NameTwice, BadForm, Limit, Memory}
use Rattle.mls_tech.specs.declared.rule.Rule.{Rule}
use Rattle.mls_tech.specs.declared.rule_line.RuleLine.{RuleLine}
use Rattle.mls_tech.specs.declared.rule_line.Skipped.{Skipped}
use Rattle.mls_tech.specs.declared.section.Section.{Section}
use Rattle.mls_tech.specs.declared.section.Section.TheVariants.{Tech as TechSection, Planes, Types, Drc, Other}

-- names with the numbers of what they name, in the order of the file; the first name of a number is the one that is printed
abbrev pub Numbered : Type 0
Numbered = List (List ℕ × ℕ)

-- what the lines so far add up to: the technology's name, if they state it; the names of planes, which are numbered from 0, and how many
-- planes there are; the names of types, where type 0 is space, and the plane of each other type, from type 1 on; the lines of the section `drc`
pub record Tech : Type 0 where
  pub name : Option (List ℕ)
  pub planes : Numbered
  pub plane_count : ℕ
  pub types : Numbered
  pub type_planes : List ℕ
  pub rules : List RuleLine
  pub skipped : List Skipped

abbrev pub nothing_read : Tech
nothing_read = record { name = None; planes = []; plane_count = 0; types = (codes "space", 0) ∷ []; type_planes = []; rules = []; skipped = [] }

-- numbers lie within the limits: at most 4 planes and 63 types besides space, and each name has the number of one, as each type has that of a plane
pub record IsWithinLimits (planes : Numbered) (plane_count : ℕ) (types : Numbered) (type_planes : List ℕ) : Type 0 where
  pub few_planes : plane_count ≤ 4
  pub few_types : length type_planes ≤ 63
  pub planes_named : All (λ entry. entry.1 < plane_count) planes
  pub types_named : All (λ entry. entry.1 ≤ length type_planes) types
  pub planes_known : All (λ plane. plane < plane_count) type_planes

-- ---- what names mean
abbrev pub number_named : Numbered → List ℕ → Option ℕ
number_named names word = lookup (same_word word) names

-- the first name of a number
abbrev pub name_of : Numbered → ℕ → Option (List ℕ)
name_of names number = option_map (λ entry. entry.0) (find (λ entry. entry.1 == number) names)

-- no name of the number is shorter
abbrev pub none_is_shorter : Numbered → ℕ → List ℕ → Bool
none_is_shorter names number name = list_all (λ entry. not (entry.1 == number) || nat_le (length name) (length entry.0)) names

-- the shortest name of a number, the first of that length
abbrev pub short_name_of : Numbered → ℕ → Option (List ℕ)
short_name_of names number = option_map (λ entry. entry.0) (find (λ entry. entry.1 == number && none_is_shorter names number entry.0) names)

-- type 0 has the name `space` alone, the names of the others are spelled so that cell files can have them, each name has one meaning, and each type has a
-- name
pub record HasNames (types : Numbered) (type_planes : List ℕ) : Type 0 where
  pub space : All (λ entry. entry.1 ≡ 0 → entry.0 ≡ codes "space") types
  pub spelled : All (λ entry. entry.1 ≢ 0 → IsTrue (is_type_name entry.0)) types
  pub once : All (λ entry. number_named types entry.0 ≡ Some entry.1) types
  pub each : (kind : ℕ) → 1 ≤ kind → kind ≤ length type_planes → IsSome (name_of types kind)

-- what holds of every technology, whose own name can stand in a line
pub record IsWellFormed (name : Option (List ℕ)) (planes : Numbered) (plane_count : ℕ) (types : Numbered) (type_planes : List ℕ) : Type 0 where
  pub limits : IsWithinLimits planes plane_count types type_planes
  pub named : HasNames types type_planes
  pub unbroken : IfSome name IsUnbroken

-- the plane of a type other than space
abbrev pub plane_of_type : List ℕ → ℕ → Option ℕ
plane_of_type type_planes kind = if kind == 0 then None else slice_get type_planes (kind - 1)

-- why rule n is there, from 1
abbrev pub why_of : List RuleLine → ℕ → Option (List ℕ)
why_of rules n = if n == 0 then None else option_map (λ rule. rule.why) (slice_get rules (n - 1))

-- the type lies on the plane; space lies on each
abbrev pub lies_on_plane : List ℕ → ℕ → ℕ → Bool
lies_on_plane type_planes plane kind = kind == 0 || option_map_or (λ on. on == plane) (slice_get type_planes (kind - 1)) false

abbrev pub scope_of : Tech → Scope
scope_of tech = record {
  type_of = number_named tech.types;
  plane_of = number_named tech.planes;
  is_type = λ kind. nat_le kind (length tech.type_planes);
  lies_on = lies_on_plane tech.type_planes;
}

-- the names in a list, judged one by one from the left: the spelling first, and then whether something has the name already
unfoldable pub add_names : (List ℕ → Bool) → ℕ → Numbered → List (List ℕ) → Result Numbered TechFaultKind
add_names is_spelled number names [] = Ok names
add_names is_spelled number names (word ∷ words) =
    if not (is_spelled word) then Err BadForm
    else (if is_some (number_named names word) then Err NameTwice
    else add_names is_spelled number (names ++ (word, number) ∷ []) words)

-- ---- one line in each section
-- the first line whose first word isn't `format` names the technology
abbrev pub set_name : Tech → List ℕ → Tech
set_name tech word =
    if is_none tech.name && not (same_word word (codes "format")) then record tech { name = Some word } else tech

unfoldable pub tech_line : Tech → List (List ℕ) → Result Tech TechFaultKind
tech_line tech [] = Ok tech
tech_line tech (word ∷ words) = Ok (set_name tech word)

-- at most 4 planes
abbrev pub add_plane : Tech → Numbered → Result Tech TechFaultKind
add_plane tech names =
    if nat_lt tech.plane_count 4 then Ok (record tech { planes = names; plane_count = tech.plane_count + 1 }) else Err Limit

unfoldable pub planes_line : Tech → List (List ℕ) → Result Tech TechFaultKind
planes_line tech (word ∷ []) = add_names is_name tech.plane_count tech.planes (fields_of word) >>= add_plane tech
planes_line tech _ = Err BadForm

-- at most 63 types besides space
abbrev pub add_type : Tech → ℕ → Numbered → Result Tech TechFaultKind
add_type tech plane names =
    if nat_lt (length tech.type_planes) 63 then Ok (record tech { types = names; type_planes = tech.type_planes ++ plane ∷ [] }) else Err Limit

-- one leading `-` is dropped
abbrev pub without_dash : List ℕ → List ℕ
without_dash [] = []
without_dash (b ∷ bytes) = if b == 45 then bytes else b ∷ bytes

unfoldable pub types_line : Tech → List (List ℕ) → Result Tech TechFaultKind
types_line tech (plane ∷ names ∷ []) =
    or_fault UnknownPlane (number_named tech.planes (without_dash plane)) >>= λ known.
    add_names is_type_name (length tech.type_planes + 1) tech.types (fields_of names) >>= add_type tech known
types_line tech _ = Err BadForm

abbrev pub add_rule : Tech → ℕ → Rule → List ℕ → Tech
add_rule tech n rule why = record tech { rules = tech.rules ++ record { line = n; rule = rule; why = why } ∷ [] }

abbrev pub add_skipped : Tech → ℕ → List ℕ → Tech
add_skipped tech n keyword = record tech { skipped = tech.skipped ++ record { line = n; keyword = keyword } ∷ [] }

abbrev pub add_line : Tech → ℕ → DrcLine → Tech
add_line tech n (States stated) = add_rule tech n stated.rule stated.why
add_line tech n (Skips keyword) = add_skipped tech n keyword

-- ---- sections
abbrev pub section_named : List ℕ → Section
section_named word =
    if same_word word (codes "tech") then TechSection
    else (if same_word word (codes "planes") then Planes
    else (if same_word word (codes "types") then Types
    else (if same_word word (codes "drc") then Drc else Other)))

-- what a line adds in its section
unfoldable pub section_line : Section → Tech → NumberedLine → Result Tech TechFaultKind
section_line TechSection tech line = tech_line tech (words_of line.bytes)
section_line Planes tech line = planes_line tech (words_of line.bytes)
section_line Types tech line = types_line tech (words_of line.bytes)
section_line Drc tech line = drc_line (scope_of tech) line.bytes >>= λ said. Ok (add_line tech line.line said)
section_line Other tech line = Ok tech

-- the line's only word is `end`, without quotes
abbrev pub is_end_word : List (List ℕ) → Bool
is_end_word (word ∷ []) = same_word word (codes "end")
is_end_word _ = false

abbrev pub is_end : NumberedLine → Bool
is_end line = is_end_word (words_of line.bytes)

abbrev pub first_word : List (List ℕ) → List ℕ
first_word [] = []
first_word (word ∷ words) = word

-- what one line adds, outside a section or inside one, where these lines follow it, and the section that the next line is in. A section
-- without its `end` is the fault of the line that names it, before any fault in it
unfoldable pub read_line : Option Section → Tech → NumberedLine → List NumberedLine → Result (Option Section × Tech) TechFaultKind
read_line None tech line lines =
    if list_any is_end lines then Ok (Some (section_named (first_word (words_of line.bytes))), tech) else Err NoEnd
read_line (Some section) tech line lines =
    if is_end line then Ok (None, tech) else section_line section tech line >>= λ next. Ok (Some section, next)

-- ---- the file
abbrev pub fault_at : {A : Type 0} → ℕ → Result A TechFaultKind → Result A TechFault
fault_at n (Ok x) = Ok x
fault_at n (Err kind) = Err (record { line = n; kind = kind })

abbrev pub read_after : {A B : Type 0} → Result A TechFault → (A → Result B TechFault) → Result B TechFault
read_after (Ok x) f = f x
read_after (Err fault) f = Err fault

-- what the lines from here on add, outside a section or inside one
unfoldable pub read_lines : Option Section → Tech → List NumberedLine → Result Tech TechFault
read_lines inside tech [] = Ok tech
read_lines inside tech (line ∷ lines) = read_after (fault_at line.line (read_line inside tech line lines)) (λ next. read_lines next.0 next.1 lines)

-- the line of the first byte that isn't UTF-8
abbrev pub bad_line : List ℕ → ℕ
bad_line bytes = count_by (λ b. b == 10) (take (utf8_valid_len bytes) bytes) + 1

unfoldable pub reading_of : List ℕ → Result Tech TechFault
reading_of bytes =
    if utf8_valid_len bytes == length bytes then read_lines None nothing_read (content_lines bytes)
    else Err (record { line = bad_line bytes; kind = NotUtf8 })

-- ---- out of memory
-- the fact, unless the fault is out of memory
abbrev pub UnlessMemory : TechFaultKind → Type 0 → Type 0
UnlessMemory Memory P = Unit {0}
UnlessMemory kind P = P

-- the definition gives this value, or this fault with its line, unless memory ran out
abbrev pub ReadsUnlessMemory : {A : Type 0} → Result A TechFault → Result A TechFault → Type 0
ReadsUnlessMemory (Ok x) read = read ≡ Ok x
ReadsUnlessMemory (Err fault) read = UnlessMemory fault.kind (read ≡ Err fault)
