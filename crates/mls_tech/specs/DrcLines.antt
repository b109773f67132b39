-- The lines of the section `drc` (Magic Maintainer's Manual 2, "drc"): which words they have, and which rule they state.
use Rattle.std.specs.Prelude.{ℕ, ◌==◌, Bool, true, false, if◌then◌else◌, Option, Some, None, Result, Ok, Err, List, [], ◌∷◌, ◌++◌, codes}
use Rattle.std.specs.Option.{option_map}
use Rattle.mls_tech.specs.FileNumbers.{number_in}
use Rattle.mls_tech.specs.TypeLists.{Scope, ◌>>=◌, or_fault, bits_in}
use Rattle.mls_text.specs.Words.{is_blank, same_word}
use Rattle.mls_tech.specs.declared.fault.TechFaultKind.{TechFaultKind}
use Rattle.mls_tech.specs.declared.fault.TechFaultKind.TheVariants.{UnknownPlane, BadForm}
use Rattle.mls_tech.specs.declared.rule.Adjacency.{Adjacency}
use Rattle.mls_tech.specs.declared.rule.Adjacency.TheVariants.{TouchingOk, TouchingIllegal}
use Rattle.mls_tech.specs.declared.rule.Edge.{Edge as EdgeWords}
use Rattle.mls_tech.specs.declared.rule.Rule.{Rule}
use Rattle.mls_tech.specs.declared.rule.Rule.TheVariants.{Width, Spacing, Edge, Edge4Way}

-- ---- words: one that begins with `"` goes to the next `"`, where it ends
abbrev pub is_quote : ℕ → Bool
is_quote b = b == 34

-- the state in which a line is read: between two words, in a bare word, or in a quoted one, of which these bytes were read
pub data WordState : Type 0 where
  Between : WordState
  Bare : (word : List ℕ) → WordState
  Quoted : (word : List ℕ) → WordState

abbrev pub word_before : List ℕ → Option (List (List ℕ)) → Option (List (List ℕ))
word_before word words = option_map (λ others. word ∷ others) words

-- the words from here on; nothing where a second `"` is missing
abbrev pub words_from : WordState → List ℕ → Option (List (List ℕ))
words_from Between [] = Some []
words_from Between (b ∷ bytes) =
    if is_blank b then words_from Between bytes
    else (if is_quote b then words_from (Quoted []) bytes else words_from (Bare (b ∷ [])) bytes)
words_from (Bare word) [] = Some (word ∷ [])
words_from (Bare word) (b ∷ bytes) =
    if is_blank b then word_before word (words_from Between bytes) else words_from (Bare (word ++ b ∷ [])) bytes
words_from (Quoted word) [] = None
words_from (Quoted word) (b ∷ bytes) =
    if is_quote b then word_before word (words_from Between bytes) else words_from (Quoted (word ++ b ∷ [])) bytes

unfoldable pub drc_words : List ℕ → Option (List (List ℕ))
drc_words bytes = words_from Between bytes

-- ---- rules
-- a rule and why it is there
pub record Stated : Type 0 where
  pub rule : Rule
  pub why : List ℕ

-- what a line is: a rule, or a line with a keyword that isn't known
pub data DrcLine : Type 0 where
  States : (stated : Stated) → DrcLine
  Skips : (keyword : List ℕ) → DrcLine

abbrev pub stated : Rule → List ℕ → DrcLine
stated rule why = States (record { rule = rule; why = why })

unfoldable pub width_line : Scope → List (List ℕ) → Result DrcLine TechFaultKind
width_line scope (types ∷ distance ∷ why ∷ []) =
    bits_in scope types >>= λ set. number_in 1 100 distance >>= λ d. Ok (stated (Width set d) why)
width_line scope _ = Err BadForm

abbrev pub adjacency_of : List ℕ → Option Adjacency
adjacency_of word =
    if same_word word (codes "touching_ok") then Some TouchingOk
    else (if same_word word (codes "touching_illegal") then Some TouchingIllegal else None)

abbrev pub spacing_rule : Scope → Adjacency → List ℕ → List ℕ → List ℕ → List ℕ → Result DrcLine TechFaultKind
spacing_rule scope adjacency types1 types2 distance why =
    bits_in scope types1 >>= λ xs. bits_in scope types2 >>= λ ys. number_in 1 100 distance >>= λ d. Ok (stated (Spacing xs ys d adjacency) why)

-- five words are a rule where the adjacency is known; five or more are skipped where it isn't
abbrev pub spacing_by : Scope → Option Adjacency → List ℕ → List ℕ → List ℕ → List ℕ → List (List ℕ) → Result DrcLine TechFaultKind
spacing_by scope None types1 types2 distance why more = Ok (Skips (codes "spacing"))
spacing_by scope (Some adjacency) types1 types2 distance why [] = spacing_rule scope adjacency types1 types2 distance why
spacing_by scope (Some adjacency) types1 types2 distance why (word ∷ more) = Err BadForm

unfoldable pub spacing_line : Scope → List (List ℕ) → Result DrcLine TechFaultKind
spacing_line scope (types1 ∷ types2 ∷ distance ∷ adjacency ∷ why ∷ more) = spacing_by scope (adjacency_of adjacency) types1 types2 distance why more
spacing_line scope _ = Err BadForm

-- the plane at the end of an edge line, if one is named
abbrev pub last_plane : Scope → List (List ℕ) → Result (Option ℕ) TechFaultKind
last_plane scope [] = Ok None
last_plane scope (plane ∷ []) = or_fault UnknownPlane (scope.plane_of plane) >>= λ known. Ok (Some known)
last_plane scope _ = Err BadForm

abbrev pub is_short : List (List ℕ) → Bool
is_short [] = true
is_short (word ∷ []) = true
is_short _ = false

unfoldable pub edge_words : Scope → List (List ℕ) → Result (EdgeWords × List ℕ) TechFaultKind
edge_words scope (types1 ∷ types2 ∷ distance ∷ ok_types ∷ corner_types ∷ corner_distance ∷ why ∷ more) =
    if is_short more then
    (bits_in scope types1 >>= λ xs. bits_in scope types2 >>= λ ys. number_in 1 100 distance >>= λ d.
    bits_in scope ok_types >>= λ oks. bits_in scope corner_types >>= λ corners. number_in 0 100 corner_distance >>= λ c.
    last_plane scope more >>= λ plane.
    Ok (record { types1 = xs; types2 = ys; distance = d; ok_types = oks; corner_types = corners; corner_distance = c; plane = plane }, why))
    else Err BadForm
edge_words scope _ = Err BadForm

-- an edge line, which states this rule of its edge
unfoldable pub edge_line : (EdgeWords → Rule) → Scope → List (List ℕ) → Result DrcLine TechFaultKind
edge_line rule scope words = edge_words scope words >>= λ edge. Ok (stated (rule edge.0) edge.1)

-- the words of a line that isn't empty
unfoldable pub keyword_line : Scope → List ℕ → List (List ℕ) → Result DrcLine TechFaultKind
keyword_line scope keyword words =
    if same_word keyword (codes "width") then width_line scope words
    else (if same_word keyword (codes "spacing") then spacing_line scope words
    else (if same_word keyword (codes "edge") then edge_line Edge scope words
    else (if same_word keyword (codes "edge4way") then edge_line Edge4Way scope words
    else Ok (Skips keyword))))

abbrev pub words_line : Scope → Option (List (List ℕ)) → Result DrcLine TechFaultKind
words_line scope None = Err BadForm
words_line scope (Some []) = Ok (Skips [])
words_line scope (Some (keyword ∷ words)) = keyword_line scope keyword words

unfoldable pub drc_line : Scope → List ℕ → Result DrcLine TechFaultKind
drc_line scope bytes = words_line scope (drc_words bytes)
