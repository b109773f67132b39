-- What slots show.
use Rattle.mls_geom.proofs.Common.{◌≡◌, ◌∙◌, List, ap, length, slice_index_or, ◌+◌, ◌*◌, ◌^◌, ◌<◌, ◌≤◌, ◌&&◌, ◌/◌, arith, false, nat_le, nat_lt, refl, suc, true, zero, ℕ, pow-suc, get_or_default, pow_pos, nat_tests}
use Rattle.mls_geom.proofs.Definitions.{Span, Segment, node_of, span_of}
use Rattle.mls_geom.specs.Sweep.Trees.{shown}

-- a piece's slots, as they are read
pub span_read :
    (segments : List Segment) (piece : ℕ) (read : Segment) → piece < length segments → read ≡ slice_index_or segments piece read → read.span ≡ span_of segments piece
span_read segments piece read within is = ap (λ (segment : Segment). segment.span) (is ∙ get_or_default segments piece read _ within)

-- twice as many slots
pub twice : (h : ℕ) → 2 ^ suc h ≡ 2 ^ h + 2 ^ h
twice h = omega (arith, pow-suc 2 h)

-- what slots show depends on the nodes of their part alone
pub shown_alike :
    (ranks others : ℕ → ℕ) (h first s : ℕ) → ((n : ℕ) → 2 * first ≤ n → n + 1 < 2 * (first + 2 ^ h) → ranks n ≡ others n)
    → shown ranks h first s ≡ shown others h first s
unfolding shown
shown_alike ranks others zero first s same = same (node_of zero first) (omega arith) (omega arith)
shown_alike ranks others (suc h) first s same =
    let two = twice h in
    let some = pow_pos h in
    let node = same (node_of (suc h) first) (omega (arith, two, some)) (omega (arith, some, two)) in
    let left = shown_alike ranks others h first s (λ n from to. same n from (omega (arith, some, two))) in
    let right = shown_alike ranks others h (first + 2 ^ h) s (λ n from to. same n (omega (arith, some)) (omega (arith, some, two))) in
    rw (node, left, right) refl

-- a part that meets a span and doesn't lie in it has two halves
pub halves_of :
    (h first width : ℕ) (span : Span) → width ≡ 2 ^ h → (nat_lt span.first (first + width) && nat_lt first span.end) ≡ true → (nat_le span.first first && nat_le (first + width) span.end) ≡ false
    → (k : ℕ) × (h ≡ suc k) × (width / 2 ≡ 2 ^ k) × (width ≡ 2 ^ k + 2 ^ k) × (0 < 2 ^ k)
halves_of zero first width span is meets out = absurd (grind (arith, nat_tests))
halves_of (suc k) first width span is meets out =
    let two = twice k in
    (k, refl, omega (arith, is, two), omega (arith, is, two), pow_pos k)
