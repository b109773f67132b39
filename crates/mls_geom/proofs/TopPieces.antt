-- The topmost pieces of slots, and the marks where they change.
use Rattle.mls_geom.proofs.Common.{◌≡◌, ◌≢◌, ℕ, zero, suc, ◌+◌, ◌-◌, ◌<◌, ◌≤◌, ◌&&◌, ◌⊎◌, Bool, true, false, List, [], ◌∷◌, ◌++◌, refl, arith, inl, inr, and_from, both_ways, cases_Bool, cases_eq, cases_lt, nat_tests, Any-push}
use Rattle.mls_geom.proofs.Definitions.{HaveChangedTops, IsMarked, IsRankOf, IsTop, has_slot, span_of, with_piece, without_piece, Span, Segment}
use Rattle.mls_geom.proofs.JoinedLists.{Any-append_left}
use Rattle.mls_geom.proofs.PresentPieces.{with-old, with-new, with-which, without-others, without-which}

-- of two tests that both pass
pub and_first : (a b : Bool) → (a && b) ≡ true → a ≡ true
and_first true b p = refl
and_first false b p = p

pub and_second : (a b : Bool) → (a && b) ≡ true → b ≡ true
and_second true b p = p
and_second false b p = absurd (both_ways false refl p)

-- one less than one more
pub one_less : (n : ℕ) → suc n - 1 ≡ n
one_less n = omega arith

-- the rank of the greatest of some numbers below n
greatest : (p : ℕ → Bool) (n : ℕ) → ((i : ℕ) → p i ≡ true → i < n) → (rank : ℕ) × IsRankOf (λ i. p i ≡ true) rank
greatest p zero below = (0, record { over = λ i held. absurd (omega (arith, below i held)); some = inl refl })
greatest p (suc n) below = elim (cases_Bool (p n)) [
  | inl held ↦ (suc n, record { over = below; some = inr (rw (one_less n) held) })
  | inr not_held ↦ greatest p n (λ i held. elim (cases_eq i n) [
    | inl same ↦ absurd (both_ways (p n) not_held (rw same at held))
    | inr apart ↦ omega (arith, below i held, apart)
  ])
]

-- each slot has a topmost one of some pieces
pub some_top : (segments : List Segment) (present : ℕ → Bool) (s n : ℕ) → ((i : ℕ) → present i ≡ true → i < n) → (rank : ℕ) × IsTop segments present s rank
some_top segments present s n below =
    let (rank, is) = greatest (λ i. present i && has_slot (span_of segments i) s) n (λ i held. below i (and_first (present i) _ held)) in (
      rank,
      record {
        over = λ i held. is.over i (and_from (present i) (has_slot (span_of segments i) s) held.0 held.1);
        some = elim is.some [
          | inl empty ↦ inl empty
          | inr held ↦ inr (and_first (present (rank - 1)) _ held, and_second (present (rank - 1)) _ held)
        ];
      },
    )

last_is : (piece : ℕ) → piece + 1 - 1 ≡ piece
last_is piece = omega arith

-- a piece more changes what lies on top only where it does
pub IsTop-with :
    (segments : List Segment) (present : ℕ → Bool) (piece s rank : ℕ)
    → ((other : ℕ) → has_slot (span_of segments piece) s ≡ true → IsTop segments (with_piece present piece) s other → piece + 1 < other)
    → IsTop segments present s rank → IsTop segments (with_piece present piece) s rank
IsTop-with segments present piece s rank hidden top =
    let some_kept : (rank ≡ 0) ⊎ ((with_piece present piece (rank - 1) ≡ true) × (has_slot (span_of segments (rank - 1)) s ≡ true)) = elim top.some [
      | inl empty ↦ inl empty
      | inr held ↦ inr (with-old present piece (rank - 1) held.0, held.1)
    ] in
    elim (cases_Bool (has_slot (span_of segments piece) s)) [
      | inr away ↦ record {
        over = λ i held. elim (with-which present piece i held.0) [
          | inl there ↦ top.over i (there, held.1)
          | inr same ↦ absurd (both_ways (has_slot (span_of segments piece) s) away (rw same at held.1))
        ];
        some = some_kept;
      }
      | inl here ↦ elim (cases_lt piece rank) [
        | inl under ↦ record {
          over = λ i held. elim (with-which present piece i held.0) [
            | inl there ↦ top.over i (there, held.1)
            | inr same ↦ omega (arith, same)
          ];
          some = some_kept;
        }
        | inr over ↦
            absurd (omega (
              arith,
              hidden (piece + 1) here record {
                over = λ i held. elim (with-which present piece i held.0) [
                  | inl there ↦ omega (arith, top.over i (there, held.1))
                  | inr same ↦ omega (arith, same)
                ];
                some = inr (rw (last_is piece) (with-new present piece, here));
              },
            ))
      ]
    ]

-- and so does a piece less
pub IsTop-without :
    (segments : List Segment) (present : ℕ → Bool) (piece s rank : ℕ) → (has_slot (span_of segments piece) s ≡ true → piece + 1 < rank)
    → IsTop segments present s rank → IsTop segments (without_piece present piece) s rank
IsTop-without segments present piece s rank hidden top = record {
  over = λ i held. top.over i ((without-which present piece i held.0).0, held.1);
  some = elim top.some [
    | inl empty ↦ inl empty
    | inr held ↦
        let apart : rank - 1 ≢ piece = λ same. omega (arith, same, hidden (rw same at held.1)) in
        inr (without-others present piece (rank - 1) held.0 apart, held.1)
  ];
}

-- a slot of the span
pub has_slot-in : (span : Span) (s : ℕ) → has_slot span s ≡ true → (span.first ≤ s) × (s < span.end)
has_slot-in span s has = grind (arith, nat_tests)

-- a mark more
pub IsMarked-more : (marks : List Span) (mark : Span) (s : ℕ) → IsMarked marks s → IsMarked (marks ++ mark ∷ []) s
IsMarked-more marks mark s = Any-append_left (λ (mark : Span). (mark.first ≤ s) × (s < mark.end)) marks (mark ∷ [])

pub IsMarked-push : (marks : List Span) (mark : Span) (s : ℕ) → mark.first ≤ s → s < mark.end → IsMarked (marks ++ mark ∷ []) s
IsMarked-push marks mark s from to = Any-push (λ (mark : Span). (mark.first ≤ s) × (s < mark.end)) marks mark (from, to)

-- at first nothing has changed
pub HaveChangedTops-none : (marks : List Span) (segments : List Segment) (present : ℕ → Bool) → HaveChangedTops marks segments present present
HaveChangedTops-none marks segments present s rank _ top = top

-- what lies on top once one piece more is present, and its slots are marked where it may show
pub HaveChangedTops-with : (marks : List Span) (segments : List Segment) (present : ℕ → Bool) (piece : ℕ)
    → ((s rank : ℕ) → has_slot (span_of segments piece) s ≡ true → ¬ (IsMarked marks s) → IsTop segments (with_piece present piece) s rank → piece + 1 < rank)
    → HaveChangedTops marks segments present (with_piece present piece)
HaveChangedTops-with marks segments present piece hidden s rank bare top = IsTop-with segments present piece s rank (λ other has above. hidden s other has bare above) top

-- and once one is absent
pub HaveChangedTops-without : (marks : List Span) (segments : List Segment) (present : ℕ → Bool) (piece : ℕ)
    → ((s rank : ℕ) → has_slot (span_of segments piece) s ≡ true → ¬ (IsMarked marks s) → IsTop segments present s rank → piece + 1 < rank)
    → HaveChangedTops marks segments present (without_piece present piece)
HaveChangedTops-without marks segments present piece hidden s rank bare top = IsTop-without segments present piece s rank (λ has. hidden s rank has bare top) top

-- changes follow each other
pub HaveChangedTops-then :
    (marks more : List Span) (segments : List Segment) (a b c : ℕ → Bool) → ((s : ℕ) → IsMarked marks s → IsMarked more s) → HaveChangedTops marks segments a b
    → HaveChangedTops more segments b c → HaveChangedTops more segments a c
HaveChangedTops-then marks more segments a b c kept first second s rank bare top = second s rank bare (first s rank (λ marked. bare (kept s marked)) top)
