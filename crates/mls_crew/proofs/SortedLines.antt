-- Lines that are sorted, one more at a time.
use Rattle.std.proofs.Common.{Option, Some, None, is_some, false, ◌≡◌, ◌++◌, ◌+◌, ◌<◌, ℕ, suc, Result, List, [], ◌∷◌, get_or, length, length-take, take, take-suc, add-zero, append-nil, append_assoc, refl, sym, ap, ◌∙◌, subst, arith}
use Rattle.mls_seat_lines.specs.mls_wire.NameBooks.{Names}
use Rattle.mls_seat_lines.specs.mls_wire.declared.line.Line.{Line}
use Rattle.mls_seat_lines.specs.mls_wire.declared.line.LineFault.{LineFault}
use Rattle.mls_crew.specs.Sorting.{Sorted, Sorts, SortsLine, followed_by}
use Rattle.mls_crew.specs.declared.handed.Handed.{Handed}

same_sorted : (head head' : List ℕ) (handed handed' : List Handed) (opened : List (List ℕ)) → head ≡ head' → handed ≡ handed'
    → record { head = head; handed = handed; opened = opened } ≡ (let s : Sorted = record { head = head'; handed = handed'; opened = opened } in s)
same_sorted head head' handed handed' opened p q =
    ap (λ h. let s : Sorted = record { head = h; handed = handed; opened = opened } in s) p
    ∙ ap (λ h. let s : Sorted = record { head = head'; handed = h; opened = opened } in s) q

module _ (book : Names) (read : Result Line LineFault) (next : Sorted) where
  pub Sorts-snoc :
      (n : ℕ) (opened : List (List ℕ)) (lines : List (Result Line LineFault)) (sorted : Sorted) → Sorts book n opened lines sorted
      → SortsLine book (n + length lines) sorted.opened read next → Sorts book n opened (lines ++ read ∷ []) (followed_by sorted next)
  Sorts-snoc n opened [] sorted none line = (
    next,
    record { head = []; handed = []; opened = next.opened },
    subst (λ (m : ℕ). SortsLine book m opened read next) (add-zero n) (subst (λ (s : Sorted). SortsLine book (n + 0) s.opened read next) none line),
    refl,
    ap (λ (s : Sorted). followed_by s next) none
        ∙ same_sorted next.head (next.head ++ []) next.handed (next.handed ++ []) next.opened (sym (append-nil next.head)) (sym (append-nil next.handed)),
  )
  Sorts-snoc n opened (one ∷ lines) sorted (first, rest, says, more, is) line =
      let at : n + length (one ∷ lines) ≡ n + 1 + length lines = omega arith in
      let here : SortsLine book (n + 1 + length lines) rest.opened read next =
      subst (λ (m : ℕ). SortsLine book m rest.opened read next) at (subst (λ (s : Sorted). SortsLine book (n + length (one ∷ lines)) s.opened read next) is line) in (
        first,
        followed_by rest next,
        says,
        Sorts-snoc (n + 1) first.opened lines rest more here,
        ap (λ (s : Sorted). followed_by s next) is
            ∙ same_sorted (first.head ++ rest.head ++ next.head) (first.head ++ (rest.head ++ next.head)) (first.handed ++ rest.handed ++ next.handed) (first.handed ++ (rest.handed ++ next.handed)) next.opened
            (append_assoc first.head rest.head next.head) (append_assoc first.handed rest.handed next.handed),
      )

-- the line at an index more
pub Sorts-next :
    (book : Names) (lines : List (Result Line LineFault)) (index n : ℕ) (sorted : Sorted) (read : Result Line LineFault) (next : Sorted) → index < length lines → n ≡ index + 1
    → Sorts book 1 [] (take index lines) sorted → SortsLine book n sorted.opened (get_or lines index read) next → Sorts book 1 [] (take (index + 1) lines) (followed_by sorted next)
Sorts-next book lines index n sorted read next within is sorts line =
    let one : index + 1 ≡ suc index = omega arith in
    let at : n ≡ 1 + length (take index lines) = omega (arith, length-take {A = Result Line LineFault}) in
    subst (λ (done : List (Result Line LineFault)). Sorts book 1 [] done (followed_by sorted next)) (sym (ap (λ count. take count lines) one ∙ take-suc lines index read within))
    (Sorts-snoc book (get_or lines index read) next 1 [] (take index lines) sorted sorts (subst (λ (m : ℕ). SortsLine book m sorted.opened (get_or lines index read) next) at line))

-- a name more
pub opened_one : (before : Sorted) (opened : List (List ℕ)) (name : List ℕ) → opened ≡ before.opened ++ name ∷ []
    → record before { opened = opened } ≡ followed_by before (record { head = []; handed = []; opened = before.opened ++ name ∷ [] })
opened_one before opened name is =
    ap (λ (names : List (List ℕ)). let s : Sorted = record before { opened = names } in s) is
    ∙ same_sorted before.head (before.head ++ []) before.handed (before.handed ++ []) (before.opened ++ name ∷ []) (sym (append-nil before.head)) (sym (append-nil before.handed))

-- the same, where what was sorted before is known by its parts
pub opened_after :
    (before : Sorted) (head : List ℕ) (handed : List Handed) (was opened : List (List ℕ)) (name : List ℕ)
    → record { head = head; handed = handed; opened = was } ≡ before → opened ≡ was ++ name ∷ []
    → record { head = head; handed = handed; opened = opened } ≡ followed_by before (record { head = []; handed = []; opened = before.opened ++ name ∷ [] })
opened_after before head handed was opened name is pushed =
    subst (λ (b : Sorted). record { head = head; handed = handed; opened = opened } ≡ followed_by b (record { head = []; handed = []; opened = b.opened ++ name ∷ [] })) is
    (opened_one (record { head = head; handed = handed; opened = was }) opened name pushed)

-- no session has the name
pub none_named : (found : Option ℕ) → is_some found ≡ false → found ≡ None
none_named None missing = refl
none_named (Some n) missing = absurd (cc)

-- nothing more
pub followed_by_none : (before : Sorted) → before ≡ followed_by before (record { head = []; handed = []; opened = before.opened })
followed_by_none before =
    same_sorted before.head (before.head ++ []) before.handed (before.handed ++ []) before.opened (sym (append-nil before.head)) (sym (append-nil before.handed))
