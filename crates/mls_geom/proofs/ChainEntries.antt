-- The entries of the chains of a segment tree's nodes.
use Rattle.mls_geom.proofs.Common.{◌≡◌, ◌≢◌, ℕ, suc, ◌<◌, ◌≤◌, ◌++◌, nat_lt, nat_le, ◌==◌, true, false, Option, Some, None, List, [], ◌∷◌, length, get_or, IfSome, inl, inr, refl, sym, ap, subst, ◌∙◌, arith, append_assoc, set, get_or-append, get_or-append_seam, nat_tests, get_or_default, get_or-set_same, get_or-set_other, length-append, length-set, slice_get_cases, slice_get-get_or, get_or_from_slice_get}
use Rattle.mls_geom.proofs.Definitions.{Each, IsChain, IsFalling, IsFront, IsFrontTo, IsSplitAt, entry_at, linked, outliving, under_of, unlinked, end_of, Entry, Segment}
use Rattle.mls_geom.proofs.EachOfChain.{Each-right, Each-weaker, Each-always, Each-outliving}

-- a chain that begins at an entry has its piece, and then those of the chain under it
pub record IsBegun (entries : List Entry) (node e : ℕ) (chain : List ℕ) : Type 0 where
  pub within : e < length entries
  pub node_is : (entry_at entries e).node ≡ node
  pub rest : List ℕ
  pub whole : chain ≡ (entry_at entries e).piece ∷ rest
  pub under : IsChain entries node (entry_at entries e).under rest

-- each chain from an entry on begins at it
pub IsBegun-chain : (entries : List Entry) (node e : ℕ) (chain : List ℕ) → IsChain entries node (Some e) chain → IsBegun entries node e chain
IsBegun-chain entries node e [] chained = cc
IsBegun-chain entries node e (piece ∷ rest) chained = elim (slice_get_cases entries e).1 [
  | inl there ↦
      let (entry, within, found, _) = there in
      let is = get_or_from_slice_get entries e entry (record { node = 0; piece = 0; under = None }) found in
      let (of_node, has, under) = rw found at chained in
      record {
        within = within;
        node_is = rw is of_node;
        rest = rest;
        whole = rw (is, has) refl;
        under = rw is under;
      }
  | inr past ↦ absurd (rw past.1 at chained)
]

-- an entry of the node, with its piece and the chain under it, is a chain
IsChain-begun :
    (entries : List Entry) (node e : ℕ) (rest : List ℕ) → e < length entries → (entry_at entries e).node ≡ node
    → IsChain entries node (entry_at entries e).under rest → IsChain entries node (Some e) ((entry_at entries e).piece ∷ rest)
IsChain-begun entries node e rest within of_node under =
    rw (slice_get-get_or entries e (record { node = 0; piece = 0; under = None }) within) (of_node, refl, under)

-- what begins nowhere has no pieces
IsChain-none : (entries : List Entry) (node : ℕ) (chain : List ℕ) → IsChain entries node None chain → chain ≡ []
IsChain-none entries node [] chained = refl
IsChain-none entries node (piece ∷ rest) chained = absurd chained

-- what holds of each piece of a chain holds of the first one
pub IsBegun-each : (P : ℕ → Type 0) (entries : List Entry) (node e : ℕ) (chain : List ℕ) → IsBegun entries node e chain → Each P chain → P (entry_at entries e).piece
IsBegun-each P entries node e chain begun each = (subst (Each P) begun.whole each).0

-- so where a chain begins an entry stands, with such a piece
IsChain-first :
    (P : ℕ → Type 0) (entries : List Entry) (node : ℕ) (next : Option ℕ) (chain : List ℕ) → IsChain entries node next chain → Each P chain
    → IfSome next (λ e. (e < length entries) × P (entry_at entries e).piece)
IsChain-first P entries node None chain chained each = record {}
IsChain-first P entries node (Some e) chain chained each =
    let begun = IsBegun-chain entries node e chain chained in
    (begun.within, IsBegun-each P entries node e chain begun each)

-- so it is where the chain's rest goes on
pub IsChain-rest :
    (P : ℕ → Type 0) (entries : List Entry) (node : ℕ) (next : Option ℕ) (front rest chain : List ℕ) → chain ≡ front ++ rest → IsChain entries node next rest → Each P chain
    → IfSome next (λ e. (e < length entries) × P (entry_at entries e).piece)
IsChain-rest P entries node next front rest chain whole under each = IsChain-first P entries node next rest under (Each-right P front rest (rw whole at each))

-- and the entry is one of the list
pub IsChain-within : (entries : List Entry) (node : ℕ) (next : Option ℕ) (chain : List ℕ) → IsChain entries node next chain → IfSome next (λ e. e < length entries)
IsChain-within entries node None chain chained = record {}
IsChain-within entries node (Some e) chain chained = (IsBegun-chain entries node e chain chained).within

-- the pieces under some of a falling chain fall
pub IsFalling-right : (front rest : List ℕ) → IsFalling (front ++ rest) → IsFalling rest
IsFalling-right [] rest falling = falling
IsFalling-right (piece ∷ front) rest falling = IsFalling-right front rest falling.1

-- and those over a piece lie over it
IsFalling-over : (front : List ℕ) (piece : ℕ) (rest : List ℕ) → IsFalling (front ++ piece ∷ rest) → Each (λ over. piece < over) front
IsFalling-over [] piece rest falling = record {}
IsFalling-over (over ∷ front) piece rest falling =
    ((Each-right (λ under. under < over) front (piece ∷ rest) falling.0).0, IsFalling-over front piece rest falling.1)

-- the rank of an entry's piece, or 0: along a chain that falls it gets less
abbrev pub rank_at : List Entry → Option ℕ → ℕ
rank_at entries None = 0
rank_at entries (Some e) = suc (entry_at entries e).piece

-- under a piece it is less than the piece's
rank_at-below :
    (entries : List Entry) (node over : ℕ) (next : Option ℕ) (rest : List ℕ) → IsChain entries node next rest → Each (λ piece. piece < over) rest
    → rank_at entries next < suc over
rank_at-below entries node over None rest chained each = omega arith
rank_at-below entries node over (Some e) rest chained each =
    let below : (entry_at entries e).piece < over = IsBegun-each (λ piece. piece < over) entries node e rest (IsBegun-chain entries node e rest chained) each in
    omega arith

-- so the entry under one has less
pub rank_at-under :
    (entries : List Entry) (node e : ℕ) (chain : List ℕ) → IsChain entries node (Some e) chain → IsFalling chain
    → rank_at entries (entry_at entries e).under < rank_at entries (Some e)
rank_at-under entries node e chain chained falling =
    let begun = IsBegun-chain entries node e chain chained in
    let falls = subst IsFalling begun.whole falling in
    rank_at-below entries node (entry_at entries e).piece (entry_at entries e).under begun.rest begun.under falls.0

-- one entry more at the end of those down to it
IsFront-more :
    (entries : List Entry) (node e : ℕ) (head : Option ℕ) (over : List ℕ) → IsFront entries node head (Some e) over → e < length entries → (entry_at entries e).node ≡ node
    → IsFront entries node head (entry_at entries e).under (over ++ (entry_at entries e).piece ∷ [])
IsFront-more entries node e head [] front within of_node = rw front (within, of_node, refl, refl)
IsFront-more entries node e None (piece ∷ over) front within of_node = absurd front
IsFront-more entries node e (Some first) (piece ∷ over) front within of_node =
    let (first_in, first_node, has, further) = front in
    (first_in, first_node, has, IsFront-more entries node e (entry_at entries first).under over further within of_node)

-- those down to an entry, and the chain from it on
IsChain-joined :
    (entries : List Entry) (node : ℕ) (head next : Option ℕ) (over rest : List ℕ) → IsFront entries node head next over → IsChain entries node next rest
    → IsChain entries node head (over ++ rest)
IsChain-joined entries node head next [] rest front chained = rw front chained
IsChain-joined entries node None next (piece ∷ over) rest front chained = absurd front
IsChain-joined entries node (Some first) next (piece ∷ over) rest front chained =
    let (within, of_node, has, further) = front in
    rw (← has) (IsChain-begun entries node first (over ++ rest) within of_node (IsChain-joined entries node (entry_at entries first).under next over rest further chained))

-- entries of the node that have such pieces are as they were
abbrev pub AreKept : (ℕ → Type 0) → ℕ → List Entry → List Entry → Type 0
AreKept P node old new =
    (length old ≤ length new) × ((e : ℕ) → e < length old → (entry_at old e).node ≡ node → P (entry_at old e).piece → entry_at new e ≡ entry_at old e)

-- and so are chains of them
IsChain-kept :
    (P : ℕ → Type 0) (old new : List Entry) (node : ℕ) (next : Option ℕ) (chain : List ℕ) → AreKept P node old new → Each P chain
    → IsChain old node next chain → IsChain new node next chain
IsChain-kept P old new node next [] kept each chained = chained
IsChain-kept P old new node None (piece ∷ rest) kept each chained = absurd chained
IsChain-kept P old new node (Some e) (piece ∷ rest) kept each chained =
    let begun = IsBegun-chain old node e (piece ∷ rest) chained in
    let (long, same) = kept in
    let is = same e begun.within begun.node_is (IsBegun-each P old node e (piece ∷ rest) begun each) in
    let has : piece ≡ (entry_at old e).piece = cc (begun.whole) in
    let those : rest ≡ begun.rest = cc (begun.whole) in
    let begun_within = begun.within in
    let under = IsChain-kept P old new node (entry_at old e).under rest kept each.1 (rw those begun.under) in
    rw (has, ← is) (IsChain-begun new node e rest (omega arith) (rw is begun.node_is) (rw is under))

-- and so are fronts of chains
IsFront-kept :
    (P : ℕ → Type 0) (old new : List Entry) (node : ℕ) (head next : Option ℕ) (over : List ℕ) → AreKept P node old new → Each P over
    → IsFront old node head next over → IsFront new node head next over
IsFront-kept P old new node head next [] kept each front = front
IsFront-kept P old new node None next (piece ∷ over) kept each front = absurd front
IsFront-kept P old new node (Some e) next (piece ∷ over) kept each front =
    let (within, of_node, has, further) = front in
    let (long, same) = kept in
    let is = same e within of_node (rw has each.0) in
    (omega arith, rw is of_node, rw is has, rw is (IsFront-kept P old new node (entry_at old e).under next over kept each.1 further))

-- a piece is linked under one that lies over it and ends before it
linked-under :
    (ends : ℕ → ℕ) (piece over : ℕ) (rest : List ℕ) → piece < over → ends over < ends piece → linked ends piece (over ∷ rest) ≡ over ∷ linked ends piece rest
linked-under ends piece over rest lies_over ends_before =
    let first : nat_lt piece over ≡ true = grind (arith, nat_tests) in
    let second : nat_le (ends piece) (ends over) ≡ false = grind (arith, nat_tests) in
    rw (first, second) refl

-- the line at which a piece ends, as it is read
pub end_read : (segments : List Segment) (i : ℕ) (d : Segment) → i < length segments → (get_or segments i d).end ≡ end_of segments i
end_read segments i d within = ap (λ (segment : Segment). segment.end) (get_or_default segments i d _ within)

-- it isn't linked under one that lies over it until it ends
pub linked-hidden :
    (ends : ℕ → ℕ) (piece : ℕ) (entries : List Entry) (node e : ℕ) (rest : List ℕ) → IsChain entries node (Some e) rest → piece < (entry_at entries e).piece
    → ends piece ≤ ends (entry_at entries e).piece → linked ends piece rest ≡ rest
linked-hidden ends piece entries node e rest chained lies_over until =
    let begun = IsBegun-chain entries node e rest chained in
    let first : nat_lt piece (entry_at entries e).piece ≡ true = grind (arith, nat_tests) in
    let second : nat_le (ends piece) (ends (entry_at entries e).piece) ≡ true = grind (arith, nat_tests) in
    rw (begun.whole, first, second) refl

-- and is linked over all others
linked-over :
    (ends : ℕ → ℕ) (piece : ℕ) (entries : List Entry) (node : ℕ) (next : Option ℕ) (rest : List ℕ) → IsChain entries node next rest
    → IfSome next (λ e. (entry_at entries e).piece ≤ piece) → linked ends piece rest ≡ piece ∷ outliving ends piece rest
linked-over ends piece entries node None rest chained lies_under = rw (IsChain-none entries node rest chained) refl
linked-over ends piece entries node (Some e) rest chained lies_under =
    let begun = IsBegun-chain entries node e rest chained in
    let under = (entry_at entries e).piece in
    let first : nat_lt piece under ≡ false = grind (arith, nat_tests) in
    rw (begun.whole, first) refl

-- those that end no later than the piece are left out
outliving-ended : (ends : ℕ → ℕ) (piece under : ℕ) (rest : List ℕ) → ends under ≤ ends piece → outliving ends piece (under ∷ rest) ≡ outliving ends piece rest
outliving-ended ends piece under rest ended =
    let test : nat_le (ends under) (ends piece) ≡ true = grind (arith, nat_tests) in
    rw test refl

-- from one on that ends after the piece none is
IsChain-outliving :
    (ends : ℕ → ℕ) (piece : ℕ) (entries : List Entry) (node : ℕ) (next : Option ℕ) (rest : List ℕ) → IsChain entries node next rest
    → IfSome next (λ e. ends piece < ends (entry_at entries e).piece) → IsChain entries node next (outliving ends piece rest)
IsChain-outliving ends piece entries node None rest chained after = rw (IsChain-none entries node rest chained) refl
IsChain-outliving ends piece entries node (Some e) rest chained after =
    let begun = IsBegun-chain entries node e rest chained in
    let under = (entry_at entries e).piece in
    let test : nat_le (ends under) (ends piece) ≡ false = grind (arith, nat_tests) in
    rw (begun.whole, test) (rw begun.whole at chained)

-- the front down to an entry leads to the entry under it
IsFront-next :
    (entries : List Entry) (node e : ℕ) (head over : Option ℕ) (front : List ℕ) → IsFrontTo entries node head over front → under_of entries head over ≡ Some e
    → IsFront entries node head (Some e) front
IsFront-next entries node e head None front down next = rw down next
IsFront-next entries node e head (Some o) front down next =
    let (over, whole, above, within, of_node) = down in
    rw (whole, ← next) (IsFront-more entries node o head over above within of_node)

-- a chain without the piece, where that is its first one
pub IsChain-unlinked :
    (entries : List Entry) (node e piece : ℕ) (chain : List ℕ) → IsChain entries node (Some e) chain → (entry_at entries e).piece ≡ piece
    → IsChain entries node (entry_at entries e).under (unlinked piece chain)
IsChain-unlinked entries node e piece chain chained is =
    let begun = IsBegun-chain entries node e chain chained in
    let test : ((entry_at entries e).piece == piece) ≡ true = grind (arith, nat_tests) in
    rw (begun.whole, test) begun.under

-- and where it isn't
pub IsChain-not_unlinked :
    (entries : List Entry) (node e piece : ℕ) (chain : List ℕ) → IsChain entries node (Some e) chain → (entry_at entries e).piece ≢ piece
    → IsChain entries node (Some e) (unlinked piece chain)
IsChain-not_unlinked entries node e piece chain chained isnt =
    let begun = IsBegun-chain entries node e chain chained in
    let test : ((entry_at entries e).piece == piece) ≡ false = grind (arith, nat_tests) in
    rw (begun.whole, test) (rw begun.whole at chained)

-- a piece between joined lists, as the last one of the first list
regrouped : (front : List ℕ) (piece : ℕ) (rest : List ℕ) → front ++ piece ∷ rest ≡ (front ++ piece ∷ []) ++ rest
regrouped front piece rest = rw append_assoc refl

-- the front takes in the next entry, whose piece lies over the one to link and ends before it
pub IsSplitAt-more :
    (ends : ℕ → ℕ) (piece : ℕ) (entries : List Entry) (node : ℕ) (head : Option ℕ) (chain : List ℕ) (over : Option ℕ) (e : ℕ) → IsSplitAt ends piece entries node head chain over
    → under_of entries head over ≡ Some e → piece < (entry_at entries e).piece → ends (entry_at entries e).piece < ends piece
    → IsSplitAt ends piece entries node head chain (Some e)
IsSplitAt-more ends piece entries node head chain over e split next lies_over ends_before =
    let begun = IsBegun-chain entries node e split.rest (rw next at split.under) in
    record {
      front = split.front ++ (entry_at entries e).piece ∷ [];
      rest = begun.rest;
      whole = split.whole ∙ ap (λ rest. split.front ++ rest) begun.whole ∙ regrouped split.front (entry_at entries e).piece begun.rest;
      stays =
          let under = ap (linked ends piece) begun.whole ∙ linked-under ends piece (entry_at entries e).piece begun.rest lies_over ends_before in
          split.stays ∙ ap (λ rest. split.front ++ rest) under ∙ regrouped split.front (entry_at entries e).piece (linked ends piece begun.rest);
      down = (split.front, refl, IsFront-next entries node e head over split.front split.down next, begun.within, begun.node_is);
      under = begun.under;
    }

-- an entry that the chain is split at stands in the list
pub IsSplitAt-within :
    (ends : ℕ → ℕ) (piece : ℕ) (entries : List Entry) (node : ℕ) (head : Option ℕ) (chain : List ℕ) (over : Option ℕ) → IsSplitAt ends piece entries node head chain over
    → IfSome over (λ e. e < length entries)
IsSplitAt-within ends piece entries node head chain None split = record {}
IsSplitAt-within ends piece entries node head chain (Some e) split = let (over, whole, front, within, of_node) = split.down in within

-- the chain from an entry on, where those before it end no later than the piece
pub record IsOutlived (ends : ℕ → ℕ) (piece : ℕ) (entries : List Entry) (node : ℕ) (chain : List ℕ) (next : Option ℕ) : Type 0 where
  pub front : List ℕ
  pub rest : List ℕ
  pub whole : chain ≡ front ++ rest
  pub same : outliving ends piece chain ≡ outliving ends piece rest
  pub under : IsChain entries node next rest

-- it goes on past an entry whose piece ends no later
pub IsOutlived-more :
    (ends : ℕ → ℕ) (piece : ℕ) (entries : List Entry) (node : ℕ) (chain : List ℕ) (next : Option ℕ) (e : ℕ) → IsOutlived ends piece entries node chain next
    → next ≡ Some e → ends (entry_at entries e).piece ≤ ends piece → IsOutlived ends piece entries node chain (entry_at entries e).under
IsOutlived-more ends piece entries node chain next e outlived is ended =
    let begun = IsBegun-chain entries node e outlived.rest (rw is at outlived.under) in
    record {
      front = outlived.front ++ (entry_at entries e).piece ∷ [];
      rest = begun.rest;
      whole = outlived.whole ∙ ap (λ rest. outlived.front ++ rest) begun.whole ∙ regrouped outlived.front (entry_at entries e).piece begun.rest;
      same = outlived.same ∙ ap (outliving ends piece) begun.whole ∙ outliving-ended ends piece (entry_at entries e).piece begun.rest ended;
      under = begun.under;
    }

-- from an entry on whose piece ends after it, it is the chain of those that outlive the piece
pub IsOutlived-end :
    (ends : ℕ → ℕ) (piece : ℕ) (entries : List Entry) (node : ℕ) (chain : List ℕ) (next : Option ℕ) → IsOutlived ends piece entries node chain next
    → IfSome next (λ e. ends piece < ends (entry_at entries e).piece) → IsChain entries node next (outliving ends piece chain)
IsOutlived-end ends piece entries node chain next outlived after = rw outlived.same (IsChain-outliving ends piece entries node next outlived.rest outlived.under after)

-- entries are kept where one is added
AreKept-added : (P : ℕ → Type 0) (old : List Entry) (node : ℕ) (added : Entry) → AreKept P node old (old ++ added ∷ [])
AreKept-added P old node added = (omega (arith, length-append old (added ∷ [])), λ e within _ _. get_or-append old (added ∷ []) _ e within)

-- and those with other pieces where an entry is led on to the added one
AreKept-led :
    (P : ℕ → Type 0) (old : List Entry) (node o : ℕ) (added led : Entry) → ((entry_at old o).node ≡ node → P (entry_at old o).piece → ⊥)
    → AreKept P node old (set (old ++ added ∷ []) o led)
AreKept-led P old node o added led apart =
    let pushed = AreKept-added P old node added in (
      omega (arith, length-append old (added ∷ []), length-set (old ++ added ∷ []) o led),
      λ e within of_node such.
          let differs : e ≢ o = λ is. apart (rw is at of_node) (rw is at such) in
          get_or-set_other (old ++ added ∷ []) o e led _ differs ∙ pushed.1 e within of_node such,
    )

-- chains stay where an entry is added
pub IsChain-added :
    (old new : List Entry) (added : Entry) (node : ℕ) (next : Option ℕ) (chain : List ℕ) → new ≡ old ++ added ∷ [] → IsChain old node next chain → IsChain new node next chain
IsChain-added old new added node next chain is chained =
    rw is (IsChain-kept (λ piece. ℕ) old (old ++ added ∷ []) node next chain (AreKept-added (λ piece. ℕ) old node added) (Each-always (λ piece. ℕ) chain (λ piece. 0)) chained)

-- chains of other nodes stay where an entry of the node is led on to an added one
pub IsChain-others :
    (old pushed : List Entry) (added led : Entry) (node other o : ℕ) (next : Option ℕ) (chain : List ℕ) → pushed ≡ old ++ added ∷ [] → (entry_at old o).node ≡ node → other ≢ node
    → IsChain old other next chain → IsChain (set pushed o led) other next chain
IsChain-others old pushed added led node other o next chain is of_node differs chained =
    rw is (IsChain-kept (λ piece. ℕ) old (set (old ++ added ∷ []) o led) other next chain
    (AreKept-led (λ piece. ℕ) old other o added led (λ of_other _. differs (sym of_other ∙ of_node))) (Each-always (λ piece. ℕ) chain (λ piece. 0)) chained)

-- an entry that leads on to a chain begins one
IsChain-at :
    (entries : List Entry) (node e piece : ℕ) (under : Option ℕ) (rest : List ℕ) → e < length entries → entry_at entries e ≡ record { node = node; piece = piece; under = under }
    → IsChain entries node under rest → IsChain entries node (Some e) (piece ∷ rest)
IsChain-at entries node e piece under rest within is chained =
    let of_node : (entry_at entries e).node ≡ node = rw is refl in
    let has : (entry_at entries e).piece ≡ piece = rw is refl in
    let leads : (entry_at entries e).under ≡ under = rw is refl in
    rw has at (IsChain-begun entries node e rest within of_node (rw leads chained))

-- the piece is linked over a whole chain
pub IsChain-linked_over :
    (ends : ℕ → ℕ) (old new : List Entry) (node piece : ℕ) (head under : Option ℕ) (chain : List ℕ) → IsSplitAt ends piece old node head chain None
    → IfSome head (λ e. (entry_at old e).piece ≤ piece) → ((rest : List ℕ) → IsChain old node head rest → IsChain old node under (outliving ends piece rest))
    → new ≡ old ++ record { node = node; piece = piece; under = under } ∷ [] → IsChain new node (Some (length old)) (linked ends piece chain)
IsChain-linked_over ends old new node piece head under chain split lies_under after pushed =
    let added : Entry = record { node = node; piece = piece; under = under } in
    let below = IsChain-added old new added node under (outliving ends piece split.rest) pushed (after split.rest split.under) in
    let within : length old < length (old ++ added ∷ []) = omega (arith, length-append old (added ∷ [])) in
    let is : entry_at new (length old) ≡ added = rw pushed (get_or-append_seam old added [] _) in
    let same = split.stays ∙ ap (λ front. front ++ linked ends piece split.rest) split.down ∙ linked-over ends piece old node head split.rest split.under lies_under in
    rw same (IsChain-at new node (length old) piece under (outliving ends piece split.rest) (rw pushed within) is below)

-- an entry is led on to an added one, which leads on to a chain under both
IsChain-led :
    (old : List Entry) (node piece o : ℕ) (head under : Option ℕ) (over rest below : List ℕ) → IsFront old node head (Some o) over → o < length old
    → IsFalling (over ++ (entry_at old o).piece ∷ rest) → IsChain old node under below → Each (λ lower. lower < (entry_at old o).piece) below
    → IsChain (set (old ++ record { node = node; piece = piece; under = under } ∷ []) o (record { node = node; piece = (entry_at old o).piece; under = Some (length old) }))
    node head (over ++ (entry_at old o).piece ∷ piece ∷ below)
IsChain-led old node piece o head under over rest below front within falling chained lower =
    let last = (entry_at old o).piece in
    let added : Entry = record { node = node; piece = piece; under = under } in
    let led : Entry = record { node = node; piece = last; under = Some (length old) } in
    let pushed = old ++ added ∷ [] in
    let new = set pushed o led in
    let differs = λ (other : ℕ). other ≢ last in
    let kept = AreKept-led differs old node o added led (λ _ such. such refl) in
    let above = IsFront-kept differs old new node head (Some o) over kept
    (Each-weaker (λ other. last < other) differs over (λ other after is. omega arith) (IsFalling-over over last rest falling)) front in
    let under_both = IsChain-kept differs old new node under below kept (Each-weaker (λ other. other < last) differs below (λ other before is. omega arith) lower) chained in
    let long_pushed = length-append old (added ∷ []) in
    let long = length-set pushed o led in
    let apart : length old ≢ o = omega arith in
    let added_is : entry_at new (length old) ≡ added = get_or-set_other pushed o (length old) led _ apart ∙ get_or-append_seam old added [] _ in
    let led_is : entry_at new o ≡ led = get_or-set_same pushed o led _ (omega arith) in
    let from_added = IsChain-at new node (length old) piece under below (omega arith) added_is under_both in
    IsChain-joined new node head (Some o) over (last ∷ piece ∷ below) above (IsChain-at new node o last (Some (length old)) (piece ∷ below) (omega arith) led_is from_added)

-- the piece is linked under an entry
pub IsChain-linked_under :
    (ends : ℕ → ℕ) (old pushed : List Entry) (node piece o added : ℕ) (head under : Option ℕ) (chain : List ℕ) (led : Entry) → IsSplitAt ends piece old node head chain (Some o)
    → IsFalling chain → IfSome (entry_at old o).under (λ e. (entry_at old e).piece ≤ piece)
    → ((rest : List ℕ) → IsChain old node (entry_at old o).under rest → IsChain old node under (outliving ends piece rest))
    → pushed ≡ old ++ record { node = node; piece = piece; under = under } ∷ [] → added ≡ length old → led ≡ get_or pushed o led
    → IsChain (set pushed o (record { node = led.node; piece = led.piece; under = Some added })) node head (linked ends piece chain)
IsChain-linked_under ends old pushed node piece o added head under chain led split falling lies_under after is is_last is_led =
    let (over, whole, front, within, of_node) = split.down in
    let last = (entry_at old o).piece in
    let entry : Entry = record { node = node; piece = piece; under = under } in
    let below = outliving ends piece split.rest in
    let long = length-append old (entry ∷ []) in
    let led_there : led ≡ entry_at old o =
    is_led ∙ ap (λ entries. get_or entries o led) is ∙ get_or_default (old ++ entry ∷ []) o led _ (omega arith) ∙ get_or-append old (entry ∷ []) _ o within in
    let led_node : led.node ≡ node = rw led_there of_node in
    let led_piece : led.piece ≡ last = rw led_there refl in
    let parts : chain ≡ over ++ last ∷ split.rest = split.whole ∙ ap (λ front. front ++ split.rest) whole ∙ sym (regrouped over last split.rest) in
    let falls : IsFalling (over ++ last ∷ split.rest) = subst IsFalling parts falling in
    let lower = Each-outliving ends (λ other. other < last) piece split.rest (IsFalling-right over (last ∷ split.rest) falls).0 in
    let chained = IsChain-led old node piece o head under over split.rest below front within falls (after split.rest split.under) lower in
    let same : linked ends piece chain ≡ over ++ last ∷ piece ∷ below =
    split.stays ∙ ap (λ front. front ++ linked ends piece split.rest) whole ∙ sym (regrouped over last (linked ends piece split.rest))
    ∙ ap (λ rest. over ++ last ∷ rest) (linked-over ends piece old node (entry_at old o).under split.rest split.under lies_under) in
    rw (same, is, is_last, led_node, led_piece) chained

-- an entry that a chain is split at belongs to its node
pub IsSplitAt-of_node :
    (ends : ℕ → ℕ) (piece : ℕ) (entries : List Entry) (node : ℕ) (head : Option ℕ) (chain : List ℕ) (o : ℕ) → IsSplitAt ends piece entries node head chain (Some o)
    → (entry_at entries o).node ≡ node
IsSplitAt-of_node ends piece entries node head chain o split = let (over, whole, front, within, of_node) = split.down in of_node
