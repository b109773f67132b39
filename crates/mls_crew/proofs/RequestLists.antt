-- The requests of one session, and what they give, one more at a time.
use Rattle.std.proofs.Common.{◌≡◌, ◌≢◌, ◌++◌, ◌+◌, ◌<◌, ◌==◌, ℕ, true, false, if◌then◌else◌, suc, List, [], ◌∷◌, map, get_or, length, take, take-suc, append-nil, append_assoc, refl, sym, ap, ◌∙◌, subst, arith}
use Rattle.std.proofs.lemmas.List.{map-append}
use Rattle.std.proofs.lemmas.List.Elements.{filter-append}
use Rattle.std.proofs.lemmas.Bool.Decides.{nat_tests}
use Rattle.std.specs.List.{filter}
use Rattle.mls_seat_lines.specs.mls_session.OwnSteps.{Terms}
use Rattle.mls_seat_lines.specs.mls_session.declared.journal.Said.{Said}
use Rattle.mls_seat_lines.specs.mls_wire.NameBooks.{Names}
use Rattle.mls_seat_lines.specs.Requests.{ServesRequest}
use Rattle.mls_crew.specs.Groups.{ServesRequests, requests_handed}
use Rattle.mls_crew.specs.declared.handed.Handed.{Handed}
use Rattle.mls_seat_lines.specs.declared.request.Request.{Request}

requests_handed-one : (session : ℕ) (handed : Handed) → requests_handed session (handed ∷ []) ≡ (if handed.session == session then handed.request ∷ [] else [])
requests_handed-one session handed =
    elim (handed.session == session) as (λ b. map (λ (line : Handed). line.request) (if b then handed ∷ [] else []) ≡ (if b then handed.request ∷ [] else [])) [ true ↦ refl | false ↦ refl ]

requests_handed-next :
    (session : ℕ) (lines : List Handed) (index : ℕ) (handed : Handed) → index < length lines → handed ≡ get_or lines index handed
    → requests_handed session (take (index + 1) lines) ≡ requests_handed session (take index lines) ++ (if handed.session == session then handed.request ∷ [] else [])
requests_handed-next session lines index handed within is =
    let test = λ (line : Handed). line.session == session in
    let one : index + 1 ≡ suc index = omega arith in
    let here = get_or lines index handed in
    ap (λ count. requests_handed session (take count lines)) one ∙ ap (requests_handed session) (take-suc lines index handed within)
    ∙ ap (map (λ (line : Handed). line.request)) (filter-append test (take index lines) (here ∷ []))
    ∙ map-append (λ (line : Handed). line.request) (filter test (take index lines)) (filter test (here ∷ []))
    ∙ ap (λ l. requests_handed session (take index lines) ++ l) (requests_handed-one session here)
    ∙ ap (λ (h : Handed). requests_handed session (take index lines) ++ (if h.session == session then h.request ∷ [] else [])) (sym is)

requests_handed-mine :
    (session : ℕ) (lines : List Handed) (index : ℕ) (handed : Handed) → index < length lines → handed ≡ get_or lines index handed → handed.session ≡ session
    → requests_handed session (take (index + 1) lines) ≡ requests_handed session (take index lines) ++ handed.request ∷ []
requests_handed-mine session lines index handed within is mine =
    let yes : (handed.session == session) ≡ true = grind (arith, nat_tests) in
    requests_handed-next session lines index handed within is ∙ ap (λ b. requests_handed session (take index lines) ++ (if b then handed.request ∷ [] else [])) yes

requests_handed-other :
    (session : ℕ) (lines : List Handed) (index : ℕ) (handed : Handed) → index < length lines → handed ≡ get_or lines index handed → handed.session ≢ session
    → requests_handed session (take (index + 1) lines) ≡ requests_handed session (take index lines)
requests_handed-other session lines index handed within is other =
    let no : (handed.session == session) ≡ false = grind (arith, nat_tests) in
    requests_handed-next session lines index handed within is ∙ ap (λ b. requests_handed session (take index lines) ++ (if b then handed.request ∷ [] else [])) no
    ∙ append-nil (requests_handed session (take index lines))

module _ (terms : Terms) (book : Names) (name : List ℕ) where
  pub ServesRequests-snoc :
      (said mid last : List Said) (lines : List Request) (out : List ℕ) (line : Request) (text : List ℕ) → ServesRequests terms book name said lines out mid
      → ServesRequest terms book name mid line text last → ServesRequests terms book name said (lines ++ line ∷ []) (out ++ text) last
  ServesRequests-snoc said mid last [] out line text (none, same) serves = (
    text,
    last,
    [],
    subst (λ (s : List Said). ServesRequest terms book name s line text last) same serves,
    (refl, refl),
    ap (λ (o : List ℕ). o ++ text) none ∙ sym (append-nil text),
  )
  ServesRequests-snoc said mid last (first ∷ lines) out line text (t, now, rest, begins, ran, split) serves = (
    t,
    now,
    rest ++ text,
    begins,
    ServesRequests-snoc now mid last lines rest line text ran serves,
    ap (λ (o : List ℕ). o ++ text) split ∙ append_assoc t rest text,
  )

  module _ (session : ℕ) (lines : List Handed) (index : ℕ) (handed : Handed) (within : index < length lines) (is : handed ≡ get_or lines index handed) where
    pub serves_mine :
        (said mid last : List Said) (out text : List ℕ) → handed.session ≡ session → ServesRequests terms book name said (requests_handed session (take index lines)) out mid
        → ServesRequest terms book name mid handed.request text last → ServesRequests terms book name said (requests_handed session (take (index + 1) lines)) (out ++ text) last
    serves_mine said mid last out text mine ran serves =
        subst (λ (done : List Request). ServesRequests terms book name said done (out ++ text) last) (sym (requests_handed-mine session lines index handed within is mine))
        (ServesRequests-snoc said mid last (requests_handed session (take index lines)) out handed.request text ran serves)

    pub serves_other :
        (said last : List Said) (out : List ℕ) → handed.session ≢ session → ServesRequests terms book name said (requests_handed session (take index lines)) out last
        → ServesRequests terms book name said (requests_handed session (take (index + 1) lines)) out last
    serves_other said last out other ran =
        subst (λ (done : List Request). ServesRequests terms book name said done out last) (sym (requests_handed-other session lines index handed within is other)) ran

-- no request was served yet
pub none_yet : (said : List Said) → length said ≡ 0 → said ≡ []
none_yet [] is = refl
none_yet (one ∷ said) is = absurd (omega (arith, is))
