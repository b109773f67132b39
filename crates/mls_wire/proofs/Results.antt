-- Facts on results.
use Rattle.std.proofs.Common.{◌≡◌, ℕ, ◌+◌, ◌<◌, ◌≤◌, cond, List, ◌++◌, length, length-append, arith, Result, Ok, Err, OnErr, OnOk, IfErr, sym, subst, ap, ◌∙◌, append_assoc}
use Rattle.std.specs.Result.{IsErr, IsErrAnd, is_ok}

-- what holds anyway holds at an error
pub on_err : {T E : Type 0} (r : Result T E) (P : Type 0) → P → OnErr r P
on_err (Ok x) P p = tt
on_err (Err e) P p = p

-- the result is this error
pub if_err : {T E : Type 0} (r : Result T E) (e : E) (P : E → Type 0) → IsErr r × IsErrAnd r (λ given. given ≡ e) → P e → IfErr r P
if_err (Ok x) e P h p = tt
if_err (Err given) e P h p = subst P (sym h.1) p

-- what holds of an error leads to another fact on it
pub if_err-map : {T E : Type 0} (r : Result T E) (P Q R : E → Type 0) → ((e : E) → P e → Q e → R e) → IfErr r P → IfErr r Q → IfErr r R
if_err-map (Ok x) P Q R f p q = tt
if_err-map (Err e) P Q R f p q = f e p q

-- what holds of a value leads to another fact on it
pub on_ok-map : {T E : Type 0} (r : Result T E) (P Q : Type 0) → (P → Q) → OnOk r P → OnOk r Q
on_ok-map (Ok x) P Q f p = f p
on_ok-map (Err e) P Q f p = tt

-- one text more, which is appended at a value alone
pub on_ok-appended : {T E : Type 0} (r : Result T E) (old mid new xs ys : List ℕ) → mid ≡ old ++ xs → new ≡ cond (is_ok r) (mid ++ ys) mid → OnOk r (new ≡ old ++ (xs ++ ys))
on_ok-appended (Ok x) old mid new xs ys so more = more ∙ ap (λ l. l ++ ys) so ∙ append_assoc old xs ys
on_ok-appended (Err e) old mid new xs ys so more = tt

-- one text more, at a value
pub on_ok-next : {T E : Type 0} (r : Result T E) (old mid new xs ys : List ℕ) → mid ≡ old ++ xs → OnOk r (new ≡ mid ++ ys) → OnOk r (new ≡ old ++ (xs ++ ys))
on_ok-next (Ok x) old mid new xs ys so more = more ∙ ap (λ l. l ++ ys) so ∙ append_assoc old xs ys
on_ok-next (Err e) old mid new xs ys so more = tt

-- where the second text has no room, both have none
pub on_err-next : {T E : Type 0} (r : Result T E) (old mid xs ys : List ℕ) (capacity grown len length_now : ℕ) → mid ≡ old ++ xs → len ≡ length old → length_now ≡ length mid
    → capacity ≤ grown → OnErr r (grown < length_now + length ys) → OnErr r (capacity < len + length (xs ++ ys))
on_err-next (Ok x) old mid xs ys capacity grown len length_now so before after grows lacks = tt
on_err-next (Err e) old mid xs ys capacity grown len length_now so before after grows lacks =
    omega (arith, ap length so, length-append old xs, length-append xs ys, before, after, grows, lacks)
