-- One rule more in the array.
use Rattle.std.proofs.Common.{◌≡◌, ℕ, suc, ◌+◌, ◌-◌, ◌<◌, List, [], ◌∷◌, ◌++◌, length, take, slice_set, refl, sym, ap, ◌∙◌, arith, append_assoc, length-append, add-one}
use Rattle.std.specs.Prelude.{replicate}
use Rattle.std.proofs.Math.Seq.{set-append_seam, take-suc-set}
use Rattle.std.proofs.lemmas.List.{length-replicate}
use Rattle.mls_edgerule.specs.RuleLists.{no_rule, padded, KeepsRules}
use Rattle.mls_edgerule.specs.declared.edge_rule.EdgeRule.{EdgeRule}
use Rattle.mls_edgerule.proofs.rules.Rules.push.Goals as goal

-- a rule fills the place after the others
padded-set : (rules : List EdgeRule) (rule : EdgeRule) → length rules < 128 → slice_set (padded rules) (length rules) rule ≡ padded (rules ++ rule ∷ [])
padded-set rules rule room =
    let places : 128 - length rules ≡ suc (127 - length rules) = omega arith in
    let left : 128 - length (rules ++ rule ∷ []) ≡ 127 - length rules = omega (arith, length-append rules (rule ∷ [])) in
    rw (places, left) (set-append_seam rules no_rule (replicate (127 - length rules) no_rule) rule ∙ sym (append_assoc rules (rule ∷ []) (replicate (127 - length rules) no_rule)))

taken_more : (rules : List EdgeRule) (len : ℕ) (rule : EdgeRule) → len < length rules → take (len + 1) (slice_set rules len rule) ≡ take len rules ++ rule ∷ []
taken_more rules len rule inside = rw add-one (take-suc-set rules len rule inside)

kept-length : (rules : List EdgeRule) (len : ℕ) → KeepsRules rules len → length rules ≡ 128
kept-length rules len kept = sym (ap length kept.rest) ∙ simp (length-append, length-replicate) (omega (arith, kept.taken, kept.within))

kept_more : (rules : List EdgeRule) (len : ℕ) (rule : EdgeRule) → KeepsRules rules len → len < 128 → KeepsRules (slice_set rules len rule) (len + 1)
kept_more rules len rule kept room =
    let inside : len < length rules = omega (arith, kept-length rules len kept) in
    let more = taken_more rules len rule inside in
    let few : length (take len rules) < 128 = omega (arith, kept.taken) in
    let filled = padded-set (take len rules) rule few in
    record {
      within = omega arith;
      taken = rw more (length-append (take len rules) (rule ∷ []) ∙ omega (arith, kept.taken));
      rest = ap padded more ∙ sym filled ∙ rw (kept.rest, kept.taken) refl;
    }

pub invariant_of-self : goal.invariant_of-self
invariant_of-self c = kept_more _ _ _ c.self.invariant (omega (arith, ap length c.self.view_is, c.self.invariant.taken))
