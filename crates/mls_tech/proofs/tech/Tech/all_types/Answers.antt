use Rattle.std.proofs.Common.{ℕ, Bool, nat_le, length, ◌∙◌, arith}
use Rattle.std.proofs.lemmas.Bool.{le-leb}
use Rattle.mls_tech.proofs.TypeTests.{set_of-below_none, set_of-below_more, set_of-below_all, not_a_type}
use Rattle.mls_tech.proofs.tech.Tech.all_types.Goals as goal

pub loop-number-init : goal.loop-number-init
loop-number-init c = c.empty-set.ensures ∙ set_of-below_none (λ kind. nat_le kind (length c.args.self.now.type_planes))

pub loop-number-preserved : goal.loop-number-preserved
loop-number-preserved c =
    let is_type : ℕ → Bool = λ kind. nat_le kind (length c.args.self.now.type_planes) in
    let more = set_of-below_more is_type c.loop-number.number (le-leb _ _ (omega (arith, c.kinds-number-end.ensures.value))) in
    rw (c.union-set.ensures, c.loop-number.invariant, c.single.ensures, c.new.ensures) more

pub returns : goal.returns
returns c =
    c.loop-number.invariant
    ∙ set_of-below_all (λ kind. nat_le kind (length c.args.self.now.type_planes)) c.loop-number.number (λ kind past. not_a_type _ kind (omega (arith, c.kinds-number-end.ensures.value)))
