use Rattle.std.proofs.Common.{◌^◌, ◌<◌, sym, subst, ◌∙◌}
use Rattle.mls_kinds.proofs.KindSetLemmas.{set_of-lt}
use Rattle.mls_wire.proofs.TypeLists.{types_from-all, types_from-next}
use Rattle.mls_wire.proofs.parse.types_of.Goals as goal

pub loop-name-preserved : goal.loop-name-preserved
loop-name-preserved g c = record {
  so_far =
      c.loop-name.invariant.so_far
      ∙ types_from-next (g.N.Names.book c.args.names.now) c.loop-name.name-iterator c.next.new.self c.in-Some.name.now c.loop-name.types c.in_ok-type_of.field-0
      c.insert.new.self c.in-Some.ensures.steps c.in_ok-type_of.ensures.value c.insert.ensures.set;
  fits = subst (λ set. set < 2 ^ 64) (sym c.insert.ensures.set) (set_of-lt _);
}

pub returns : goal.returns
returns g c =
    types_from-all (g.N.Names.book c.args.names.now) c.loop-name.name-iterator c.loop-name.types _ c.in-None.ensures.steps.0 c.loop-name.invariant.fits
    c.loop-name.invariant.so_far
