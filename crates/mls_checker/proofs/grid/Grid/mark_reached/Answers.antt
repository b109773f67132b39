use Rattle.std.proofs.Common.{subst, arith}
use Rattle.mls_checker.specs.Grids.{Grid, IsGrid, either_in, none_in}
use Rattle.mls_checker.proofs.BandLists.{grid-through, reached-inside, bands-marked, bands-reached, turn-through}
use Rattle.mls_checker.proofs.grid.Grid.mark_reached.Goals as goal

pub returns-clause-marked : goal.returns-clause-marked
returns-clause-marked c x y =
    bands-marked c.args.self.now.bands _ x y
    (turn-through none_in either_in (record { rect = c.self.inside.rect; bands = c.self.inside.bands.items }) c.args.self.now c.mark_bands.new.bands c.deref_mut.result.now c.self.inside.bands.len c.deref_mut.ensures.value (omega arith) c.self.view_is c.mark_bands.ensures)

pub returns-clause-reached : goal.returns-clause-reached
returns-clause-reached c x y =
    bands-reached c.args.self.now.bands _ x y
    (turn-through none_in either_in (record { rect = c.self.inside.rect; bands = c.self.inside.bands.items }) c.args.self.now c.mark_bands.new.bands c.deref_mut.result.now c.self.inside.bands.len c.deref_mut.ensures.value (omega arith) c.self.view_is c.mark_bands.ensures)

pub invariant_of-self : goal.invariant_of-self
invariant_of-self c =
    grid-through none_in either_in (record { rect = c.self.inside.rect; bands = c.self.inside.bands.items }) c.mark_bands.new.bands c.deref_mut.result.now c.self.inside.bands.len c.deref_mut.ensures.value (omega arith) c.mark_bands.ensures c.self.invariant

pub returns-clause-legal : goal.returns-clause-legal
returns-clause-legal c = (subst (λ (g : Grid). IsGrid g) c.self.view_is c.self.invariant).legal

pub returns-clause-within : goal.returns-clause-within
returns-clause-within c x y reached = reached-inside c.args.self.now x y (subst (λ (g : Grid). IsGrid g) c.self.view_is c.self.invariant) reached
