use Rattle.mls_tile_tests.proofs.tests.sheet.Sheet.build_beside.Goals as goal

pub invariant_of-self-2 : goal.invariant_of-self-2
invariant_of-self-2 c =
    c.release.ensures c.self.inside.plane (c.in_ok-beside.ensures.apart _ c.self.invariant) (c.in_ok-beside.ensures.others _ c.self.invariant)
