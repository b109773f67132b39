use Rattle.mls_crew.proofs.threads.serve_all.Goals as goal

pub joined-served-requires-clause-wanted : goal.joined-served-requires-clause-wanted
joined-served-requires-clause-wanted g c = rw c.in_ok-served.ensures.part c.start_seats-started.ensures.wanted

pub returns : goal.returns
returns g c = λ ok. (rw c.in_ok-served.ensures.part at c.joined-served.ensures) c.in_ok-started.ensures.all ok
