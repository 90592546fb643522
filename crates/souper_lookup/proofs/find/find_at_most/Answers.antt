use Rattle.souper_lookup.proofs.find.find_at_most.Goals as goal

pub returns-clause-found : goal.returns-clause-found
returns-clause-found c = λ wq entries h. c.find_by_key.ensures.found wq (c.in_ok-key.ensures.well_formed wq) (c.in_ok-key.ensures.text wq) entries h

pub returns-clause-memory : goal.returns-clause-memory
returns-clause-memory c = λ wq entries h. c.find_by_key.ensures.memory wq (c.in_ok-key.ensures.well_formed wq) (c.in_ok-key.ensures.text wq) entries h
