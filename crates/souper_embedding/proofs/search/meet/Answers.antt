use Rattle.std.proofs.Common.{◌≡◌, true, false, sym, ◌∙◌}
use Rattle.souper_embedding.specs.States.{stored_of, query_of}
use Rattle.souper_embedding.proofs.States.{more_walks, more-below, more-stands, more-needed, met-next, uses-inside}
use Rattle.souper_embedding.proofs.search.meet.Goals as goal

pub returns-then-bind_condition-clause-met : goal.returns-then-bind_condition-clause-met
returns-then-bind_condition-clause-met c = λ ok i j k h.
    met-next (stored_of c.args.search.now) (query_of c.args.search.now) i j c.args.to.now c.bind_condition.new.to c.walk.new.to k c.args.p c.args.q h
    (c.bind_condition.ensures.bound c.if-bind_condition.true) (c.bind_condition.ensures.sound c.if-bind_condition.true) (c.walk.ensures.walked ok)

pub returns-then-bind_condition-clause-forced : goal.returns-then-bind_condition-clause-forced
returns-then-bind_condition-clause-forced c = λ i j k f h t.
    let ss = stored_of c.args.search.now in
    let qs = query_of c.args.search.now in
    let one = c.bind_condition.ensures.forced f t.statement t.follows t.there t.is t.image (uses-inside ss qs i j c.args.to.now k c.args.p h) in
    let bound = c.bind_condition.ensures.bound one.0 in
    c.walk.ensures.forced (more_walks ss i k c.args.p) f (more-below ss i k c.args.p h.formed h.at) (more-needed ss qs i j c.args.to.now c.bind_condition.new.to k c.args.p h bound) one.1
    (more-stands ss qs i j k c.args.p f h.formed h.at t.embeds)

pub returns-else-bind_condition-clause-forced : goal.returns-else-bind_condition-clause-forced
returns-else-bind_condition-clause-forced c = λ i j k f h t.
    let ss = stored_of c.args.search.now in
    let qs = query_of c.args.search.now in
    let one = c.bind_condition.ensures.forced f t.statement t.follows t.there t.is t.image (uses-inside ss qs i j c.args.to.now k c.args.p h) in
    let n : true ≡ false = sym one.0 ∙ c.if-bind_condition.false in absurd (cc)
