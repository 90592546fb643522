use Rattle.souper_graph.proofs.ast.builders.Builder.assignment.Goals as goal

pub invariant_of-self-2 : goal.invariant_of-self-2
invariant_of-self-2 g c = c.append.ensures.known c.self.inside.taken c.self.invariant
