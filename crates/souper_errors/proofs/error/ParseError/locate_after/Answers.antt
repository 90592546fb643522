use Rattle.souper_errors.proofs.error.ParseError.locate_after.Goals as goal

pub returns-in-Parse-clause-located : goal.returns-in-Parse-clause-located
returns-in-Parse-clause-located c = rw c.in-Parse.is (rw c.in-Parse.is at c.locate_after.ensures.placed)
