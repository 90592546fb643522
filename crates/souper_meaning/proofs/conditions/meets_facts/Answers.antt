use Rattle.std.proofs.Common.{◌^◌, ◌<◌, ◌↔◌, map, sym, subst}
use Rattle.std.specs.Prelude.{IsTrue}
use Rattle.souper_graph.specs.View.{view_attribute}
use Rattle.souper_words.specs.declared.outcome.Outcome.{Outcome}
use Rattle.souper_words.specs.Outcomes.{number_or}
use Rattle.souper_meaning.specs.Sound.{MeetsFacts}
use Rattle.souper_meaning.proofs.conditions.meets_facts.Goals as goal

pub hold_of-requires-clause-fits : goal.hold_of-requires-clause-fits
hold_of-requires-clause-fits c = subst (λ (o : Outcome). number_or 0 o < 2 ^ c.args.width) c.in-Number.is c.requires.fits

pub returns-in-Number : goal.returns-in-Number
returns-in-Number c =
    subst (λ (o : Outcome). IsTrue c.hold_of.result ↔ MeetsFacts c.args.width o (map view_attribute c.args.attributes.now)) (sym c.in-Number.is) c.hold_of.ensures
