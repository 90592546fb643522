use Rattle.std.proofs.Common.{refl}
use Rattle.souper_graph.proofs.RoundTrip.ReadBack.{texts-read-back, text-again, renumbered-closed, renumbered-needed, same-graph-text, unneeded-text}
use Rattle.souper_graph.specs.Endings.{replacement_ending}
use Rattle.souper_graph.proofs.RoundTrip.Conditions.{condition-lines, rearranged-text}
use Rattle.souper_graph.proofs.laws.law_of_canonical_texts.Goals as goal

pub returns : goal.returns
returns c = record {
  reads_back = texts-read-back;
  again = text-again;
  defined = λ a w. (renumbered-closed a w, renumbered-needed a w);
  conditions = condition-lines;
  same_graph = same-graph-text;
  unneeded = unneeded-text;
  rearranged = rearranged-text;
  types = ((λ l. refl), (λ r. refl), replacement_ending);
}
