use Rattle.std.proofs.lemmas.Result.{IfOk-weaker}
use Rattle.souper_graph.specs.View.{view_replacement}
use Rattle.souper_graph.specs.Syntax.Spelling.{replacement}
use Rattle.souper_graph.proofs.Judging.Needed.{well_formed_below}
use Rattle.souper_lookup.proofs.Answering.{key-is}
use Rattle.souper_find.proofs.texts.text_of.Goals as goal

pub returns-then-not-rename : goal.returns-then-not-rename
returns-then-not-rename c = λ w. rw c.if-not-rename.true (IfOk-weaker c.to_text.result _ _ (λ text t. t.canonical (well_formed_below (view_replacement c.args.item.now) w)) c.to_text.ensures.printed)

pub returns : goal.returns
returns c = λ w. rw c.if-not-rename.false (IfOk-weaker c.to_text-2.result _ _ (λ text t. key-is replacement (view_replacement c.args.item.now) (view_replacement c.in_ok-copy.copy) _ c.in_ok-copy.ensures.named t w) c.to_text-2.ensures.printed)
