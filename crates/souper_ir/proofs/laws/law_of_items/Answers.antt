use Rattle.souper_ir.proofs.Items.Lists.{text_alone}
use Rattle.souper_ir.proofs.laws.law_of_items.Goals as goal

pub returns : goal.returns
returns c = text_alone
