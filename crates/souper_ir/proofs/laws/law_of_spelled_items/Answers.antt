use Rattle.souper_ir.proofs.Items.WellFormed.{text_closed}
use Rattle.souper_ir.proofs.laws.law_of_spelled_items.Goals as goal

pub returns : goal.returns
returns c = λ k bs items spelled. text_closed k items bs spelled
