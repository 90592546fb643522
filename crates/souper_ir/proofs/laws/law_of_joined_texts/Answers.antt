use Rattle.souper_ir.proofs.Items.Joining.{tokens_join, items_join}
use Rattle.souper_ir.proofs.Items.Parting.{tokens_part}
use Rattle.souper_ir.proofs.laws.law_of_joined_texts.Goals as goal

pub returns : goal.returns
returns c = record { tokens = tokens_join; parts = tokens_part; items = items_join }
