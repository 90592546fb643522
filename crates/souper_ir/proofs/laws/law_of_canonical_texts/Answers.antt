use Rattle.souper_ir.proofs.Items.OneText.{texts_exact, texts_spell, texts_defined, one_text, one_text_up_to_names}
use Rattle.souper_ir.proofs.laws.law_of_canonical_texts.Goals as goal

pub returns : goal.returns
returns c = record {
  exact = λ k items others h. (texts_exact k items others h, texts_spell k items others h);
  defined = texts_defined;
  one_text = one_text;
  renamed = one_text_up_to_names;
}
