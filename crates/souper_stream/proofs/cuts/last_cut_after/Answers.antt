use Rattle.std.proofs.Common.{◌∙◌, arith, length-drop}
use Rattle.std.proofs.lemmas.List.{take_rest}
use Rattle.souper_stream.proofs.Cutting.{placed_more, none_after}
use Rattle.souper_stream.proofs.cuts.last_cut_after.Goals as goal

pub loop-len-preserved : goal.loop-len-preserved
loop-len-preserved g c =
    let text = c.args.text.now in
    let cut = c.loop-len.cut in
    let inv = c.loop-len.invariant in
    record {
      within = omega (arith, inv.within, c.in-Some.ensures.within);
      placed = λ ls e lines. placed_more _ _ _ _ _ e lines (inv.placed ls e lines) c.in-Some.len (λ ms f h. c.in-Some.ensures.cut ms (take_rest text cut ∙ f) h) (omega (arith, c.in-Some.ensures.within, length-drop cut text));
    }

pub returns-clause-last : goal.returns-clause-last
returns-clause-last g c = λ utf8 at ls e lines.
    none_after _ _ _ _ _ e lines (c.loop-len.invariant.placed ls e lines) utf8 at (λ ms f h. c.in_default.ensures.none ms (take_rest c.args.text.now c.loop-len.cut ∙ f) h)
