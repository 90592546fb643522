use Rattle.std.proofs.Common.{◌≡◌, List, ◌∷◌, ◌++◌, [], flat_map, map, sym, ap, ◌∙◌, append_assoc, arith, rules, length-append}
use Rattle.std.proofs.lemmas.List.{append_cancel_left, flat_map_more}
use Rattle.souper_graph.specs.Values.{PlainStatement}
use Rattle.souper_graph.specs.View.{view_statement}
use Rattle.souper_code.specs.Codes.{code_of_statement}
use Rattle.souper_code.specs.Codable.{CodableStatement}
use Rattle.souper_code.proofs.Items.{all_more}
use Rattle.souper_code.proofs.Lists.{begins_more, list_only, list_none, passed}
use Rattle.souper_code.proofs.decode.Reader.statements.Goals as goal

pub returns-in_err-statement-clause-only : goal.returns-in_err-statement-clause-only
returns-in_err-statement-clause-only c = λ os rest fits e.
    passed _ c.in_err-statement.field-0.0 _ _ _ (search rules)
    (list_none code_of_statement CodableStatement _ _ _ _ _ _ c.in_ok-count.ensures.only c.loop.invariant.begins (omega (arith, c.loop.invariant.count)) c.in_err-statement.ensures.only os rest fits e)

last_is : (xs : List PlainStatement) (s t : PlainStatement) → xs ++ s ∷ [] ≡ xs ++ t ∷ [] → s ≡ t
last_is xs s t e = let same : s ∷ [] ≡ t ∷ [] = append_cancel_left xs (s ∷ []) (t ∷ []) e in cc

pub loop-preserved : goal.loop-preserved
loop-preserved c =
    let done = map view_statement c.loop.statements in
    let (s, fit, grows, front) = c.in_ok-statement.ensures.read in
    rw grows (record {
      read = c.loop.invariant.read ∙ ap (λ t. flat_map code_of_statement done ++ t) front ∙ sym (append_assoc (flat_map code_of_statement done) (code_of_statement s) _)
          ∙ ap (λ t. t ++ c.statement.new.self.rest.now) (flat_map_more code_of_statement [] done s);
      fit = all_more CodableStatement done s c.loop.invariant.fit fit;
      count = omega (arith, c.loop.invariant.count, length-append done (s ∷ []));
      begins = begins_more code_of_statement CodableStatement _ _ _ _ s _ c.loop.invariant.begins (omega (arith, c.loop.invariant.count))
          (λ t rest fits e. let only = c.in_ok-statement.ensures.only t rest fits e in (last_is done s t (sym grows ∙ only.0), only.1));
    })

pub returns-clause-only : goal.returns-clause-only
returns-clause-only c = list_only code_of_statement CodableStatement _ _ _ _ _ c.in_ok-count.ensures.only c.loop.invariant.begins (omega (arith, c.loop.invariant.count))
