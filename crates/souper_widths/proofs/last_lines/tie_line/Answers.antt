use Rattle.std.proofs.Common.{◌≡◌, ℕ, ◌+◌, ◌*◌, List, ◌++◌, true, length, replicate, sym, ap, subst, ◌∙◌}
use Rattle.std.specs.Prelude.{flat_map}
use Rattle.std.specs.List.{AllByRecursion}
use Rattle.std.proofs.lemmas.List.{length-map}
use Rattle.souper_graph.specs.declared.ast.operands.Operand.{Operand}
use Rattle.souper_graph.specs.Values.{Item}
use Rattle.souper_graph.specs.View.{view_statement}
use Rattle.souper_graph.specs.PartsView.{view_parts}
use Rattle.souper_widths.specs.declared.ties.Tie.{Tie}
use Rattle.souper_widths.specs.declared.ties.Side.TheVariants.{Node}
use Rattle.souper_widths.specs.Ties.{IsOperandBelow, operand_tie, HasSides, AddsTies, Clashes}
use Rattle.souper_widths.specs.Nodes.{ties_at}
use Rattle.souper_widths.proofs.Sides.{place-sides}
use Rattle.souper_widths.proofs.LineTies.{line-ties, line-is_below, line-is_wide}
use Rattle.souper_widths.proofs.FirstConflicts.{first-conflict, each-marked}
use Rattle.souper_widths.proofs.last_lines.tie_line.Goals as goal

pub push_operand_ties-requires-clause-below : goal.push_operand_ties-requires-clause-below
push_operand_ties-requires-clause-below c =
    let size : c.len-count.result ≡ length (view_parts c.args.parts.now).statements = c.len-count.ensures ∙ sym (length-map c.args.parts.now.statements.now view_statement) in
    subst (λ (z : ℕ). AllByRecursion (IsOperandBelow z) c.args.operands.now) (sym size)
    (line-is_below (view_parts c.args.parts.now) c.args.location c.args.operands.now c.requires.well_formed c.requires.line c.requires.own)

pub tie_all-requires-clause-sides : goal.tie_all-requires-clause-sides
tie_all-requires-clause-sides c =
    let a : Item = view_parts c.args.parts.now in
    let size : c.len-count.result ≡ length a.statements = c.len-count.ensures ∙ sym (length-map c.args.parts.now.statements.now view_statement) in
    let same : c.deref.result.now ≡ ties_at a c.args.location =
    c.deref.ensures.value ∙ c.in_ok-push_operand_ties.ensures ∙ ap (λ (z : List Tie). z ++ flat_map (λ (x : Operand). operand_tie x (Node (2 * c.len-count.result)) 0) c.args.operands.now) c.new-ties.ensures.items
    ∙ ap (λ (z : ℕ). flat_map (λ (x : Operand). operand_tie x (Node (2 * z)) 0) c.args.operands.now) size ∙ sym (line-ties a c.args.location c.args.operands.now c.requires.line c.requires.own) in
    subst (λ (z : ℕ). AllByRecursion (HasSides z) c.deref.result.now) (sym c.requires.size)
    (subst (AllByRecursion (HasSides (2 * length a.statements + 1))) (sym same) (place-sides a c.args.location c.requires.well_formed c.requires.place))

pub returns-in-Ok-clause-ok : goal.returns-in-Ok-clause-ok
returns-in-Ok-clause-ok c =
    let a : Item = view_parts c.args.parts.now in
    let size : c.len-count.result ≡ length a.statements = c.len-count.ensures ∙ sym (length-map c.args.parts.now.statements.now view_statement) in
    let same : c.deref.result.now ≡ ties_at a c.args.location =
    c.deref.ensures.value ∙ c.in_ok-push_operand_ties.ensures ∙ ap (λ (z : List Tie). z ++ flat_map (λ (x : Operand). operand_tie x (Node (2 * c.len-count.result)) 0) c.args.operands.now) c.new-ties.ensures.items
    ∙ ap (λ (z : ℕ). flat_map (λ (x : Operand). operand_tie x (Node (2 * z)) 0) c.args.operands.now) size ∙ sym (line-ties a c.args.location c.args.operands.now c.requires.line c.requires.own) in
    subst (AddsTies c.args.parents.now c.args.numbers.now c.tie_all.new.parents c.tie_all.new.numbers) same c.in-Ok.ensures.ok

pub returns-clause-err : goal.returns-clause-err
returns-clause-err c =
    let a : Item = view_parts c.args.parts.now in
    let q = c.requires in
    let ps = c.args.parents.now in
    let ns = c.args.numbers.now in
    let size : c.len-count.result ≡ length a.statements = c.len-count.ensures ∙ sym (length-map c.args.parts.now.statements.now view_statement) in
    let same : c.deref.result.now ≡ ties_at a c.args.location =
    c.deref.ensures.value ∙ c.in_ok-push_operand_ties.ensures ∙ ap (λ (z : List Tie). z ++ flat_map (λ (x : Operand). operand_tie x (Node (2 * c.len-count.result)) 0) c.args.operands.now) c.new-ties.ensures.items
    ∙ ap (λ (z : ℕ). flat_map (λ (x : Operand). operand_tie x (Node (2 * z)) 0) c.args.operands.now) size ∙ sym (line-ties a c.args.location c.args.operands.now c.requires.line c.requires.own) in (
      q.well_formed,
      (
        q.shape,
        first-conflict a (replicate (length a.statements) true) c.args.location ps ns c.in-Err.left c.in-Err.right q.well_formed q.shape (each-marked a q.well_formed) q.classes q.before q.place (line-is_wide a c.args.location q.line)
            (subst (λ (z : List Tie). Clashes ps ns z c.in-Err.left c.in-Err.right) same c.in-Err.ensures.err),
      ),
    )
