use Rattle.std.proofs.Common.{◌≡◌, ℕ, ◌+◌, ◌*◌, ◌<◌, List, ◌++◌, true, length, replicate, sym, ap, subst, ◌∙◌, arith}
use Rattle.std.specs.List.{AllByRecursion}
use Rattle.std.specs.Prelude.{slice_get}
use Rattle.std.proofs.lemmas.List.{length-map}
use Rattle.souper_graph.specs.declared.ast.flaws.FlawLocation.TheVariants.{Statement}
use Rattle.souper_graph.specs.Values.{PlainStatement, Item}
use Rattle.souper_graph.specs.View.{view_statement}
use Rattle.souper_graph.specs.PartsView.{view_parts}
use Rattle.souper_graph.proofs.Judging.Needed.{well_formed_inside}
use Rattle.souper_widths.specs.declared.ties.Tie.{Tie}
use Rattle.souper_widths.specs.Table.{operands_in}
use Rattle.souper_widths.specs.Flaws.{IsNarrowPairStatement, IsNarrowPair, IsFirstConflict}
use Rattle.souper_widths.specs.Ties.{HasSides, AddsTies, Clashes, statement_ties}
use Rattle.souper_widths.specs.Nodes.{ties_at}
use Rattle.souper_widths.proofs.MetOperands.{statement-met}
use Rattle.souper_widths.proofs.Sides.{operands-are_below, place-sides}
use Rattle.souper_widths.proofs.FirstConflicts.{narrow-conflict, first-conflict, each-marked}
use Rattle.souper_widths.proofs.ClassSteps.{classes-next, ties-are}
use Rattle.souper_widths.proofs.conflicts.tie_statement.Goals as goal

pub returns-then-is_narrow_pair-clause-err : goal.returns-then-is_narrow_pair-clause-err
returns-then-is_narrow_pair-clause-err c =
    let a : Item = view_parts c.args.parts.now in
    let p : ℕ = c.args.position in
    let q = c.requires in
    let narrow : IsNarrowPair a (Statement p) = subst IsNarrowPairStatement (sym q.stands) (c.is_narrow_pair.ensures.0 c.if-is_narrow_pair.true) in (
      q.well_formed,
      (
        q.shape,
        subst (λ (z : ℕ). IsFirstConflict a (Statement z) 0 1) (sym c.at.ensures)
            (narrow-conflict a (replicate (length a.statements) true) p c.args.parents.now c.args.numbers.now q.well_formed q.shape (each-marked a q.well_formed) q.classes q.before q.needed narrow),
      ),
    )

pub push_statement_ties-requires-clause-below : goal.push_statement_ties-requires-clause-below
push_statement_ties-requires-clause-below c =
    let a : Item = view_parts c.args.parts.now in
    let p : ℕ = c.args.position in
    let s : PlainStatement = view_statement c.args.statement.now in
    let size : c.len.result ≡ length a.statements = c.len.ensures ∙ sym (length-map c.args.parts.now.statements.now view_statement) in
    let inside : p < length a.statements = well_formed_inside a c.requires.well_formed p c.requires.needed in
    operands-are_below a c.len.result p (operands_in s) (omega (arith, size, inside)) (statement-met a p s c.requires.well_formed c.requires.needed c.requires.stands)

pub push_statement_ties-requires-clause-within : goal.push_statement_ties-requires-clause-within
push_statement_ties-requires-clause-within c =
    let a : Item = view_parts c.args.parts.now in
    let size : c.len.result ≡ length a.statements = c.len.ensures ∙ sym (length-map c.args.parts.now.statements.now view_statement) in
    omega (arith, size, well_formed_inside a c.requires.well_formed c.args.position c.requires.needed)

pub tie_all-requires-clause-sides : goal.tie_all-requires-clause-sides
tie_all-requires-clause-sides c =
    let a : Item = view_parts c.args.parts.now in
    let p : ℕ = c.args.position in
    let s : PlainStatement = view_statement c.args.statement.now in
    let same : c.deref.result.now ≡ ties_at a (Statement p) =
    c.deref.ensures.value ∙ c.in_ok-push_statement_ties.ensures ∙ ap (λ (z : List Tie). z ++ statement_ties p s) c.clear.ensures.items ∙ sym (ties-are p s (slice_get a.statements p) c.requires.stands) in
    subst (λ (z : ℕ). AllByRecursion (HasSides z) c.deref.result.now) (sym c.requires.size)
    (subst (AllByRecursion (HasSides (2 * length a.statements + 1))) (sym same) (place-sides a (Statement p) c.requires.well_formed c.requires.needed))

pub returns-in-Ok-clause-ok : goal.returns-in-Ok-clause-ok
returns-in-Ok-clause-ok c =
    let a : Item = view_parts c.args.parts.now in
    let p : ℕ = c.args.position in
    let s : PlainStatement = view_statement c.args.statement.now in
    let ps = c.args.parents.now in
    let ns = c.args.numbers.now in
    let same : c.deref.result.now ≡ ties_at a (Statement p) =
    c.deref.ensures.value ∙ c.in_ok-push_statement_ties.ensures ∙ ap (λ (z : List Tie). z ++ statement_ties p s) c.clear.ensures.items ∙ sym (ties-are p s (slice_get a.statements p) c.requires.stands) in
    let wide : ¬ IsNarrowPair a (Statement p) = (λ n. let t = c.is_narrow_pair.ensures.1 (subst IsNarrowPairStatement c.requires.stands n) in absurd (cc (t, c.if-is_narrow_pair.false))) in
    classes-next a p ps ns c.tie_all.new.parents c.tie_all.new.numbers c.requires.before c.requires.needed wide
    (subst (AddsTies ps ns c.tie_all.new.parents c.tie_all.new.numbers) same c.in-Ok.ensures.ok)

pub returns-in-Err-clause-err : goal.returns-in-Err-clause-err
returns-in-Err-clause-err c =
    let a : Item = view_parts c.args.parts.now in
    let p : ℕ = c.args.position in
    let s : PlainStatement = view_statement c.args.statement.now in
    let q = c.requires in
    let ps = c.args.parents.now in
    let ns = c.args.numbers.now in
    let same : c.deref.result.now ≡ ties_at a (Statement p) =
    c.deref.ensures.value ∙ c.in_ok-push_statement_ties.ensures ∙ ap (λ (z : List Tie). z ++ statement_ties p s) c.clear.ensures.items ∙ sym (ties-are p s (slice_get a.statements p) c.requires.stands) in
    let wide : ¬ IsNarrowPair a (Statement p) = (λ n. let t = c.is_narrow_pair.ensures.1 (subst IsNarrowPairStatement c.requires.stands n) in absurd (cc (t, c.if-is_narrow_pair.false))) in (
      q.well_formed,
      (
        q.shape,
        subst (λ (z : ℕ). IsFirstConflict a (Statement z) c.in-Err.left c.in-Err.right) (sym c.at.ensures)
            (first-conflict a (replicate (length a.statements) true) (Statement p) ps ns c.in-Err.left c.in-Err.right q.well_formed q.shape (each-marked a q.well_formed) q.classes q.before q.needed wide
            (subst (λ (z : List Tie). Clashes ps ns z c.in-Err.left c.in-Err.right) same c.in-Err.ensures.err)),
      ),
    )
