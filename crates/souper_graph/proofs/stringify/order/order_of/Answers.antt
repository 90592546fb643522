use Rattle.std.proofs.Common.{◌≡◌, ◌<◌, ◌≤◌, inl, inr, List, map, length, true, sym, ap, subst, ◌∙◌, arith, get_or}
use Rattle.std.proofs.Math.ListN.{set}
use Rattle.std.proofs.lemmas.Bool.{cases_lt}
use Rattle.std.proofs.lemmas.Result.{err_from_is_err_and}
use Rattle.std.proofs.lemmas.List.{length-map, length_push}
use Rattle.souper_graph.specs.declared.stringify.order.Target.{Target}
use Rattle.souper_graph.specs.View.{view_statement}
use Rattle.souper_graph.proofs.Order.Loops.{start_at, mark_there, walk_next, dropped_next, finished_next, entered_next, entered_smaller, popped_none, lead_start, lead_next, lead_needs_start, lead_needs_pushed, lead_needs_next, refused_names, ordered_item}
use Rattle.souper_graph.proofs.stringify.order.order_of.Goals as goal
use Rattle.souper_graph.proofs.stringify.order.order_of.Goals.{then-k-walks, else-k-walks}

pub loop-k-init : goal.loop-k-init
loop-k-init c = (
  c.in_ok-stack.ensures.items,
  start_at _ _ _ _ _ c.in_ok-stack.ensures.items c.in_ok-marks.ensures (c.len.ensures ∙ sym (length-map c.args.statements.now view_statement)) (c.reserve.ensures.items ∙ c.requires),
  omega arith,
  lead_start _ c.args.walks.now.targets.items c.args.walks.now.before,
  λ h. sym (ap length (c.reserve.ensures.items ∙ c.requires)),
  lead_needs_start _ c.args.walks.now.targets.items c.args.walks.now.before c.reserve.new.self.items,
)

pub loop-entry-init : goal.loop-entry-init
loop-entry-init c = (
  walk_next _ c.args.walks.now.targets.items c.loop-k.k _ _ _ _ _ _ c.loop-k.invariant.1 c.loop-k.invariant.0
      (subst (λ (z : List Target). c.loop-k.k < length z) c.deref-walk-items.ensures.value c.loop-k-test.true)
      (c.walk-item.is ∙ ap (λ (z : List Target). get_or z c.loop-k.k c.walk-item.result) c.deref-walk-items.ensures.value) c.in_ok-push.ensures.items,
  c.loop-k.invariant.2,
  c.loop-k.invariant.5,
)

pub loop-entry-preserved-in-Continue-branch-5 : goal.loop-entry-preserved-in-Continue-branch-5
loop-entry-preserved-in-Continue-branch-5 c = (
  finished_next _ _ _ _ _ _ _ _ _ _ _ c.loop-entry.invariant.0 c.in-Some.ensures.items c.in-Finished.is c.in_ok-push-in-Finished.ensures.items c.saturating_add-turns.ensures,
  (let longer = ap length c.in_ok-push-in-Finished.ensures.items ∙ length_push c.loop-entry.ids.items c.in-Finished.id in
      let within = c.loop-entry.invariant.1 in
      omega arith),
  lead_needs_pushed _ c.args.walks.now.targets.items c.loop-k.k c.args.walks.now.before _ _ _ _ c.loop-entry.invariant.2 c.loop-entry.invariant.1 c.in_ok-push-in-Finished.ensures.items,
)

pub returns-in_err-statement-in-Trace-clause-refused : goal.returns-in_err-statement-in-Trace-clause-refused
returns-in_err-statement-in-Trace-clause-refused c a w =
    let fault = refused_names a _ _ _ _ _ _ _ _ _ _ _ _ w c.loop-entry.invariant.0 c.in-Some.ensures.items c.in-Trace.is c.in_err-statement-in-Trace.ensures.err in
    let p = err_from_is_err_and c.from_residual-in_err-statement-in-Trace.result c.from_residual-in_err-statement-in-Trace.ensures.1 in
    rw (p.1, p.2) fault

pub is_marked-requires : goal.is_marked-requires
is_marked-requires c =
    mark_there c.args.statements.now _ _ c.loop-entry.marks _ _ c.index.result _ c.in_ok-statement-in-Trace.statement.now c.loop-entry.invariant.0
    c.in_ok-statement-in-Trace.ensures.there (c.index.ensures ∙ c.position-id.ensures)

pub mark-requires : goal.mark-requires
mark-requires c =
    mark_there c.args.statements.now _ _ c.loop-entry.marks _ _ c.index-then-not-is_marked.result _ c.in_ok-statement-in-Trace.statement.now c.loop-entry.invariant.0
    c.in_ok-statement-in-Trace.ensures.there (c.index-then-not-is_marked.ensures ∙ c.position-id.ensures)

pub loop-entry-smaller-in-Continue-branch-8 : goal.loop-entry-smaller-in-Continue-branch-8
loop-entry-smaller-in-Continue-branch-8 c =
    entered_smaller c.args.statements.now _ _ _ _ _ _ _ _ _ _ _ _ c.in-Trace.target _ _ c.loop-entry.invariant.0 c.in-Some.ensures.items c.in_ok-statement-in-Trace.ensures.there
    c.position-id.ensures (c.index.ensures ∙ c.position-id.ensures) c.is_marked.ensures c.if-not-is_marked.true
    (c.mark.ensures ∙ ap (λ z. set c.loop-entry.marks z true) c.index-then-not-is_marked.ensures) c.in_ok-push-in-Trace.ensures.items c.in_ok-push_uses-in-Trace.ensures.ok

pub loop-entry-preserved-in-Continue-branch-8 : goal.loop-entry-preserved-in-Continue-branch-8
loop-entry-preserved-in-Continue-branch-8 c = (
  entered_next c.args.statements.now _ _ _ _ c.push_uses.new.stack.items _ _ _ _ _ _ _ _ _ _ _ c.loop-entry.invariant.0 c.in-Some.ensures.items c.in-Trace.is c.in_ok-statement-in-Trace.ensures.met
      c.in_ok-statement-in-Trace.ensures.there c.position-id.ensures (c.index.ensures ∙ c.position-id.ensures) c.is_marked.ensures c.if-not-is_marked.true
      (c.mark.ensures ∙ ap (λ z. set c.loop-entry.marks z true) c.index-then-not-is_marked.ensures) c.in_ok-push-in-Trace.ensures.items c.in_ok-push_uses-in-Trace.ensures.ok c.saturating_add-turns.ensures,
  c.loop-entry.invariant.1,
  c.loop-entry.invariant.2,
)

pub loop-entry-preserved : goal.loop-entry-preserved
loop-entry-preserved c = (
  dropped_next _ _ _ _ _ _ _ _ _ _ _ _ c.loop-entry.invariant.0 c.in-Some.ensures.items c.in-Trace.is c.in_ok-statement-in-Trace.ensures.met
      (c.index.ensures ∙ c.position-id.ensures) c.is_marked.ensures c.if-not-is_marked.false c.saturating_add-turns.ensures,
  c.loop-entry.invariant.1,
  c.loop-entry.invariant.2,
)

pub loop-k-preserved : goal.loop-k-preserved
loop-k-preserved c =
    let over = popped_none (map view_statement c.args.statements.now) _ c.loop-entry.stack.items _ _ _ _ _
    c.loop-entry.invariant.0 c.in_default.ensures.items c.in_default.ensures.rest c.in_default.ensures.cases.0 in
    let within = c.loop-entry.invariant.1 in
    let counted : c.loop-k.k < c.args.walks.now.before → c.if-k-walks.lead ≡ length c.loop-entry.ids.items = λ l. elim c.if-k-walks.branch [
      | then-k-walks w ↦ (let a = w.lead-is in let b = w.len-lead.ensures in let d = c.loop-entry.ids.ok in omega arith)
      | else-k-walks w ↦ (let h = w.if-k-walks.false in absurd (omega arith))
    ] in
    let kept : c.args.walks.now.before ≤ c.loop-k.k → c.if-k-walks.lead ≡ c.loop-k.lead = λ l. elim c.if-k-walks.branch [
      | then-k-walks w ↦ (let h = w.if-k-walks.true in absurd (omega arith))
      | else-k-walks w ↦ w.lead-is
    ] in
    let under : c.loop-k.k < length c.args.walks.now.targets.items = (let z = c.loop-k-test.true in let same = ap length c.deref-walk-items.ensures.value in omega arith) in (
      over.0,
      over.1,
      elim (cases_lt c.loop-k.k c.args.walks.now.before) [ inl l ↦ (let e = counted l in omega arith) | inr l ↦ (let e = kept l in omega arith) ],
      lead_next _ c.args.walks.now.targets.items c.loop-k.k c.args.walks.now.before _ _ _ _ _ _ over.1 over.0 c.loop-k.invariant.3 counted kept,
      λ l. counted (omega arith),
      lead_needs_next _ c.args.walks.now.targets.items c.loop-k.k c.args.walks.now.before _ _ _ _ _ _ over.1 over.0 c.loop-entry.invariant.2 counted kept,
    )

pub returns-clause-ordered : goal.returns-clause-ordered
returns-clause-ordered c a w =
    ordered_item a (map view_statement c.args.statements.now) _ _ _ _ _ _ _ _ w c.loop-k.invariant.1 c.loop-k.invariant.0
    (let past = c.loop-k-test.false in let same = ap length c.deref-walk-items.ensures.value in omega arith)
    c.loop-k.invariant.2 c.loop-k.invariant.3 c.loop-k.invariant.4 c.loop-k.invariant.5
