use Rattle.std.proofs.Common.{◌≡◌, ℕ, zero, suc, ◌+◌, ◌≤◌, List, [], ◌∷◌, ◌++◌, length, take, drop, refl, sym, ap, subst, ◌∙◌, arith}
use Rattle.std.proofs.lemmas.List.{length-map, append-nil, take_all}
use Rattle.souper_graph.specs.declared.ast.flaws.FlawLocation.TheVariants.{Statement}
use Rattle.souper_graph.specs.Values.{Item}
use Rattle.souper_graph.specs.View.{view_statement}
use Rattle.souper_graph.specs.Flaws.{IsBefore}
use Rattle.souper_graph.specs.PartsView.{view_parts}
use Rattle.souper_widths.specs.Forest.{AreClasses, TellsWidths}
use Rattle.souper_widths.specs.Nodes.{listed, ClassesOf}
use Rattle.souper_widths.proofs.NodeWidths.{length-listed}
use Rattle.souper_widths.proofs.Starting.{own, no_numbers, start-classes, start-of}
use Rattle.souper_widths.proofs.solution.node_widths.Goals as goal

past-all : (xs : List ℕ) (n : ℕ) → length xs ≤ n → drop n xs ≡ []
past-all [] zero h = refl
past-all [] (suc n) h = refl
past-all (x ∷ xs) zero h = absurd (omega arith)
past-all (x ∷ xs) (suc n) h = past-all xs n (omega arith)

-- what is put into a list of its length is the list then
put-whole : (new old : List ℕ) (n : ℕ) → length new ≡ length old → length old ≡ n → take n (new ++ drop (length new) old) ≡ new
put-whole new old n e f =
    ap (λ (z : List ℕ). take n (new ++ z)) (past-all old (length new) (omega (arith, e))) ∙ ap (λ (z : List ℕ). take n z) (append-nil new) ∙ take_all n new (omega (arith, e, f))

pub tie_places-requires-clause-size : goal.tie_places-requires-clause-size
tie_places-requires-clause-size c =
    let size : c.len.result ≡ length (view_parts c.args.parts.now).statements = c.len.ensures ∙ sym (length-map c.args.parts.now.statements.now view_statement) in
    let many : length c.deref_mut.result.now ≡ c.in-Some.twice + 1 = ap (λ (z : List ℕ). length z) (c.deref_mut.ensures.value ∙ c.in_ok-parents.ensures) ∙ length-listed own (c.in-Some.twice + 1) in
    omega (arith, size, many, c.in-Some.ensures.1)

pub tie_places-requires-clause-fits : goal.tie_places-requires-clause-fits
tie_places-requires-clause-fits c =
    let size : c.len.result ≡ length (view_parts c.args.parts.now).statements = c.len.ensures ∙ sym (length-map c.args.parts.now.statements.now view_statement) in
    omega (arith, size, c.in-Some.ensures.0)

pub tie_places-requires-clause-classes : goal.tie_places-requires-clause-classes
tie_places-requires-clause-classes c =
    let n : ℕ = c.in-Some.twice + 1 in
    let zeros : c.in_ok-numbers.numbers.items ≡ no_numbers n = c.in_ok-numbers.ensures.items_if_clones_equal (λ y e. e) in
    subst (λ (z : List ℕ). AreClasses z c.deref_mut-2.result.now) (sym (c.deref_mut.ensures.value ∙ c.in_ok-parents.ensures))
    (subst (λ (z : List ℕ). AreClasses (listed own n) z) (sym (c.deref_mut-2.ensures.value ∙ zeros)) (start-classes n))

pub tie_places-requires-clause-before : goal.tie_places-requires-clause-before
tie_places-requires-clause-before c =
    let a : Item = view_parts c.args.parts.now in
    let n : ℕ = c.in-Some.twice + 1 in
    let zeros : c.in_ok-numbers.numbers.items ≡ no_numbers n = c.in_ok-numbers.ensures.items_if_clones_equal (λ y e. e) in
    subst (λ (z : List ℕ). ClassesOf a (λ k. IsBefore k (Statement 0)) z c.deref_mut-2.result.now) (sym (c.deref_mut.ensures.value ∙ c.in_ok-parents.ensures))
    (subst (λ (z : List ℕ). ClassesOf a (λ k. IsBefore k (Statement 0)) (listed own n) z) (sym (c.deref_mut-2.ensures.value ∙ zeros)) (start-of a n))

pub returns-in-Ok-clause-ok : goal.returns-in-Ok-clause-ok
returns-in-Ok-clause-ok c =
    let ps = c.tie_places.new.parents in
    let ns = c.tie_places.new.numbers in
    let ws : List ℕ = c.in_ok-nodes-in-Ok.nodes.items in
    let size : c.len.result ≡ length (view_parts c.args.parts.now).statements = c.len.ensures ∙ sym (length-map c.args.parts.now.statements.now view_statement) in
    let many : length c.deref_mut.result.now ≡ c.in-Some.twice + 1 = ap (λ (z : List ℕ). length z) (c.deref_mut.ensures.value ∙ c.in_ok-parents.ensures) ∙ length-listed own (c.in-Some.twice + 1) in
    let old_ps : List ℕ = c.in_ok-parents.parents.items in
    let old_ns : List ℕ = c.in_ok-numbers.numbers.items in
    let first : c.deref.result.now ≡ ps = c.deref.ensures.value ∙ put-whole ps old_ps c.in_ok-parents.parents.len (omega (arith, c.tie_places.auto.parents, ap (λ (z : List ℕ). length z) c.deref_mut.ensures.value)) (omega (arith, c.in_ok-parents.parents.ok.0)) in
    let second : c.deref-in-Ok.result.now ≡ ns = c.deref-in-Ok.ensures.value ∙ put-whole ns old_ns c.in_ok-numbers.numbers.len (omega (arith, c.tie_places.auto.numbers, ap (λ (z : List ℕ). length z) c.deref_mut-2.ensures.value)) (omega (arith, c.in_ok-numbers.numbers.ok.0)) in
    let tells : TellsWidths ps ns ws = subst (λ (z : List ℕ). TellsWidths z ns ws) first (subst (λ (z : List ℕ). TellsWidths c.deref.result.now z ws) second c.in_ok-nodes-in-Ok.ensures) in
    record {
      parents = ps;
      numbers = ns;
      classes = c.in-Ok.ensures.ok;
      tells = tells;
      size = omega (arith, tells.size, c.tie_places.auto.parents, size, many, c.in-Some.ensures.1);
    }
