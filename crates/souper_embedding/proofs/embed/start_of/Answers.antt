use Rattle.std.proofs.Common.{◌≡◌, List, map, true, false, sym, ◌∙◌, subst}
use Rattle.souper_graph.specs.declared.ast.attributes.RootAttribute.{RootAttribute}
use Rattle.souper_graph.specs.View.{view_statement, view_infer, view_root_attribute}
use Rattle.souper_embedding.specs.Embedding.{WantsWithin}
use Rattle.souper_embedding.proofs.Firsts.{started, forced-on}
use Rattle.souper_embedding.proofs.embed.start_of.Goals as goal

pub returns-then-not-wants_within-clause-forced : goal.returns-then-not-wants_within-clause-forced
returns-then-not-wants_within-clause-forced c = λ wl f h.
    let a = subst (λ (z : List RootAttribute). WantsWithin (map view_root_attribute z) (map view_root_attribute c.args.query.now.infer.attributes.items)) (sym c.as_slice.ensures.value) h.wanted in
    let b = subst (λ (z : List RootAttribute). WantsWithin (map view_root_attribute c.as_slice.result.now) (map view_root_attribute z)) (sym c.deref.ensures.value) a in
    let t = c.wants_within.ensures.1 b in
    let n : true ≡ false = sym t ∙ c.if-not-wants_within.true in absurd (cc)

pub returns-clause-start : goal.returns-clause-start
returns-clause-start c =
    let b = c.wants_within.ensures.0 c.if-not-wants_within.false in
    let a = subst (λ (z : List RootAttribute). WantsWithin (map view_root_attribute c.as_slice.result.now) (map view_root_attribute z)) c.deref.ensures.value b in
    let w : WantsWithin (view_infer c.args.infer.now).attributes (view_infer c.args.query.now.infer).attributes = subst (λ (z : List RootAttribute). WantsWithin (map view_root_attribute z) (map view_root_attribute c.args.query.now.infer.attributes.items)) c.as_slice.ensures.value a in
    started c.root_state.result (map view_statement c.args.stored.now) (map view_statement c.args.query.now.statements) (view_infer c.args.infer.now) (view_infer c.args.query.now.infer) w c.root_state.ensures.bare c.root_state.ensures.reached

pub returns-clause-forced : goal.returns-clause-forced
returns-clause-forced c = forced-on c.root_state.result (map view_statement c.args.stored.now) (map view_statement c.args.query.now.statements) (view_infer c.args.infer.now) (view_infer c.args.query.now.infer) c.root_state.ensures.forced
