use Rattle.std.proofs.Common.{rules, ◌≡◌, length, sym, ◌∙◌, ◌++◌, ◌∷◌, [], arith}
use Rattle.std.proofs.lemmas.List.{length_push}
use Rattle.std.proofs.lemmas.Slice.Zip.{zip_turn}
use Rattle.souper_graph.specs.WellFormed.{WellFormed}
use Rattle.souper_graph.specs.Sameness.{SameGraph}
use Rattle.souper_graph.proofs.Judging.Closed.{All-map_at}
use Rattle.souper_format.proofs.Pairs.{related_at, related_more}
use Rattle.souper_format.proofs.same.are_pairwise_same.Goals as goal

pub are_same_graph-requires-clause-formed : goal.are_same_graph-requires-clause-formed
are_same_graph-requires-clause-formed g c =
    let first : c.into_iter-x-iterator.result.a.rest.now ≡ c.args.a.now = search rules in
    let second : c.into_iter-x-iterator.result.b.rest.now ≡ c.args.b.now = search rules in
    let t = zip_turn c.args.a.now c.args.b.now c.loop-x.yielded c.into_iter-x-iterator.result c.loop-x.x-iterator c.next.new.self c.next.result first second c.loop-x.yielded_by (c.in-Some.x, c.in-Some.y) c.in-Some.is c.next.ensures.steps in
    All-map_at WellFormed g.T.Item.view c.args.a.now (length c.loop-x.yielded) c.in-Some.x.now t.0 (t.2 c.in-Some.x.now) c.requires.formed

pub are_same_graph-requires-clause-other_formed : goal.are_same_graph-requires-clause-other_formed
are_same_graph-requires-clause-other_formed g c =
    let first : c.into_iter-x-iterator.result.a.rest.now ≡ c.args.a.now = search rules in
    let second : c.into_iter-x-iterator.result.b.rest.now ≡ c.args.b.now = search rules in
    let t = zip_turn c.args.a.now c.args.b.now c.loop-x.yielded c.into_iter-x-iterator.result c.loop-x.x-iterator c.next.new.self c.next.result first second c.loop-x.yielded_by (c.in-Some.x, c.in-Some.y) c.in-Some.is c.next.ensures.steps in
    All-map_at WellFormed g.T.Item.view c.args.b.now (length c.loop-x.yielded) c.in-Some.y.now t.1 (t.3 c.in-Some.y.now) c.requires.other_formed

pub returns-then-not-branch : goal.returns-then-not-branch
returns-then-not-branch g c =
    let first : c.into_iter-x-iterator.result.a.rest.now ≡ c.args.a.now = search rules in
    let second : c.into_iter-x-iterator.result.b.rest.now ≡ c.args.b.now = search rules in
    let t = zip_turn c.args.a.now c.args.b.now c.loop-x.yielded c.into_iter-x-iterator.result c.loop-x.x-iterator c.next.new.self c.next.result first second c.loop-x.yielded_by (c.in-Some.x, c.in-Some.y) c.in-Some.is c.next.ensures.steps in (
      (λ e. absurd (cc)),
      (λ all. sym c.if-not-branch.true ∙ c.in_ok-are_same_graph.ensures.1
          (related_at SameGraph g.T.Item.view c.args.a.now c.args.b.now (length c.loop-x.yielded) c.in-Some.x.now c.in-Some.y.now t.0 t.1 (t.2 c.in-Some.x.now) (t.3 c.in-Some.y.now) all)),
    )

pub loop-x-preserved : goal.loop-x-preserved
loop-x-preserved g c =
    let first : c.into_iter-x-iterator.result.a.rest.now ≡ c.args.a.now = search rules in
    let second : c.into_iter-x-iterator.result.b.rest.now ≡ c.args.b.now = search rules in
    let t = zip_turn c.args.a.now c.args.b.now c.loop-x.yielded c.into_iter-x-iterator.result c.loop-x.x-iterator c.next.new.self c.next.result first second c.loop-x.yielded_by (c.in-Some.x, c.in-Some.y) c.in-Some.is c.next.ensures.steps in
    let pushed = length_push c.loop-x.yielded (c.in-Some.x, c.in-Some.y) in (
      (tt, tt),
      tt,
      related_more SameGraph g.T.Item.view c.args.a.now c.args.b.now (length c.loop-x.yielded) (length (c.loop-x.yielded ++ (c.in-Some.x, c.in-Some.y) ∷ [])) c.in-Some.x.now c.in-Some.y.now
          t.0 t.1 (omega (arith, pushed)) (t.2 c.in-Some.x.now) (t.3 c.in-Some.y.now) (c.in_ok-are_same_graph.ensures.0 c.if-not-branch.false) c.loop-x.invariant.2,
    )
