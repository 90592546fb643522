use Rattle.std.proofs.Common.{◌≡◌, ℕ, ◌+◌, ◌<◌, List, length, get_or, true, false, Option, Some, None, refl, sym, ap, ◌∙◌, subst, arith}
use Rattle.std.specs.Prelude.{slice_get}
use Rattle.std.proofs.lemmas.Option.{slice_get-get_or, slice_get_within}
use Rattle.souper_embedding.specs.Maps.{Follows}
use Rattle.souper_embedding.proofs.Inverses.{Inverts, inverse, inverse-is, inverts-more, inverts-past}
use Rattle.souper_embedding.proofs.Walking.{one-image}
use Rattle.souper_embedding.proofs.roots.invert.Goals as goal
use Rattle.souper_embedding.proofs.roots.invert.Goals.{in-Some+else-not-bind, in_default}

goes : (m : List (Option ℕ)) (k : ℕ) (o : Option ℕ) → k < length m → get_or m k None ≡ o → slice_get m k ≡ Some o
goes m k o l e = slice_get-get_or m k None l ∙ ap (λ z. Some z) e

pub loop-p-init : goal.loop-p-init
loop-p-init c = record {
  long = refl;
  inverts = λ p q l g. absurd (omega arith);
  forced = λ empty one inside q p g. absurd (empty q p g);
}

pub returns-then-not-bind-clause-complete : goal.returns-then-not-bind-clause-complete
returns-then-not-bind-clause-complete c = λ empty one inside.
    let at = goes c.args.to.now c.loop-p.p (Some c.in-Some.q) c.loop-p-test.true c.in-Some.is in
    let l : c.in-Some.q < length c.loop-p.from = (let a = inside c.loop-p.p c.in-Some.q at in let b = c.loop-p.invariant.long in omega arith) in
    let r = c.bind.ensures.forced (inverse c.args.to.now) (c.loop-p.invariant.forced empty one inside) (inverse-is c.args.to.now c.loop-p.p c.in-Some.q one at) l in
    let n : true ≡ false = sym r.0 ∙ c.if-not-bind.true in absurd (cc)

pub loop-p-preserved : goal.loop-p-preserved
loop-p-preserved c = elim c.match-to-p.branch [
  | in-Some+else-not-bind w ↦ (
      let at = goes c.args.to.now c.loop-p.p (Some w.in-Some.q) c.loop-p-test.true w.in-Some.is in
      let b = w.bind.ensures.bound w.if-not-bind.false in
      record {
        long = ap length w.from-is ∙ b.long ∙ c.loop-p.invariant.long;
        inverts = subst (λ (z : List (Option ℕ)). Inverts c.args.to.now z (c.loop-p.p + 1)) (sym w.from-is)
            (inverts-more c.args.to.now c.loop-p.from w.bind.new.to c.loop-p.p w.in-Some.q at b (w.bind.ensures.goes w.if-not-bind.false) c.loop-p.invariant.inverts);
        forced = λ empty one inside. (
            let l : w.in-Some.q < length c.loop-p.from = (let a = inside c.loop-p.p w.in-Some.q at in let d = c.loop-p.invariant.long in omega arith) in
            subst (λ (z : List (Option ℕ)). Follows z (inverse c.args.to.now)) (sym w.from-is)
            (w.bind.ensures.forced (inverse c.args.to.now) (c.loop-p.invariant.forced empty one inside) (inverse-is c.args.to.now c.loop-p.p w.in-Some.q one at) l).1);
      })
  | in_default w ↦ record {
    long = ap length w.from-is ∙ c.loop-p.invariant.long;
    inverts = subst (λ (z : List (Option ℕ)). Inverts c.args.to.now z (c.loop-p.p + 1)) (sym w.from-is)
        (inverts-past c.args.to.now c.loop-p.from c.loop-p.p (goes c.args.to.now c.loop-p.p None c.loop-p-test.true w.in_default.is) c.loop-p.invariant.inverts);
    forced = λ empty one inside. subst (λ (z : List (Option ℕ)). Follows z (inverse c.args.to.now)) (sym w.from-is) (c.loop-p.invariant.forced empty one inside);
  }
]

pub returns-clause-sound : goal.returns-clause-sound
returns-clause-sound c = λ t p r q g h.
    let a : p < c.loop-p.p = (let w = slice_get_within c.args.to.now p (Some q) g in omega arith) in
    let b : r < c.loop-p.p = (let w = slice_get_within c.args.to.now r (Some q) h in omega arith) in
    one-image c.loop-p.from q p r (c.loop-p.invariant.inverts p q a g) (c.loop-p.invariant.inverts r q b h)
