use Rattle.std.proofs.Common.{◌≡◌, ◌<◌, [], ◌∷◌, length, map, true, false, sym, ap, ◌∙◌, subst}
use Rattle.std.proofs.lemmas.List.{length-map}
use Rattle.souper_graph.specs.View.{view_statement}
use Rattle.souper_embedding.specs.Maps.{GoesTo, Binds}
use Rattle.souper_embedding.specs.Search.{left_item}
use Rattle.souper_embedding.proofs.Starting.{root-below, root-stands, root-one, root-needed, root-inside, reach-reached, images-inside}
use Rattle.souper_embedding.proofs.roots.reach.Goals as goal

pub returns-then-bind_value-clause-reached : goal.returns-then-bind_value-clause-reached
returns-then-bind_value-clause-reached c = λ ok x y xi yj wl empty long one.
    let ss = map view_statement c.args.stored.now in
    let qs = map view_statement c.args.query.now in
    let bound : Binds c.args.to.now c.bind_value.new.to (x.value ∷ []) = subst (λ z. Binds c.args.to.now c.bind_value.new.to (z ∷ [])) (sym xi) (c.bind_value.ensures.bound c.if-bind_value.true) in
    let at : GoesTo c.bind_value.new.to x.value y.value = subst (λ z. GoesTo c.bind_value.new.to z y.value) (sym xi) (subst (λ z. GoesTo c.bind_value.new.to c.args.i z) (sym yj) (c.bind_value.ensures.goes c.if-bind_value.true)) in
    reach-reached ss qs x y c.args.to.now c.bind_value.new.to c.walk.new.to wl empty (long ∙ sym (length-map c.args.stored.now view_statement)) bound at (c.walk.ensures.walked ok) one

pub returns-then-bind_value-clause-images : goal.returns-then-bind_value-clause-images
returns-then-bind_value-clause-images c = λ ok x xi wl empty p q g.
    let ss = map view_statement c.args.stored.now in
    let qs = map view_statement c.args.query.now in
    let bound : Binds c.args.to.now c.bind_value.new.to (x.value ∷ []) = subst (λ z. Binds c.args.to.now c.bind_value.new.to (z ∷ [])) (sym xi) (c.bind_value.ensures.bound c.if-bind_value.true) in
    let w = c.walk.ensures.walked ok (x.value ∷ []) (root-below ss x wl) (root-needed ss x.value c.args.to.now c.bind_value.new.to empty bound) in
    subst (λ n. q < n) (length-map c.args.query.now view_statement) (images-inside ss qs (x.value ∷ []) c.bind_value.new.to c.walk.new.to w p q g)

pub returns-then-bind_value-clause-forced : goal.returns-then-bind_value-clause-forced
returns-then-bind_value-clause-forced c = λ x y f xi yj wl empty long h.
    let ss = map view_statement c.args.stored.now in
    let qs = map view_statement c.args.query.now in
    let inside : c.args.i < length c.args.to.now = subst (λ z. z < length c.args.to.now) xi (subst (λ n. x.value < n) (sym (long ∙ sym (length-map c.args.stored.now view_statement))) (root-inside ss x wl)) in
    let one = c.bind_value.ensures.forced f (λ p q g. absurd (empty p q g)) (sym (ap f xi) ∙ h.root ∙ yj) inside in
    let bound : Binds c.args.to.now c.bind_value.new.to (x.value ∷ []) = subst (λ z. Binds c.args.to.now c.bind_value.new.to (z ∷ [])) (sym xi) (c.bind_value.ensures.bound c.if-bind_value.true) in
    let known = root-needed ss x.value c.args.to.now c.bind_value.new.to empty bound in
    let below = root-below ss x wl in
    let two = c.walk.ensures.forced (x.value ∷ []) f below known one.1 (root-stands (left_item ss x) (left_item qs y) x y f wl h) in
    let w = c.walk.ensures.walked two.0 (x.value ∷ []) below known in
    (two.0, two.1, root-one (left_item ss x) (left_item qs y) x y f c.walk.new.to h w.needed two.1)

pub returns-else-bind_value-clause-forced : goal.returns-else-bind_value-clause-forced
returns-else-bind_value-clause-forced c = λ x y f xi yj wl empty long h.
    let ss = map view_statement c.args.stored.now in
    let inside : c.args.i < length c.args.to.now = subst (λ z. z < length c.args.to.now) xi (subst (λ n. x.value < n) (sym (long ∙ sym (length-map c.args.stored.now view_statement))) (root-inside ss x wl)) in
    let one = c.bind_value.ensures.forced f (λ p q g. absurd (empty p q g)) (sym (ap f xi) ∙ h.root ∙ yj) inside in
    let n : true ≡ false = sym one.0 ∙ c.if-bind_value.false in absurd (cc)
