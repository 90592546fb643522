use Rattle.std.proofs.Common.{◌≡◌, ◌∙◌, ◌^◌, ℕ, Bool, cond, List, sym, ap, arith}
use Rattle.souper_meaning.specs.Worlds.{poison_inputs}
use Rattle.souper_meaning.specs.Numbering.{numbered_input}
use Rattle.souper_meaning.specs.Sampling.{pinned_at, input_at}
use Rattle.souper_meaning.proofs.Numbers.{numbered_poison}
use Rattle.souper_meaning.proofs.drawing.poison_or_constant_of.Goals as goal

pub returns-then-is_poison : goal.returns-then-is_poison
returns-then-is_poison c =
    let w : ℕ = c.args.width in
    let es : List ℕ = c.args.tried.now.hints.now.edges.items in
    let n : ℕ = c.args.tried.now.number in
    let e : input_at poison_inputs w es c.args.left n c.args.state ≡ 2 ^ w =
    ap (λ (b : Bool). cond b (2 ^ w) (pinned_at w es c.args.left n c.args.state)) (sym c.is_poison-is_poison.ensures ∙ c.if-is_poison.true)
    in
    sym (ap (λ (d : ℕ). numbered_input w d) e ∙ numbered_poison w (2 ^ w) (omega arith))

pub returns-else-is_poison : goal.returns-else-is_poison
returns-else-is_poison c =
    let w : ℕ = c.args.width in
    let es : List ℕ = c.args.tried.now.hints.now.edges.items in
    let n : ℕ = c.args.tried.now.number in
    let e : input_at poison_inputs w es c.args.left n c.args.state ≡ pinned_at w es c.args.left n c.args.state =
    ap (λ (b : Bool). cond b (2 ^ w) (pinned_at w es c.args.left n c.args.state)) (sym c.is_poison-is_poison.ensures ∙ c.if-is_poison.false)
    in
    c.constant_of.ensures ∙ sym (ap (λ (d : ℕ). numbered_input w d) e)
