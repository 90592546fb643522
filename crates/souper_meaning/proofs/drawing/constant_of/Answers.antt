use Rattle.std.proofs.Common.{◌≡◌, ◌∙◌, ℕ, List, sym, ap}
use Rattle.souper_words.specs.declared.outcome.Outcome.TheVariants.{Number}
use Rattle.souper_meaning.specs.Pins.{placed}
use Rattle.souper_meaning.specs.Sampling.{pinned_at}
use Rattle.souper_meaning.proofs.Numbers.{numbered_value}
use Rattle.souper_meaning.proofs.EdgeNumbers.{pinned_below}
use Rattle.souper_meaning.proofs.drawing.constant_of.Goals as goal

pub returns : goal.returns
returns c =
    let w : ℕ = c.args.width in
    let es : List ℕ = c.args.tried.now.hints.now.edges.items in
    let n : ℕ = c.args.tried.now.number in
    let e : c.placed-chosen.result ≡ pinned_at w es c.args.left n c.args.state = c.placed-chosen.ensures ∙ ap (λ (k : ℕ). placed w c.args.left k) c.number_of-number.ensures in
    ap (λ (k : ℕ). Number k) e ∙ sym (numbered_value w (pinned_at w es c.args.left n c.args.state) (pinned_below w es c.requires.some c.args.left n c.args.state))
