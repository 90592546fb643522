use Rattle.std.proofs.Common.{◌≡◌, ◌<◌, ℕ, zero, suc, inl, inr, true, false, length, ap, sym, ◌∙◌, ◌==◌, arith}
use Rattle.std.proofs.lemmas.Bool.Decides.{Decides-eqb}
use Rattle.souper_stream.proofs.Passing.{ends_after}
use Rattle.souper_stream.proofs.reader.ItemReader.is_at_end.Goals as goal

positive : (n : ℕ) → (n == 0) ≡ false → 0 < n
positive zero e = absurd cc
positive (suc n) e = omega arith

pub returns-then-self : goal.returns-then-self
returns-then-self c = λ k start now ps some had.
    let same = ap length c.unparsed.ensures in
    ends_after k start now ps c.args.self.now some had c.is_empty.result
    (λ e. (let none = (Decides-eqb (length c.unparsed.result.now) 0).0 (sym c.is_empty.ensures ∙ e) in (c.if-self.true, omega (arith, same, none))))
    (λ e. (let more = positive (length c.unparsed.result.now) (sym c.is_empty.ensures ∙ e) in inr (omega (arith, same, more))))

pub returns-else-self : goal.returns-else-self
returns-else-self c = λ k start now ps some had. ends_after k start now ps c.args.self.now some had c.args.self.now.ended
    (λ e. (let bad : true ≡ false = sym e ∙ c.if-self.false in cc))
    (λ e. inl e)
