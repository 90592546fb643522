use Rattle.std.proofs.Common.{◌≡◌, ◌⊎◌, inl, inr, ◌++◌, [], true, false, refl, ap, ◌∙◌, string_bytes}
use Rattle.std.proofs.lemmas.Result.{on_ok_weaker}
use Rattle.souper_graph.specs.Values.{Item}
use Rattle.souper_untyped.specs.Says.{says_of, lines_of}
use Rattle.souper_typing.proofs.Holding.{held_skipped, held_typed, held_flawed}
use Rattle.souper_typing.proofs.widened.WidenedSink.take.Goals as goal
use Rattle.souper_typing.proofs.widened.WidenedSink.take.Goals.{else-self-via-then-self+else-not-self, else-self-via-else-self}

pub returns-then-not-self : goal.returns-then-not-self
returns-then-not-self g c = λ first items held. held_skipped g.S.Sink.holds first c.args.self.now items (g.T.Item.view c.args.item) c.if-self.true c.if-not-self.true held

pub returns-in-Ok : goal.returns-in-Ok
returns-in-Ok g c =
    let goes : (c.args.self.now.any ≡ false) ⊎ (c.args.self.now.recover ≡ true) = elim c.else-self.branch [ else-self-via-then-self+else-not-self w ↦ inr w.if-not-self.false | else-self-via-else-self w ↦ inl w.if-self.false ] in
    on_ok_weaker c.take.result (λ more first items held. held_typed g.S.Sink.holds first c.args.self.now _ items (g.T.Item.view c.args.item) (g.T.Item.view c.write_well_formed_widths.new.item) goes refl refl refl c.in_ok-push-in-Ok.ensures.items (_, c.in-Ok.ensures.written) (λ list h. more first.inner list h) held) c.take.ensures

pub returns-in-Err-Flawed : goal.returns-in-Err-Flawed
returns-in-Err-Flawed g c =
    let goes : (c.args.self.now.any ≡ false) ⊎ (c.args.self.now.recover ≡ true) = elim c.else-self.branch [ else-self-via-then-self+else-not-self w ↦ inr w.if-not-self.false | else-self-via-else-self w ↦ inl w.if-self.false ] in
    let flaw = c.in-Err-Flawed.flaw in
    let is = rw c.in-Err-Flawed.field-0-is at c.in-Err-Flawed.ensures.flawed in
    let empty : string_bytes c.new-lines.result ≡ [] = c.new-lines.ensures.bytes in
    let said : string_bytes c.append_lines.new.out ≡ lines_of (says_of (g.T.Item.view c.args.item) flaw) =
    c.in_ok-append_lines-in-Err-Flawed.ensures ∙ (λ i. empty i ++ lines_of (c.in_ok-text-in-Err-Flawed.ensures i)) ∙ ap (λ (a : Item). lines_of (says_of a flaw)) c.in-Err-Flawed.ensures.kept in
    λ first items held. held_flawed g.S.Sink.holds first c.args.self.now _ items (g.T.Item.view c.args.item) c.append_lines.new.out goes refl refl refl refl c.in_ok-push-in-Err-Flawed.ensures.items (flaw, is.1, said) held
