use Rattle.std.proofs.Common.{◌++◌, map, refl, sym, ◌∙◌, append_assoc}
use Rattle.std.specs.Prelude.{codes, decimal}
use Rattle.std.specs.String.{string_bytes}
use Rattle.std.proofs.lemmas.Result.{on_ok_weaker}
use Rattle.souper_graph.specs.View.{view_statement}
use Rattle.souper_graph.specs.Text.{name_at, text_of_operand}
use Rattle.souper_graph.proofs.Texts.Naming.{eight_parts}
use Rattle.souper_graph.proofs.stringify.nodes.BlockPcDisplayWithContext.append.Goals as goal

pub returns-clause-ok : goal.returns-clause-ok
returns-clause-ok c =
    let ss = map view_statement c.args.statements.now in
    let front = string_bytes c.append.new.out in
    let number = decimal c.args.self.now.predecessor in
    on_ok_weaker c.append-3.result
    (eight_parts (string_bytes c.args.out.now) _ _ _ _ _ _ _ _
    (codes "blockpc ") (name_at ss c.args.self.now.block) (codes " ") (decimal c.args.self.now.predecessor) (codes " ")
    (text_of_operand ss c.args.self.now.x) (codes " ") (text_of_operand ss c.args.self.now.y)
    c.in_ok-push_str.ensures.bytes c.in_ok-append.ensures.ok refl refl
    (c.in_ok-write.ensures.bytes ∙ sym (append_assoc (front ++ codes " ") number (codes " ") ∙ append_assoc front (codes " ") (number ++ codes " ")))
    c.in_ok-append-2.ensures.ok c.in_ok-push_str-2.ensures.bytes)
    c.append-3.ensures.ok
