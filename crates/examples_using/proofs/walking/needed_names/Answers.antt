use Rattle.std.proofs.Common.{ap, sym, ◌∙◌, option_copied, vec_items}
use Rattle.examples_using.specs.Names.{name_of_value}
use Rattle.examples_using.proofs.NameLists.{with_name, without_name}
use Rattle.examples_using.proofs.walking.needed_names.Goals as goal
use Rattle.examples_using.proofs.walking.needed_names.Goals.{in-Some+in_ok-push, in_default}

pub loop-id-preserved : goal.loop-id-preserved
loop-id-preserved c =
    let ss = c.args.item.now.statements in
    let named = c.name_of.ensures ∙ ap (name_of_value ss) c.from.ensures in
    elim c.match-name_of.branch [
      | in-Some+in_ok-push w ↦ with_name ss c.deref-id-items.result.now c.loop-id.id-index c.id-item.result c.loop-id.names.items c.match-name_of.names.items w.in-Some.name
          c.loop-id-test.true c.id-item.is (sym (ap option_copied w.in-Some.is) ∙ named) c.loop-id.invariant (ap vec_items w.names-is ∙ w.in_ok-push.ensures.items)
      | in_default w ↦ without_name ss c.deref-id-items.result.now c.loop-id.id-index c.id-item.result c.loop-id.names.items c.match-name_of.names.items
          c.loop-id-test.true c.id-item.is (sym (ap option_copied w.in_default.is) ∙ named) c.loop-id.invariant (ap vec_items w.names-is)
    ]
