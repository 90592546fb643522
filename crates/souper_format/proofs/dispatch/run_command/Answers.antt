use Rattle.std.proofs.Common.{◌≡◌, Some, refl}
use Rattle.souper_format.specs.declared.command.Command.TheVariants.{Same}
use Rattle.souper_format.specs.Commands.{command_of}
use Rattle.souper_format.proofs.dispatch.run_command.Goals as goal

pub returns-in-Some-Same-clause-run : goal.returns-in-Some-Same-clause-run
returns-in-Some-Same-clause-run g c =
    let w = c.in-Some-Same in
    let is : command_of c.args.args.items ≡ Some (Same w.kind w.a w.b) = cc in
    let run = rw (c.as_str.ensures.value, c.as_str-in-Some-Same.ensures.value) at c.compare_files.ensures in
    rw is (run, refl)
