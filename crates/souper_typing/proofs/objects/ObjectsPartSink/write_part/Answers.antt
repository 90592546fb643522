use Rattle.std.proofs.Common.{refl, ap, ◌∙◌}
use Rattle.std.specs.List.{list_any}
use Rattle.souper_watched.specs.Watching.{watched_inner}
use Rattle.souper_typing.specs.Objects.{is_flawed_row}
use Rattle.souper_typing.proofs.ObjectRows.{objects_more}
use Rattle.souper_typing.proofs.objects.ObjectsPartSink.write_part.Goals as goal

pub returns-clause-written : goal.returns-clause-written
returns-clause-written g c = λ first start os before o wrote idle taken starts text refusal.
    let inner = c.in_ok-write_part.ensures.written first.rows start os before.rows o (wrote.maker, wrote.text, wrote.are, wrote.written) (idle.1, idle.2) (taken.1, taken.2) starts text refusal in
    objects_more c.args.part.name.now first before c.args.self.now _ start (g.W.Write.contents (watched_inner c.args.out.now)) (g.W.Write.contents (watched_inner c.write_part.new.out)) os o c.any_flawed-flawed.result wrote taken refl
    (c.any_flawed-flawed.ensures ∙ ap (list_any is_flawed_row) c.as_slice.ensures.value) inner

pub returns-clause-none : goal.returns-clause-none
returns-clause-none g c = (refl, c.in_ok-write_part.ensures.none.0, c.in_ok-write_part.ensures.none.1)
