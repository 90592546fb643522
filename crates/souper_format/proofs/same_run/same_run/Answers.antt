use Rattle.souper_format.proofs.same_run.same_run.Goals as goal

pub returns : goal.returns
returns g c = c.compare_files.ensures
