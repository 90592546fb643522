use Rattle.souper_meaning.proofs.Agreeing.{out_agrees, meets_agrees}
use Rattle.souper_meaning.proofs.Numbers.{number_given, world_by_number, number_once}
use Rattle.souper_meaning.proofs.Tried.{same_number}
use Rattle.souper_meaning.proofs.laws.law_of_numbers.Goals as goal

pub returns-clause-number : goal.returns-clause-number
returns-clause-number c = λ mode a m marks x wf marked w. let k = number_given mode a m marks wf marked x w in (k.number, k.inside, k.numbered)

pub returns-clause-world : goal.returns-clause-world
returns-clause-world c = λ mode a m marks k x wf marked l n. world_by_number mode a m marks wf marked k x l n

pub returns-clause-once : goal.returns-clause-once
returns-clause-once c = λ mode a m marks j k x wf marked l q h i. number_once mode a m marks wf marked j k x l q h i

pub returns-clause-outcomes : goal.returns-clause-outcomes
returns-clause-outcomes c = λ mode a m marks k x y wf h i. out_agrees a m x y wf (same_number mode a m marks wf k x y h i)

pub returns-clause-meeting : goal.returns-clause-meeting
returns-clause-meeting c = λ mode a m marks k x y wf h i. meets_agrees a m x y wf (same_number mode a m marks wf k x y h i)
