use Rattle.souper_graph.proofs.Texts.Styled.{number_writes, number_writes_styled}
use Rattle.souper_graph.proofs.stringify.numbers.write_number.Goals as goal

pub returns-clause-writes : goal.returns-clause-writes
returns-clause-writes g c = number_writes g.W.Write.write_str_gives c.new-digits.result c.write.new.self (g.N.Display.output c.args.number) c.as_str.result.now c.args.f.now c.write_str.new.self c.write_str.result c.new-digits.ensures c.in_ok-write.ensures.writes c.as_str.ensures.value c.write_str.ensures.writes

pub returns-clause-styled : goal.returns-clause-styled
returns-clause-styled g c = number_writes_styled g.W.Write.write_str_gives c.new-digits.result c.write.new.self (g.N.Display.output c.args.number) c.as_str.result.now c.args.f.now c.write_str.new.self c.write_str.result c.new-digits.ensures c.in_ok-write.ensures.writes c.as_str.ensures.value c.write_str.ensures.styled
