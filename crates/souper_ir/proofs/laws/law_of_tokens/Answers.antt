use Rattle.souper_lexer.proofs.TokenLaws.{one_reading, begins_append, in_text}
use Rattle.souper_graph.proofs.RoundTrip.Gaps.{gap_stops_token}
use Rattle.souper_lexer.proofs.WhiteSpace.{white_listed, listed_white}
use Rattle.souper_ir.proofs.laws.law_of_tokens.Goals as goal

pub returns-clause-one_reading : goal.returns-clause-one_reading
returns-clause-one_reading c = one_reading

pub returns-clause-white_space : goal.returns-clause-white_space
returns-clause-white_space c = λ x. (white_listed x, listed_white x)

pub returns-clause-in_text : goal.returns-clause-in_text
returns-clause-in_text c = in_text

pub returns-clause-gaps : goal.returns-clause-gaps
returns-clause-gaps c = gap_stops_token

pub returns-clause-fronts : goal.returns-clause-fronts
returns-clause-fronts c = begins_append
