-- A pair is parsed constant by constant: both are taken, or one is rejected.
use Rattle.souper_errors.specs.declared.error.ParseError.{ParseError}
use Rattle.souper_graph.specs.declared.ast.operands.Constant.{Constant}
use Rattle.souper_ir.specs.Parsing.{Parsing}
use Rattle.souper_graph.specs.Syntax.Spelling.{constant}
use Rattle.souper_ir.specs.Continuation.{constant_continues}
use Rattle.souper_ir.specs.Grammar.{Took, Refusal}
use Rattle.souper_ir.specs.Laws.Sequence.{refused_first, refused_second, both_taken}
use Rattle.parser_vectors.specs.declared.pairs.Pair.{Pair}
use Rattle.parser_vectors.specs.Pairs.{constants_spell, pair_continues, over, constant_alone}

abbrev TookConstant : Constant → Parsing → Parsing → Type 0
TookConstant c p q = Took (λ s. constant) constant_continues (λ s. s) c p q

abbrev RefusedConstant : ParseError → Parsing → Parsing → Type 0
RefusedConstant e p q = Refusal (λ s. constant) constant_continues e p q

abbrev RefusedPair : ParseError → Parsing → Parsing → Type 0
RefusedPair e p q = Refusal constants_spell pair_continues e p q

pub first_is_refused : (e : ParseError) (p q : Parsing) → RefusedConstant e p q → RefusedPair e p q
first_is_refused = refused_first (λ s. constant) constant_continues (λ s. constant) constant_continues pair_continues (λ (p : Pair). p.first) (λ (p : Pair). p.second) (λ p t h. h) over constant_alone

pub second_is_refused : (c : Constant) (e : ParseError) (p q r : Parsing) → TookConstant c p q → RefusedConstant e q r → RefusedPair e p r
second_is_refused = refused_second (λ s. constant) constant_continues (λ s. constant) constant_continues pair_continues (λ (p : Pair). p.first) (λ (p : Pair). p.second) (λ p t h. h) over constant_alone

pub both_are_taken : (pair : Pair) (p q r : Parsing) → TookConstant pair.first p q → TookConstant pair.second q r → Took constants_spell pair_continues (λ s. s) pair p r
both_are_taken = both_taken (λ s. constant) constant_continues (λ s. constant) constant_continues pair_continues (λ (p : Pair). p.first) (λ (p : Pair). p.second) (λ p t h. h) over constant_alone (λ s p y rest h first second. second)
