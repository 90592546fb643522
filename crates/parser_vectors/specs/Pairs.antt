-- Lemmas. Pairs of constants: their grammar, and that it is one a parser can follow.
use Rattle.std.specs.Prelude.{◌≡◌, List, []}
use Rattle.std.proofs.Common.{◌∙◌, ap}
use Rattle.souper_graph.specs.declared.ast.operands.Constant.{Constant}
use Rattle.souper_graph.specs.Syntax.Tokens.{Lexeme}
use Rattle.souper_graph.specs.Syntax.Spelling.{Scope, constant}
use Rattle.souper_ir.specs.Continuation.{constant_continues}
use Rattle.souper_ir.specs.Grammar.{Starts}
use Rattle.souper_ir.specs.NodeReadings.{is_int}
use Rattle.souper_ir.specs.Laws.Unique.{Alone}
use Rattle.souper_ir.specs.Laws.Operands.{constant_rule, constant_first}
use Rattle.souper_ir.specs.Laws.FromReadings.{alone}
use Rattle.souper_ir.specs.Laws.Sequence.{Split, both_alone}
use Rattle.souper_ir.specs.Laws.Series.{starts_ahead}
use Rattle.parser_vectors.specs.declared.pairs.Pair.{Pair}

-- the first constant, and then the second
abbrev pub constants_spell : Scope → Pair → List Lexeme → Type 0
constants_spell s p ts = Split (λ s. constant) constant_continues (λ s. constant) s p.first p.second ts

abbrev pub pair_continues : Pair → Lexeme → Type 0
pair_continues p t = constant_continues p.second t

-- a constant is never empty
pub over : (s : Scope) (p : Pair) (t : Lexeme) → constant p.second [] → constant_continues p.first t → pair_continues p t
over s p t h k = absurd (constant_first s p.second [] h)

pub constant_alone : Alone (λ s. constant) constant_continues
constant_alone = alone constant_rule

same_pair : (v w : Pair) → v.first ≡ w.first → v.second ≡ w.second → v ≡ w
same_pair v w e f = ap (λ (x : Constant). record v { first = x }) e ∙ ap (λ (x : Constant). record w { second = x }) f

pub pair_alone : Alone constants_spell pair_continues
pair_alone s v w a b c d e m n f g =
    let h = both_alone (λ s. constant) constant_continues (λ s. constant) constant_continues pair_continues (λ (p : Pair). p.first) (λ (p : Pair). p.second) (λ p t h. h) over constant_alone constant_alone s v w a b c d e m n f g in
    (h.0, same_pair v w h.1 h.2)

pub pair_first : (s : Scope) (p : Pair) (ts : List Lexeme) → constants_spell s p ts → Starts is_int ts
pair_first s p ts h = rw h.whole (starts_ahead is_int h.prefix h.suffix (constant_first s p.first h.prefix h.first))
