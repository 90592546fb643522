-- Definitions. A term and the numbers after it.
use Rattle.std.specs.Prelude.{ℕ, Bool, List, [], ◌++◌}
use Rattle.souper_graph.specs.declared.ast.operands.Constant.{Constant}
use Rattle.souper_graph.specs.Values.{instruction}
use Rattle.souper_graph.specs.Syntax.Tokens.{Lexeme}
use Rattle.souper_graph.specs.Syntax.TokenLaws.{AreTokensOf}
use Rattle.souper_graph.specs.Syntax.Spelling.{kinds, constant, rhs}
use Rattle.souper_ir.specs.Continuation.{constant_continues}
use Rattle.souper_ir.specs.Grammar.{Members}
use Rattle.examples_using.specs.declared.fragments.Term.{Term}
use Rattle.examples_using.specs.declared.fragments.Term.TheVariants.{Number, Operation}

-- an instruction by itself refers to no statements
abbrev pub term_spells : Term → List Lexeme → Type 0
term_spells (Number c) ts = constant c ts
term_spells (Operation i) ts = rhs [] (instruction i) ts

-- the text begins with tokens that spell the term, and then tokens that spell the numbers
pub record BeginsWithTerm (source : List ℕ) (term : Term) (numbers : List Constant) : Type 0 where
  pub first : List (ℕ × Lexeme)
  pub second : List (ℕ × Lexeme)
  pub rest : List (ℕ × Lexeme)
  pub faulty : Bool
  pub tokens : AreTokensOf source (first ++ (second ++ rest)) faulty
  pub term_spelled : term_spells term (kinds first)
  pub numbers_spelled : Members constant constant_continues numbers (kinds second)
