-- Definitions. Statements in sequence, what an item has after them, and when no item is spelled after them.
use Rattle.std.specs.Prelude.{◌≡◌, ◌⊎◌, Bool, true, false, List, [], ◌∷◌, ◌++◌, None}
use Rattle.souper_graph.specs.Values.{PlainStatement, Ending, inferred, resulting, replaced, candidate, Item}
use Rattle.souper_errors.specs.declared.error.ParseError.{ParseError}
use Rattle.souper_graph.specs.Syntax.Tokens.{Lexeme}
use Rattle.souper_graph.specs.Syntax.Spelling.{kinds, Scope, Form, ◌·◌, statement, statements, infer, result, cand, ItemType, ending_type}
use Rattle.souper_ir.specs.Continuation.{statement_continues, ending_continues}
use Rattle.souper_ir.specs.NodeReadings.{starts_statement}
use Rattle.souper_ir.specs.Parsing.{Parsing}
use Rattle.souper_ir.specs.Reading.{cause_of, IfRefused, Fails}
use Rattle.souper_ir.specs.Grammar.{Free, NextStops, Took, TookAll, NoFrontOf, NoneStarted, StuckAt}

-- the token starts no statement and continues none
abbrev pub EndsStatements : Lexeme → Type 0
EndsStatements t = (starts_statement t ≡ false) × ((v : PlainStatement) → ¬ statement_continues v t)

-- the first token ends the statements before it
abbrev pub Opens : List Lexeme → Type 0
Opens [] = ⊥
Opens (t ∷ ts) = EndsStatements t

-- further statements, and what an item has besides its statements
abbrev pub Tail : Type 0
Tail = List PlainStatement × Ending

-- what comes after statements, in their scope: last lines, or an infer line, further statements and a result line
abbrev pub tail_lines : Scope → Tail → Form
tail_lines s (new, inferred i) = λ ts. (new ≡ []) × infer s i ts
tail_lines s (new, resulting r) = λ ts. (new ≡ []) × result s r ts
tail_lines s (new, replaced i r) = infer s i · statements s new · result (s ++ new) r
tail_lines s (new, candidate c) = λ ts. (new ≡ []) × cand s c ts

-- it ends an item of the type
pub record TailOf (k : ItemType) (s : Scope) (y : Tail) (ts : List Lexeme) : Type 0 where
  pub type_is : ending_type y.1 ≡ k
  pub lines : tail_lines s y ts

-- the item has the statements of the scope, and its tokens are parted after its further ones, but for those after an infer line
pub record Parted (k : ItemType) (s : Scope) (a : Item) (ts : List Lexeme) : Type 0 where
  pub first : List PlainStatement
  pub last : List PlainStatement
  pub statements_are : a.statements ≡ s ++ (first ++ last)
  pub spelled : (statements s first · TailOf k (s ++ first) (last, a.ending)) ts

-- which tokens continue the last lines
abbrev pub tail_continues : Tail → Lexeme → Type 0
tail_continues y t = ending_continues y.1 t

-- a statement was taken, and entered into the scope
abbrev pub Entered : PlainStatement → Parsing → Parsing → Type 0
Entered v p q = Took statement statement_continues (λ s. s ++ v ∷ []) v p q

-- the statement that the parser took, and entered into the scope
abbrev pub Enters : Parsing → Parsing → Type 0
Enters p q = (v : PlainStatement) × Entered v p q

-- statements were taken, and entered into the scope
abbrev pub Stated : List PlainStatement → Parsing → Parsing → Type 0
Stated new p q = TookAll statements statement_continues (λ s new. s ++ new) new p q

-- no statement comes next, and no fault
pub record AllStated (new : List PlainStatement) (p q : Parsing) : Type 0 where
  pub stated : Stated new p q
  pub quiet : NextStops (λ t. starts_statement t ≡ true) q.faulty (kinds q.tokens)
  pub live : p.failed ≡ None

-- the statements that the parser took, all that there are
abbrev pub TakesStatements : Parsing → Parsing → Type 0
TakesStatements p q = (new : List PlainStatement) × AllStated new p q

-- no statement comes next, though a fault or the first token of one does
abbrev pub NoStatement : Scope → Bool → List Lexeme → Type 0
NoStatement s faulty ts = NoneStarted (statement s) statement_continues starts_statement faulty ts

-- neither a statement comes next nor what ends the statements
abbrev pub NoMore : {Y : Type 0} → (Scope → Y → List Lexeme → Type 0) → (Y → Lexeme → Type 0) → Scope → Bool → List Lexeme → Type 0
NoMore tail continues s faulty ts = NoStatement s faulty ts ⊎ (Free (λ t. starts_statement t ≡ true) ts × NoFrontOf (tail s) continues faulty ts)

-- statements, and after them what next says of their scope and of the tokens that are left
abbrev pub StatementsEnd : (Scope → Bool → List Lexeme → Type 0) → Scope → Bool → List Lexeme → Type 0
StatementsEnd next s faulty ts = StuckAt (statements s) statement_continues (λ new rest. next (s ++ new) faulty rest) ts

abbrev pub StatedRefusal : ParseError → Parsing → Parsing → Type 0
StatedRefusal e p q = Fails e p q × IfRefused (cause_of e) (p.failed ≡ None → StatementsEnd NoStatement p.scope p.faulty (kinds p.tokens))
