-- Definitions. Where the reading of a text stops that is rejected, and whether the text ended there.
use Rattle.std.specs.Prelude.{◌≡◌, ◌⊎◌, ℕ, Bool, true, false, List, [], ◌++◌, None, Ok, Err, codes}
use Rattle.souper_graph.specs.Values.{PlainStatement, PlainInfer, Item}
use Rattle.souper_graph.specs.Syntax.Tokens.{Lexeme}
use Rattle.souper_graph.specs.Syntax.TokenLaws.{AreTokensOf}
use Rattle.souper_graph.specs.Syntax.Spelling.{kinds, infer, ItemType, left_hand_side, right_hand_side, replacement, attribute as attribute_form, root_attribute as root_attribute_form}
use Rattle.souper_lexer.specs.TokenView.{IsCut}
use Rattle.souper_errors.specs.declared.error.ParseError.{ParseError}
use Rattle.souper_ir.specs.declared.parse.item.Next.TheVariants.{Assignment, Pc, BlockPc}
use Rattle.souper_ir.specs.Continuation.{infer_continues}
use Rattle.souper_errors.specs.Errors.{at_end_of}
use Rattle.souper_ir.specs.Parsing.{Parsing}
use Rattle.souper_ir.specs.Reading.{Reads, cause_of, IfRefused, IsRead}
use Rattle.souper_ir.specs.Grammar.{Took, Members, peek_at}
use Rattle.souper_ir.specs.NodeReadings.{is_any, is_word, definition_at, attribute_at, root_attribute_at, pc_at, block_pc_at, root_at, pair_at, result_at}
use Rattle.souper_ir.specs.NextStatement.{next_at, NextIs}
use Rattle.souper_ir.specs.Items.{Stated, AllStated}
use Rattle.souper_ir.specs.ItemRuns.{ItemsTaken}

-- In each of these, `ended` says whether the text ended where a token is wanted. If not, the next token, or a fault in its place,
-- does not fit.

-- members, and then a reading that stops
pub record RowStops {X : Type 0} (spells : X → List Lexeme → Type 0) (read : Parsing → Reads X) (ended : Bool) (p : Parsing) : Type 0 where
  pub members : List X
  pub used : List (ℕ × Lexeme)
  pub rest : List (ℕ × Lexeme)
  pub parts : p.tokens ≡ used ++ rest
  pub spelled : Members spells (λ x t. ⊥) members (kinds used)
  pub stops : read (record p { tokens = rest }) ≡ Err ended

-- a node with attributes after it: its reading stops, or theirs
abbrev pub LineStops : {A X : Type 0} → (Parsing → Reads A) → (X → List Lexeme → Type 0) → (Parsing → Reads X) → Bool → Parsing → Type 0
LineStops {A} node spells read ended p = (node p ≡ Err ended) ⊎ ((a : A) × (q : Parsing) × (node p ≡ Ok (a, q)) × RowStops spells read ended q)

-- a statement, by its first token
abbrev pub StatementStops : Bool → Parsing → Type 0
StatementStops ended p = (NextIs Assignment p × LineStops definition_at attribute_form attribute_at ended p)
    ⊎ ((NextIs Pc p × (pc_at p ≡ Err ended)) ⊎ (NextIs BlockPc p × (block_pc_at p ≡ Err ended)))

-- statements, and then one whose reading stops
pub record StatementsStop (ended : Bool) (p : Parsing) : Type 0 where
  pub new : List PlainStatement
  pub next : Parsing
  pub stated : Stated new p next
  pub stops : (next_at next ≡ Err ended) ⊎ StatementStops ended next

-- all statements that there are, and then a line whose reading stops
pub record LastLineStops (line : Bool → Parsing → Type 0) (ended : Bool) (p : Parsing) : Type 0 where
  pub new : List PlainStatement
  pub next : Parsing
  pub stated : AllStated new p next
  pub stops : line ended next

-- the statements or the line after them
abbrev pub EitherStops : (Bool → Parsing → Type 0) → Bool → Parsing → Type 0
EitherStops line ended p = StatementsStop ended p ⊎ LastLineStops line ended p

abbrev pub InferStops : Bool → Parsing → Type 0
InferStops ended p = LineStops root_at root_attribute_form root_attribute_at ended p

abbrev pub CandStops : Bool → Parsing → Type 0
CandStops ended p = LineStops pair_at root_attribute_form root_attribute_at ended p

abbrev pub ResultStops : Bool → Parsing → Type 0
ResultStops ended p = result_at p ≡ Err ended

-- an infer line, or what comes after it in a replacement
abbrev pub ReplacedStops : Bool → Parsing → Type 0
ReplacedStops ended p = InferStops ended p ⊎ ((i : PlainInfer) × (q : Parsing) × Took infer infer_continues (λ s. s) i p q × EitherStops ResultStops ended q)

-- what comes after the first statements of a replacement
abbrev pub EndingStops : Bool → Parsing → Type 0
EndingStops ended p = (peek_at (is_word (codes "infer")) p ≡ Err ended)
    ⊎ ((IsRead (peek_at (is_word (codes "infer")) p) true p p × ReplacedStops ended p) ⊎ (IsRead (peek_at (is_word (codes "infer")) p) false p p × CandStops ended p))

-- what comes after the first statements of an item
abbrev pub TailStops : ItemType → Bool → Parsing → Type 0
TailStops left_hand_side ended p = InferStops ended p
TailStops right_hand_side ended p = ResultStops ended p
TailStops replacement ended p = EndingStops ended p

abbrev pub ItemStops : ItemType → Bool → Parsing → Type 0
ItemStops k ended p = EitherStops (TailStops k) ended p

-- items, and then one whose reading stops
pub record ItemsStop (k : ItemType) (ended : Bool) (p : Parsing) : Type 0 where
  pub items : List Item
  pub next : Parsing
  pub taken : ItemsTaken k items p next
  pub stops : (peek_at is_any next ≡ Err ended) ⊎ (IsRead (peek_at is_any next) true next next × ItemStops k ended next)

-- the tokens of the text are items, and then one whose reading stops
pub record TextStops (k : ItemType) (source : List ℕ) (ended : Bool) : Type 0 where
  pub parser : Parsing
  pub tokens : AreTokensOf source parser.tokens parser.faulty
  pub cut : IsCut source parser.tokens parser.faulty parser.cut
  pub empty : parser.scope ≡ []
  pub live : parser.failed ≡ None
  pub stops : ItemsStop k ended parser

-- a parse error by a parser that had not failed: whether the error says that the text ended, the reading does
abbrev pub Stops : (Bool → Parsing → Type 0) → ParseError → Parsing → Type 0
Stops reading e p = IfRefused (cause_of e) (p.failed ≡ None → reading (at_end_of e) p)
