-- Definitions. The grammar: which tokens spell a value. Names are looked up in the scope, the statements before the node.
-- Tokens have no offsets here.
use Rattle.std.specs.Prelude.{◌≡◌, ◌⊎◌, ℕ, suc, ◌<◌, ◌^◌, List, [], ◌∷◌, ◌++◌, map, length, Option, Some, None, codes, bytes_eq, if◌then◌else◌, option_map}
use Rattle.souper_graph.specs.declared.ast.operands.«Type».{«Type» as Ty}
use Rattle.souper_graph.specs.declared.ast.operands.Constant.{Constant}
use Rattle.souper_graph.specs.declared.ast.operands.Operand.{Operand}
use Rattle.souper_graph.specs.declared.ast.operands.Operand.TheVariants.{Value, Constant as constant_variant}
use Rattle.souper_graph.specs.Instructions.{word_of, operands_of}
use Rattle.souper_graph.specs.Values.{PlainAttribute, known_bits as known_bits_attribute, power_of_two, negative, non_negative, non_zero, has_external_uses, sign_bits, range, PlainRootAttribute, demanded_bits, harvested_from_use, PlainRhs, var, block, phi, reserved_inst, reserved_const, instruction, PlainStatement, assigned, condition, block_condition, PlainInfer, PlainCand, Ending, inferred, resulting, replaced, candidate, Item}
use Rattle.souper_graph.specs.Syntax.Tokens.{Lexeme, ident, val_name, known_bits, int, comma, colon, equals, open_paren, close_paren, open_bracket, IsTextOf}
use Rattle.souper_graph.specs.Syntax.Numbers.{number_of, count_of, width_of, bits_of, known_bits_of}

-- tokens without their offsets
abbrev pub kinds : List (ℕ × Lexeme) → List Lexeme
kinds ts = map (λ t. t.1) ts

-- the statements before a node, whose names it may use
abbrev pub Scope : Type 0
Scope = List PlainStatement

-- a block's number of predecessors; none for any other right side
abbrev pub predecessors_if_block : PlainRhs → Option ℕ
predecessors_if_block (block b) = Some b.predecessors
predecessors_if_block _ = None

-- the position of the assignment of a name, and the number of predecessors of its block, if the first statement is at k
abbrev pub entry_from : ℕ → Scope → List ℕ → Option (ℕ × Option ℕ)
entry_from k [] n = None
entry_from k (assigned a ∷ ss) n = if bytes_eq a.name n then Some (k, predecessors_if_block a.value) else entry_from (suc k) ss n
entry_from k (s ∷ ss) n = entry_from (suc k) ss n

abbrev pub entry_of : Scope → List ℕ → Option (ℕ × Option ℕ)
entry_of s n = entry_from 0 s n

abbrev pub position_of : Scope → List ℕ → Option ℕ
position_of s n = option_map (λ e. e.0) (entry_of s n)

-- P holds of a prefix of the tokens, and Q of the rest
pub record Joined (P Q : List Lexeme → Type 0) (ts : List Lexeme) : Type 0 where
  pub prefix : List Lexeme
  pub suffix : List Lexeme
  pub whole : ts ≡ prefix ++ suffix
  pub first : P prefix
  pub second : Q suffix

-- ---- what forms are made of

-- which tokens have the form
abbrev pub Form : Type 1
Form = List Lexeme → Type 0

infixr 20 ◌·◌
-- F, and then G
abbrev pub ◌·◌ : Form → Form → Form
F · G = Joined F G

-- no token
abbrev pub nothing : Form
nothing = λ ts. ts ≡ []

-- this token alone
abbrev pub token : Lexeme → Form
token t = λ ts. ts ≡ t ∷ []

-- an Ident
abbrev pub word : List ℕ → Form
word w = token (ident w)

-- a token of this kind, whose content is read as v: `one int number_of v` is an Int that is read as v
abbrev pub one : {A : Type 0} → (List ℕ → Lexeme) → (List ℕ → Option A) → A → Form
one kind read v = λ ts. (w : List ℕ) × (ts ≡ kind w ∷ []) × (read w ≡ Some v)

-- nothing, or F
abbrev pub perhaps : Form → Form
perhaps F = λ ts. nothing ts ⊎ F ts

-- the form of the value, if there is one
abbrev pub optional : {A : Type 0} → (A → Form) → Option A → Form
optional F None = nothing
optional F (Some x) = F x

-- the form of each, in sequence
abbrev pub each : {A : Type 0} → (A → Form) → List A → Form
each F [] = nothing
each F (x ∷ xs) = F x · each F xs

-- ---- operands

-- type = an Ident 'i' and digits that read as 1 to 65535
abbrev pub type : Ty → Form
type t = one ident width_of t.width

-- ':' type
abbrev pub of_type : Ty → Form
of_type t = token colon · type t

-- constant = Int (':' type)?
abbrev pub constant : Constant → Form
constant c = one int number_of c.value · optional of_type c.ty

-- the name of the value at i, a ValName
abbrev pub value : Scope → ℕ → Form
value s i = one val_name (position_of s) i

-- operand = ValName | constant
abbrev pub operand : Scope → Operand → Form
operand s (Value i) = value s i
operand s (constant_variant c) = constant c

-- (',' operand)*
abbrev pub further : Scope → List Operand → Form
further s xs = each (λ x. token comma · operand s x) xs

-- operands with ',' between them
abbrev pub operands : Scope → List Operand → Form
operands s [] = nothing
operands s (x ∷ xs) = operand s x · further s xs

-- ---- right sides

-- the name of the block at i, of whose number of predecessors this holds
abbrev pub block_name : Scope → ℕ → (ℕ → Type 0) → Form
block_name s i Is = λ ts. (n : ℕ) × Is n × one val_name (entry_of s) (i, Some n) ts

-- number = an Int in the range given below
abbrev pub count : ℕ → Form
count n = one int (count_of (2 ^ 32)) n

-- rhs = 'var' | 'block' number | phi | 'reservedinst' | 'reservedconst' | instruction
-- phi = 'phi' ValName, then (',' operand) exactly once per predecessor of the block
-- instruction = its word, then its operands with ',' between them
abbrev pub rhs : Scope → PlainRhs → Form
rhs s var = word (codes "var")
rhs s (block b) = word (codes "block") · count b.predecessors
rhs s (phi p) = word (codes "phi") · block_name s p.block (λ n. n ≡ length p.values) · further s p.values
rhs s reserved_inst = word (codes "reservedinst")
rhs s reserved_const = word (codes "reservedconst")
rhs s (instruction i) = word (word_of i) · operands s (operands_of i)

-- ---- attributes

-- '(' F ')'
abbrev pub enclosed : Form → Form
enclosed F = token open_paren · F · token close_paren

-- attr = '(' KnownBits ')' | '(' 'powerOfTwo' ')' | '(' 'negative' ')' | '(' 'nonNegative' ')' | '(' 'nonZero' ')'
--   | '(' 'hasExternalUses' ')' | '(' 'signBits' '=' number ')' | '(' 'range' '=' '[' Int ',' Int ')' ')'
abbrev pub attribute : PlainAttribute → Form
attribute (known_bits_attribute bits) = enclosed (one known_bits known_bits_of bits)
attribute power_of_two = enclosed (word (codes "powerOfTwo"))
attribute negative = enclosed (word (codes "negative"))
attribute non_negative = enclosed (word (codes "nonNegative"))
attribute non_zero = enclosed (word (codes "nonZero"))
attribute has_external_uses = enclosed (word (codes "hasExternalUses"))
attribute (sign_bits n) = enclosed (word (codes "signBits") · token equals · one int (count_of (2 ^ 8)) n)
attribute (range low high) = enclosed (word (codes "range") · token equals · token open_bracket · one int number_of low · token comma · one int number_of high · token close_paren)

-- rootattr = '(' 'demandedBits' '=' bits ')' | '(' 'harvestedFromUse' ')'
-- bits = an Int of the digits 0 and 1 alone
abbrev pub root_attribute : PlainRootAttribute → Form
root_attribute (demanded_bits bits) = enclosed (word (codes "demandedBits") · token equals · one int bits_of bits)
root_attribute harvested_from_use = enclosed (word (codes "harvestedFromUse"))

-- ---- statements

-- a name that is not in scope
abbrev pub new_name : Scope → List ℕ → Form
new_name s n = λ ts. (ts ≡ val_name n ∷ []) × (position_of s n ≡ None)

-- statement = assignment | pc | blockpc
-- assignment = ValName (':' type)? '=' rhs attr*
-- pc = 'pc' operand operand
-- blockpc = 'blockpc' ValName number operand operand
abbrev pub statement : Scope → PlainStatement → Form
statement s (assigned a) = new_name s a.name · optional of_type a.ty · token equals · rhs s a.value · each attribute a.attributes
statement s (condition p) = word (codes "pc") · operand s p.x · operand s p.y
statement s (block_condition p) = word (codes "blockpc") · block_name s p.block (λ n. p.predecessor < n) · count p.predecessor · operand s p.x · operand s p.y

-- each in the scope of those before it
abbrev pub statements : Scope → List PlainStatement → Form
statements s [] = nothing
statements s (v ∷ vs) = statement s v · statements (s ++ v ∷ []) vs

-- ---- items

-- infer = 'infer' ValName rootattr*
abbrev pub infer : Scope → PlainInfer → Form
infer s i = word (codes "infer") · value s i.value · each root_attribute i.attributes

-- 'result' operand
abbrev pub result : Scope → Operand → Form
result s r = word (codes "result") · operand s r

-- cand = 'cand' operand ','? operand rootattr*
abbrev pub cand : Scope → PlainCand → Form
cand s c = word (codes "cand") · operand s c.lhs · perhaps (token comma) · operand s c.rhs · each root_attribute c.attributes

-- some first ones, and the last ones
abbrev pub parted : {A : Type 0} → List A → (List A → List A → Form) → Form
parted {A} xs F = λ ts. (first : List A) × (last : List A) × (xs ≡ first ++ last) × F first last ts

-- lefthandside = statement* infer
-- righthandside = statement* 'result' operand
-- replacement = statement* infer statement* 'result' operand | statement* cand
abbrev pub lines : Scope → List PlainStatement → Ending → Form
lines s vs (inferred i) = statements s vs · infer (s ++ vs) i
lines s vs (resulting r) = statements s vs · result (s ++ vs) r
lines s vs (replaced i r) = parted vs (λ first last. statements s first · infer (s ++ first) i · statements (s ++ first) last · result (s ++ vs) r)
lines s vs (candidate c) = statements s vs · cand (s ++ vs) c

-- the types of items
pub data ItemType : Type 0 where
  left_hand_side : ItemType
  right_hand_side : ItemType
  replacement : ItemType

-- the type of the items that end so
abbrev pub ending_type : Ending → ItemType
ending_type (inferred i) = left_hand_side
ending_type (resulting r) = right_hand_side
ending_type (replaced i r) = replacement
ending_type (candidate c) = replacement

abbrev pub IsEndingOf : ItemType → Ending → Type 0
IsEndingOf k e = ending_type e ≡ k

-- the further lines of an item of this type, which begins with the statements of the scope
abbrev pub item_after : ItemType → Scope → Item → Form
item_after k s a = λ ts. (ending_type a.ending ≡ k) × (vs : List PlainStatement) × (a.statements ≡ s ++ vs) × lines s vs a.ending ts

abbrev pub item : ItemType → Item → Form
item k a = item_after k [] a

-- item*
abbrev pub items : ItemType → List Item → Form
items k xs = each (item k) xs

-- ---- texts

-- the text spells the items
abbrev pub TextSpells : ItemType → List ℕ → List Item → Type 0
TextSpells k bs xs = (ts : List (ℕ × Lexeme)) × IsTextOf bs ts × items k xs (kinds ts)

-- the text spells no list of items of the type
abbrev pub SpellsNone : ItemType → List ℕ → Type 0
SpellsNone k bs = (xs : List Item) → TextSpells k bs xs → ⊥

-- a text spells at most one list of items of a type
abbrev pub OneList : Type 0
OneList = (k : ItemType) (bs : List ℕ) (a b : List Item) → TextSpells k bs a → TextSpells k bs b → a ≡ b
