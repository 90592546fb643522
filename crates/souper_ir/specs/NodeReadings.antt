-- Definitions. How each node is read from the remaining tokens.
use Rattle.std.specs.Prelude.{ℕ, zero, suc, ◌^◌, Bool, true, false, List, [], ◌∷◌, Option, Some, None, Ok, Err, is_some, if◌then◌else◌, codes, bytes_eq, nat_lt}
use Rattle.souper_graph.specs.declared.ast.operands.«Type».{«Type» as Ty}
use Rattle.souper_graph.specs.declared.ast.operands.Constant.{Constant}
use Rattle.souper_graph.specs.declared.ast.operands.Operand.{Operand}
use Rattle.souper_graph.specs.declared.ast.operands.Operand.TheVariants.{Value, Constant as constant_variant}
use Rattle.souper_graph.specs.declared.ast.instructions.Instruction.{Instruction}
use Rattle.souper_graph.specs.declared.ast.statements.Block.{Block}
use Rattle.souper_graph.specs.declared.ast.statements.Pc.{Pc}
use Rattle.souper_graph.specs.declared.ast.statements.BlockPc.{BlockPc}
use Rattle.souper_graph.specs.Values.{PlainAttribute, known_bits as known_bits_attribute, power_of_two, negative, non_negative, non_zero, has_external_uses, sign_bits, range, PlainRootAttribute, demanded_bits, harvested_from_use, PlainPhi, PlainRhs, var, block, phi, reserved_inst, reserved_const, instruction, PlainStatement, assigned, condition, block_condition}
use Rattle.souper_graph.specs.Syntax.Tokens.{Lexeme, ident, val_name, known_bits, int, comma, colon, equals, open_paren, close_paren, open_bracket}
use Rattle.souper_graph.specs.Syntax.Numbers.{number_of, count_of, width_of, bits_of, known_bits_of}
use Rattle.souper_ir.specs.declared.parse.attributes.RootKind.{RootKind}
use Rattle.souper_ir.specs.declared.parse.attributes.RootKind.TheVariants.{DemandedBits, HarvestedFromUse}
use Rattle.souper_ir.specs.declared.parse.words.Opcode.{Opcode}
use Rattle.souper_ir.specs.declared.parse.words.RhsWord.{RhsWord}
use Rattle.souper_ir.specs.declared.parse.words.RhsWord.TheVariants.{Var as begins_var, Block as begins_block, Phi as begins_phi, ReservedInst as begins_reserved_inst, ReservedConst as begins_reserved_const, Instruction as begins_instruction}
use Rattle.souper_ir.specs.Words.{opcode_of, rhs_word_of, operand_count, instruction_by}
use Rattle.souper_graph.specs.Syntax.Spelling.{predecessors_if_block, entry_of, position_of}
use Rattle.souper_ir.specs.Parsing.{Parsing}
use Rattle.souper_graph.specs.Syntax.Optional.{◌>>=◌ as ◌>>?◌}
use Rattle.souper_ir.specs.Reading.{Reads, ◌>>=◌, looked_up, take_at}
use Rattle.souper_ir.specs.Grammar.{peek_at}

-- a token that means something
unfoldable pub accept : {A : Type 0} → (Lexeme → Option A) → Parsing → Reads A
accept meaning p = do
  t ← take_at p
  a ← looked_up (meaning t.0)
  Ok (a, t.1)

-- ---- single tokens

abbrev pub as_name : Lexeme → Option (List ℕ)
as_name (val_name n) = Some n
as_name _ = None

abbrev pub is_name : Lexeme → Bool
is_name (val_name n) = true
is_name _ = false

-- the punctuation marks, each a token of its own
abbrev pub as_mark : Lexeme → Lexeme → Option (Unit {0})
as_mark comma comma = Some tt
as_mark colon colon = Some tt
as_mark equals equals = Some tt
as_mark open_paren open_paren = Some tt
as_mark close_paren close_paren = Some tt
as_mark open_bracket open_bracket = Some tt
as_mark _ _ = None

abbrev pub is_mark : Lexeme → Lexeme → Bool
is_mark m t = is_some (as_mark m t)

abbrev pub is_word : List ℕ → Lexeme → Bool
is_word k (ident w) = bytes_eq w k
is_word k _ = false

abbrev pub as_word : List ℕ → Lexeme → Option (Unit {0})
as_word k t = if is_word k t then Some tt else None

abbrev pub is_int : Lexeme → Bool
is_int (int w) = true
is_int _ = false

abbrev pub is_any : Lexeme → Bool
is_any t = true

-- the number of an integer, from whatever reads the digits
abbrev pub int_by : {A : Type 0} → (List ℕ → Option A) → Lexeme → Option A
int_by read (int w) = read w
int_by read _ = None

abbrev pub ident_by : {A : Type 0} → (List ℕ → Option A) → Lexeme → Option A
ident_by read (ident w) = read w
ident_by read _ = None

abbrev pub type_of_word : List ℕ → Option Ty
type_of_word w = width_of w >>? λ n. Some (record { width = n })

-- ---- operands

abbrev pub type_at : Parsing → Reads Ty
type_at p = accept (ident_by type_of_word) p

abbrev pub optional_type_by : Bool → Parsing → Reads (Option Ty)
optional_type_by false p = Ok (None, p)
optional_type_by true p = do
  c ← accept (as_mark colon) p
  t ← type_at c.1
  Ok (Some t.0, t.1)

unfoldable pub optional_type_at : Parsing → Reads (Option Ty)
optional_type_at p = do
  b ← peek_at (is_mark colon) p
  optional_type_by b.0 b.1

unfoldable pub constant_at : Parsing → Reads Constant
constant_at p = do
  n ← accept (int_by number_of) p
  t ← optional_type_at n.1
  Ok (record { value = n.0; ty = t.0 }, t.1)

-- the operand of a name
unfoldable pub named_operand_at : List ℕ → Parsing → Reads Operand
named_operand_at n p = do
  i ← looked_up (position_of p.scope n)
  Ok (Value i, p)

abbrev pub operand_by : Bool → Parsing → Reads Operand
operand_by true p = do
  n ← accept as_name p
  i ← looked_up (position_of n.1.scope n.0)
  Ok (Value i, n.1)
operand_by false p = do
  c ← constant_at p
  Ok (constant_variant c.0, c.1)

unfoldable pub operand_at : Parsing → Reads Operand
operand_at p = do
  b ← peek_at is_name p
  operand_by b.0 b.1

-- an operand with a comma before it
unfoldable pub next_operand_at : Parsing → Reads Operand
next_operand_at p = do
  c ← accept (as_mark comma) p
  operand_at c.1

-- this number of operands, each with a comma before it
abbrev pub further_at : ℕ → Parsing → Reads (List Operand)
further_at zero p = Ok ([], p)
further_at (suc k) p = do
  c ← accept (as_mark comma) p
  x ← operand_at c.1
  xs ← further_at k x.1
  Ok (x.0 ∷ xs.0, xs.1)

-- this number of operands, with commas between them
abbrev pub operands_at : ℕ → Parsing → Reads (List Operand)
operands_at zero p = Ok ([], p)
operands_at (suc k) p = do
  x ← operand_at p
  xs ← further_at k x.1
  Ok (x.0 ∷ xs.0, xs.1)

-- ---- right sides

-- what follows the word of a block
unfoldable pub block_after_word_at : Parsing → Reads Block
block_after_word_at p = do
  n ← accept (int_by (count_of (2 ^ 32))) p
  Ok (record { predecessors = n.0 }, n.1)

unfoldable pub block_node_at : Parsing → Reads Block
block_node_at p = do
  k ← accept (as_word (codes "block")) p
  block_after_word_at k.1

-- the number of predecessors of a block
abbrev pub block_predecessors : PlainStatement → Option ℕ
block_predecessors (assigned a) = predecessors_if_block a.value
block_predecessors (condition p) = None
block_predecessors (block_condition p) = None

-- the block of a name, with its number of predecessors
abbrev pub block_entry : Option (ℕ × Option ℕ) → Option (ℕ × ℕ)
block_entry e = e >>? λ x. (x.1 >>? λ n. Some (x.0, n))

unfoldable pub block_name_at : Parsing → Reads (ℕ × ℕ)
block_name_at p = do
  n ← accept as_name p
  b ← looked_up (block_entry (entry_of n.1.scope n.0))
  Ok (b, n.1)

-- what follows the word of a phi
unfoldable pub phi_after_word_at : Parsing → Reads PlainPhi
phi_after_word_at p = do
  b ← block_name_at p
  xs ← further_at b.0.1 b.1
  Ok (record { block = b.0.0; values = xs.0 }, xs.1)

unfoldable pub phi_at : Parsing → Reads PlainPhi
phi_at p = do
  k ← accept (as_word (codes "phi")) p
  phi_after_word_at k.1

-- the instruction of an opcode, whose operands come next
unfoldable pub instruction_of_at : Opcode → Parsing → Reads Instruction
instruction_of_at o p = do
  xs ← operands_at (operand_count o) p
  i ← looked_up (instruction_by o xs.0)
  Ok (i, xs.1)

unfoldable pub instruction_at : Parsing → Reads Instruction
instruction_at p = do
  o ← accept (ident_by opcode_of) p
  instruction_of_at o.0 o.1

abbrev pub starts_instruction : Lexeme → Bool
starts_instruction t = is_some (ident_by opcode_of t)

abbrev pub rhs_word_by : Bool → Parsing → Reads RhsWord
rhs_word_by false p = Err true
rhs_word_by true p = accept (ident_by rhs_word_of) p

unfoldable pub rhs_word_at : Parsing → Reads RhsWord
rhs_word_at p = do
  b ← peek_at is_any p
  rhs_word_by b.0 b.1

-- the right side whose word was taken
abbrev pub rhs_by : RhsWord → Parsing → Reads PlainRhs
rhs_by begins_var p = Ok (var, p)
rhs_by begins_block p = do
  b ← block_after_word_at p
  Ok (block b.0, b.1)
rhs_by begins_phi p = do
  f ← phi_after_word_at p
  Ok (phi f.0, f.1)
rhs_by begins_reserved_inst p = Ok (reserved_inst, p)
rhs_by begins_reserved_const p = Ok (reserved_const, p)
rhs_by (begins_instruction o) p = do
  i ← instruction_of_at o p
  Ok (instruction i.0, i.1)

unfoldable pub rhs_at : Parsing → Reads PlainRhs
rhs_at p = do
  w ← rhs_word_at p
  rhs_by w.0 w.1

-- ---- attributes

-- an attribute that is a word alone, or what a longer one begins with
pub data AttributeKind : Type 0 where
  plain_kind : PlainAttribute → AttributeKind
  bits_kind : List ℕ → AttributeKind
  sign_bits_kind : AttributeKind
  range_kind : AttributeKind

abbrev pub attribute_kind_of_word : List ℕ → Option AttributeKind
attribute_kind_of_word w =
    if bytes_eq w (codes "powerOfTwo") then Some (plain_kind power_of_two) else (
    if bytes_eq w (codes "negative") then Some (plain_kind negative) else (
    if bytes_eq w (codes "nonNegative") then Some (plain_kind non_negative) else (
    if bytes_eq w (codes "nonZero") then Some (plain_kind non_zero) else (
    if bytes_eq w (codes "hasExternalUses") then Some (plain_kind has_external_uses) else (
    if bytes_eq w (codes "signBits") then Some sign_bits_kind else (
    if bytes_eq w (codes "range") then Some range_kind else None))))))

abbrev pub attribute_kind_of : Lexeme → Option AttributeKind
attribute_kind_of (known_bits s) = Some (bits_kind s)
attribute_kind_of (ident w) = attribute_kind_of_word w
attribute_kind_of _ = None

abbrev pub attribute_by : AttributeKind → Parsing → Reads PlainAttribute
attribute_by (plain_kind a) p = Ok (a, p)
attribute_by (bits_kind s) p = do
  bits ← looked_up (known_bits_of s)
  Ok (known_bits_attribute bits, p)
attribute_by sign_bits_kind p = do
  e ← accept (as_mark equals) p
  n ← accept (int_by (count_of (2 ^ 8))) e.1
  Ok (sign_bits n.0, n.1)
attribute_by range_kind p = do
  e ← accept (as_mark equals) p
  o ← accept (as_mark open_bracket) e.1
  low ← accept (int_by number_of) o.1
  c ← accept (as_mark comma) low.1
  high ← accept (int_by number_of) c.1
  k ← accept (as_mark close_paren) high.1
  Ok (range low.0 high.0, k.1)

unfoldable pub attribute_at : Parsing → Reads PlainAttribute
attribute_at p = do
  o ← accept (as_mark open_paren) p
  k ← accept attribute_kind_of o.1
  a ← attribute_by k.0 k.1
  c ← accept (as_mark close_paren) a.1
  Ok (a.0, c.1)

-- what a root attribute begins with: the word `demandedBits`, or `harvestedFromUse`
abbrev pub root_kind_of_word : List ℕ → Option RootKind
root_kind_of_word w = if bytes_eq w (codes "demandedBits") then Some DemandedBits else (if bytes_eq w (codes "harvestedFromUse") then Some HarvestedFromUse else None)

abbrev pub root_attribute_by : RootKind → Parsing → Reads PlainRootAttribute
root_attribute_by HarvestedFromUse p = Ok (harvested_from_use, p)
root_attribute_by DemandedBits p = do
  e ← accept (as_mark equals) p
  bits ← accept (int_by bits_of) e.1
  Ok (demanded_bits bits.0, bits.1)

unfoldable pub root_attribute_at : Parsing → Reads PlainRootAttribute
root_attribute_at p = do
  o ← accept (as_mark open_paren) p
  k ← accept (ident_by root_kind_of_word) o.1
  a ← root_attribute_by k.0 k.1
  c ← accept (as_mark close_paren) a.1
  Ok (a.0, c.1)

-- ---- statements, up to their attributes

-- an assignment up to its attributes
pub record Definition : Type 0 where
  pub name : List ℕ
  pub ty : Option Ty
  pub value : PlainRhs

-- nothing if the name is taken
abbrev pub fresh : Option ℕ → Option (Unit {0})
fresh o = if is_some o then None else Some tt

-- nothing, if the name is not in scope
unfoldable pub new_name_at : List ℕ → Parsing → Reads (Unit {0})
new_name_at n p = do
  f ← looked_up (fresh (position_of p.scope n))
  Ok (f, p)

-- a type, if there is one, and the equals sign
unfoldable pub type_and_equals_at : Parsing → Reads (Option Ty)
type_and_equals_at p = do
  t ← optional_type_at p
  e ← accept (as_mark equals) t.1
  Ok (t.0, e.1)

-- a name that is not in scope, a type, and the equals sign
unfoldable pub heading_at : Parsing → Reads (List ℕ × Option Ty)
heading_at p = do
  n ← accept as_name p
  f ← looked_up (fresh (position_of n.1.scope n.0))
  t ← type_and_equals_at n.1
  Ok ((n.0, t.0), t.1)

unfoldable pub definition_at : Parsing → Reads Definition
definition_at p = do
  h ← heading_at p
  r ← rhs_at h.1
  Ok (record { name = h.0.0; ty = h.0.1; value = r.0 }, r.1)

-- a name, or the word of a path condition
abbrev pub starts_statement : Lexeme → Bool
starts_statement (val_name n) = true
starts_statement (ident w) = if bytes_eq w (codes "pc") then true else bytes_eq w (codes "blockpc")
starts_statement _ = false

unfoldable pub pc_at : Parsing → Reads Pc
pc_at p = do
  k ← accept (as_word (codes "pc")) p
  x ← operand_at k.1
  y ← operand_at x.1
  Ok (record { x = x.0; y = y.0 }, y.1)

-- the number, if it denotes a predecessor of the block
abbrev pub predecessor_below : ℕ → ℕ → Option ℕ
predecessor_below count n = if nat_lt n count then Some n else None

unfoldable pub block_pc_at : Parsing → Reads BlockPc
block_pc_at p = do
  k ← accept (as_word (codes "blockpc")) p
  b ← block_name_at k.1
  n ← accept (int_by (count_of (2 ^ 32))) b.1
  w ← looked_up (predecessor_below b.0.1 n.0)
  x ← operand_at n.1
  y ← operand_at x.1
  Ok (record { block = b.0.0; predecessor = w; x = x.0; y = y.0 }, y.1)

-- ---- last lines, up to their attributes

unfoldable pub root_at : Parsing → Reads ℕ
root_at p = do
  k ← accept (as_word (codes "infer")) p
  n ← accept as_name k.1
  i ← looked_up (position_of n.1.scope n.0)
  Ok (i, n.1)

abbrev pub comma_by : Bool → Parsing → Reads (Unit {0})
comma_by false p = Ok (tt, p)
comma_by true p = accept (as_mark comma) p

unfoldable pub optional_comma_at : Parsing → Reads (Unit {0})
optional_comma_at p = do
  b ← peek_at (is_mark comma) p
  comma_by b.0 b.1

unfoldable pub pair_at : Parsing → Reads (Operand × Operand)
pair_at p = do
  k ← accept (as_word (codes "cand")) p
  x ← operand_at k.1
  c ← optional_comma_at x.1
  y ← operand_at c.1
  Ok ((x.0, y.0), y.1)

unfoldable pub result_at : Parsing → Reads Operand
result_at p = do
  k ← accept (as_word (codes "result")) p
  operand_at k.1
