-- The items that a text spells are well formed.
use Rattle.std.proofs.Common.{◌≡◌, ◌⊎◌, ℕ, Bool, ◌+◌, ◌<◌, List, [], ◌∷◌, ◌++◌, length, Option, Some, None, refl, sym, ◌∙◌, ap, subst, inl, inr, append_assoc}
use Rattle.std.specs.Prelude.{slice_get}
use Rattle.std.specs.List.{AllByRecursion}
use Rattle.std.proofs.lemmas.List.{append-nil}
use Rattle.souper_graph.specs.declared.ast.operands.«Type».{«Type» as Ty}
use Rattle.souper_graph.specs.declared.ast.operands.Constant.{Constant}
use Rattle.souper_graph.specs.declared.ast.operands.Operand.{Operand}
use Rattle.souper_graph.specs.declared.ast.operands.Operand.TheVariants.{Value, Constant as constant_variant}
use Rattle.souper_graph.specs.Values.{PlainAttribute, known_bits, power_of_two, negative, non_negative, non_zero, has_external_uses, sign_bits, range, PlainRootAttribute, demanded_bits, harvested_from_use, PlainRhs, var, block, phi, reserved_inst, reserved_const, instruction, PlainStatement, assigned, condition, block_condition, PlainInfer, PlainCand, Ending, inferred, resulting, replaced, candidate, Item}
use Rattle.souper_graph.specs.Instructions.{operands_of}
use Rattle.souper_graph.specs.Names.{IsName}
use Rattle.souper_graph.specs.Uses.{Use, value_use, block_use, uses_of_operand, uses_of_operands, uses_of_rhs, uses_of, roots_of}
use Rattle.souper_graph.specs.WellFormed.{FitsOptionalType, FitsConstant, FitsOperand, FitsRhs, FitsAttribute, FitsRootAttribute, FitsAssignment, FitsStatement, AgreesRhs, AgreesWithBlock, Closed, FitsInfer, FitsEnding, WellFormed, AreMet}
use Rattle.souper_graph.specs.Unneeded.{EachClosed}
use Rattle.souper_graph.specs.Syntax.Tokens.{Lexeme, val_name, spelling, IsLexeme, Begins}
use Rattle.souper_graph.specs.Syntax.TokenLaws.{AreTokensOf}
use Rattle.souper_graph.specs.Syntax.Spelling.{kinds, Scope, position_of, statement, infer, cand, ItemType, Form, items, TextSpells, entry_of, ◌·◌, optional, of_type, constant, operand, further, operands, rhs, attribute, root_attribute, each, statements, lines, item, result}
use Rattle.souper_graph.proofs.Forms.Bits.{bits_means, known_bits_means}
use Rattle.souper_graph.proofs.Judging.Closed.{All-first, All-second}
use Rattle.souper_ir.specs.Parsing.{Parsing}
use Rattle.souper_ir.specs.Laws.Steps.{kinds-append}
use Rattle.souper_ir.proofs.Nodes.Limits.{number_fits, count_fits, width_fits}
use Rattle.souper_ir.specs.NamesView.{Named}
use Rattle.souper_names.proofs.Tables.{get_push}
use Rattle.souper_ir.proofs.Scope.Growing.{nothing_named, named_push, named_pass, AllReach, none_reach, both_reach, one_reaches, value_reaches, block_reaches, met_kept, closed_kept}

abbrev AllLexemes : List Lexeme → Type 0
AllLexemes ts = AllByRecursion IsLexeme ts

begun : (n : ℕ) (bs : List ℕ) (ts : List (ℕ × Lexeme)) (rest : List ℕ) → Begins n bs ts rest → AllLexemes (kinds ts)
begun n bs [] rest h = tt
begun n bs (t ∷ ts) rest h = (h.stands.is_token, begun (t.0 + length (spelling t.1)) h.after ts rest h.more)

-- ---- operands and right sides

type_fits : (o : Option Ty) (ts : List Lexeme) → optional of_type o ts → FitsOptionalType o
type_fits None ts m = tt
type_fits (Some t) ts m = width_fits m.second.0 t.width m.second.2

constant_fits : (c : Constant) (ts : List Lexeme) → constant c ts → FitsConstant c
constant_fits c ts m = (number_fits m.first.0 c.value m.first.2, type_fits c.ty m.suffix m.second)

-- the uses are of statements in the scope, and the operands themselves are valid
abbrev Sits : Scope → Operand → Type 0
Sits s x = AllReach s (uses_of_operand x) × FitsOperand x

abbrev AllSit : Scope → List Operand → Type 0
AllSit s xs = AllReach s (uses_of_operands xs) × AllByRecursion FitsOperand xs

operand_sits : (s : Scope) (x : Operand) (ts : List Lexeme) → operand s x ts → Sits s x
operand_sits s (Value i) ts m = (one_reaches s (value_use i) [] (value_reaches s m.0 i m.2) (none_reach s), tt)
operand_sits s (constant_variant c) ts m = (none_reach s, constant_fits c ts m)

one_more : (s : Scope) (x : Operand) (xs : List Operand) → Sits s x → AllSit s xs → AllSit s (x ∷ xs)
one_more s x xs h hs = (both_reach s (uses_of_operand x) (uses_of_operands xs) h.0 hs.0, (h.1, hs.1))

further_sit : (s : Scope) (xs : List Operand) (ts : List Lexeme) → further s xs ts → AllSit s xs
further_sit s [] ts m = (none_reach s, tt)
further_sit s (x ∷ xs) ts m = one_more s x xs (operand_sits s x m.first.suffix m.first.second) (further_sit s xs m.suffix m.second)

operands_sit : (s : Scope) (xs : List Operand) (ts : List Lexeme) → operands s xs ts → AllSit s xs
operands_sit s [] ts m = (none_reach s, tt)
operands_sit s (x ∷ xs) ts m = one_more s x xs (operand_sits s x m.prefix m.first) (further_sit s xs m.suffix m.second)

pair_sits : (s : Scope) (x y : Operand) (ts : List Lexeme) → (operand s x · operand s y) ts → Sits s x × Sits s y
pair_sits s x y ts m = (operand_sits s x m.prefix m.first, operand_sits s y m.suffix m.second)

abbrev RhsSits : Scope → PlainRhs → Type 0
RhsSits s v = AllReach s (uses_of_rhs v) × FitsRhs v × AgreesRhs s v

rhs_sits : (s : Scope) (v : PlainRhs) (ts : List Lexeme) → rhs s v ts → RhsSits s v
rhs_sits s var ts m = (none_reach s, tt, tt)
rhs_sits s (block b) ts m = (none_reach s, count_fits _ m.second.0 b.predecessors m.second.2, tt)
rhs_sits s (phi p) ts m =
    let named = m.second.first in
    let entry = block_reaches s named.2.0 p.block (length p.values) (subst (λ (n : ℕ). entry_of s named.2.0 ≡ Some (p.block, Some n)) named.1 named.2.2) in
    let values = further_sit s p.values m.second.suffix m.second.second in
    (one_reaches s (block_use p.block) (uses_of_operands p.values) entry.0 values.0, values.1, entry.1)
rhs_sits s reserved_inst ts m = (none_reach s, tt, tt)
rhs_sits s reserved_const ts m = (none_reach s, tt, tt)
rhs_sits s (instruction i) ts m =
    let values = operands_sit s (operands_of i) m.suffix m.second in
    (values.0, values.1, tt)

-- ---- attributes

attribute_fits : (a : PlainAttribute) (ts : List Lexeme) → attribute a ts → FitsAttribute a
attribute_fits (known_bits bits) ts m = (known_bits_means m.second.first.0 bits m.second.first.2).1
attribute_fits power_of_two ts m = tt
attribute_fits negative ts m = tt
attribute_fits non_negative ts m = tt
attribute_fits non_zero ts m = tt
attribute_fits has_external_uses ts m = tt
attribute_fits (sign_bits n) ts m = let x = m.second.first.second.second in count_fits _ x.0 n x.2
attribute_fits (range low high) ts m =
    let x = m.second.first.second.second.second in
    let y = x.second.second.first in
    (number_fits x.first.0 low x.first.2, number_fits y.0 high y.2)

each_fits : {X : Type 0} (F : X → Form) (Fits : X → Type 0) → ((x : X) (ts : List Lexeme) → F x ts → Fits x) → (xs : List X) (ts : List Lexeme) → each F xs ts → AllByRecursion Fits xs
each_fits F Fits fits [] ts m = tt
each_fits F Fits fits (x ∷ xs) ts m = (fits x m.prefix m.first, each_fits F Fits fits xs m.suffix m.second)

root_attribute_fits : (a : PlainRootAttribute) (ts : List Lexeme) → root_attribute a ts → FitsRootAttribute a
root_attribute_fits (demanded_bits bits) ts m = let x = m.second.first.second.second in (bits_means x.0 bits x.2).1
root_attribute_fits harvested_from_use ts m = tt

-- ---- statements

name_lexeme : (n : List ℕ) → IsLexeme (val_name n) → IsName n
name_lexeme [] h = h
name_lexeme (c ∷ s) h = h

abbrev StatementSits : Scope → PlainStatement → Type 0
StatementSits s v = AllReach s (uses_of v) × FitsStatement v × AgreesWithBlock s v

statement_sits : (s : Scope) (v : PlainStatement) (ts : List Lexeme) → AllLexemes ts → statement s v ts → StatementSits s v
statement_sits s (assigned a) ts l m =
    let x = m.second.second.second in
    let value = rhs_sits s a.value x.prefix x.first in
    let fits : FitsAssignment a = record {
      name_fits = name_lexeme a.name (subst AllLexemes (m.whole ∙ ap (λ (y : List Lexeme). y ++ m.suffix) m.first.0) l).0;
      type_fits = type_fits a.ty m.second.prefix m.second.first;
      value_fits = value.1;
      attributes_fit = each_fits attribute FitsAttribute attribute_fits a.attributes x.suffix x.second;
    } in
    (value.0, fits, value.2)
statement_sits s (condition p) ts l m =
    let k = pair_sits s p.x p.y m.suffix m.second in
    (both_reach s (uses_of_operand p.x) (uses_of_operand p.y) k.0.0 k.1.0, (k.0.1, k.1.1), tt)
statement_sits s (block_condition p) ts l m =
    let named = m.second.first in
    let number = m.second.second.first in
    let entry = block_reaches s named.2.0 p.block named.0 named.2.2 in
    let k = pair_sits s p.x p.y m.second.second.suffix m.second.second.second in (
      one_reaches s (block_use p.block) (uses_of_operand p.x ++ uses_of_operand p.y) entry.0 (both_reach s (uses_of_operand p.x) (uses_of_operand p.y) k.0.0 k.1.0),
      (count_fits _ number.0 p.predecessor number.2, k.0.1, k.1.1),
      subst (λ (n : ℕ). p.predecessor < n) entry.1 named.1,
    )

-- each statement is valid at its position
abbrev AllClosed : Scope → Type 0
AllClosed ss = (p : ℕ) (v : PlainStatement) → slice_get ss p ≡ Some v → Closed ss p v

abbrev IsGood : Scope → Type 0
IsGood ss = Named ss × AllClosed ss

nothing_good : IsGood []
nothing_good = (nothing_named, λ p v e. absurd (let no : ◌≡◌ {A = Option PlainStatement} None (Some v) = e in cc))

closed_push : (ss : Scope) (s : PlainStatement) → AllClosed ss → StatementSits ss s → AllClosed (ss ++ s ∷ [])
closed_push ss s before sits p v e = by_place (get_push ss s v p e)
  where
    last : Closed (ss ++ s ∷ []) (length ss) s
    last = closed_kept ss (s ∷ []) (length ss) s (record {
      fits = sits.1;
      below = λ u h. (sits.0 u h).0;
      met = λ u h. (sits.0 u h).1;
      agrees = sits.2;
    })

    by_place : (slice_get ss p ≡ Some v) ⊎ ((p ≡ length ss) × (s ≡ v)) → Closed (ss ++ s ∷ []) p v
    by_place (inl h) = closed_kept ss (s ∷ []) p v (before p v h)
    by_place (inr h) = subst (λ (x : PlainStatement). Closed (ss ++ s ∷ []) p x) h.1 (subst (λ (i : ℕ). Closed (ss ++ s ∷ []) i s) (sym h.0) last)

named_more : (s : Scope) (v : PlainStatement) (ts : List Lexeme) → Named s → statement s v ts → Named (s ++ v ∷ [])
named_more s (assigned a) ts named m = named_push s a named m.first.1
named_more s (condition p) ts named m = named_pass s (condition p) named refl
named_more s (block_condition p) ts named m = named_pass s (block_condition p) named refl

stated_good : (s : Scope) (vs : List PlainStatement) (ts : List Lexeme) → AllLexemes ts → IsGood s → statements s vs ts → IsGood (s ++ vs)
stated_good s [] ts l good m = subst IsGood (sym (append-nil s)) good
stated_good s (v ∷ vs) ts l good m =
    let lexemes : AllLexemes (m.prefix ++ m.suffix) = subst AllLexemes m.whole l in
    let sits = statement_sits s v m.prefix (All-first IsLexeme m.prefix m.suffix lexemes) m.first in
    subst IsGood (append_assoc s (v ∷ []) vs)
    (stated_good (s ++ v ∷ []) vs m.suffix (All-second IsLexeme m.prefix m.suffix lexemes) (named_more s v m.prefix good.0 m.first, closed_push s v good.1 sits) m.second)

-- ---- last lines

-- the last lines of an item are valid by themselves
abbrev Ends : Scope → Ending → Type 0
Ends ss y = AreMet ss (roots_of y) × FitsEnding y

met : (s : Scope) (us : List Use) → AllReach s us → AreMet s us
met s us h u k = (h u k).1

infer_reaches : (s : Scope) (i : PlainInfer) (ts : List Lexeme) → infer s i ts → AllReach s (value_use i.value ∷ [])
infer_reaches s i ts m = let named = m.second.first in one_reaches s (value_use i.value) [] (value_reaches s named.0 i.value named.2) (none_reach s)

infer_fits : (s : Scope) (i : PlainInfer) (ts : List Lexeme) → infer s i ts → FitsInfer i
infer_fits s i ts m = each_fits root_attribute FitsRootAttribute root_attribute_fits i.attributes m.second.suffix m.second.second

replaced_met : (s new : Scope) (i : PlainInfer) (r : Operand) → AllReach s (value_use i.value ∷ []) → Sits (s ++ new) r → AreMet (s ++ new) (roots_of (replaced i r))
replaced_met s new i r root sits u (inl e) = met_kept s new u (root u (inl e)).1
replaced_met s new i r root sits u (inr h) = (sits.0 u h).1

cand_ends : (s : Scope) (c : PlainCand) (ts : List Lexeme) → cand s c ts → Ends s (candidate c)
cand_ends s c ts m =
    let x = m.second in
    let y = x.second.second in
    let first = operand_sits s c.lhs x.prefix x.first in
    let second = operand_sits s c.rhs y.prefix y.first in
    let roots : AllReach s (uses_of_operand c.lhs ++ uses_of_operand c.rhs) = both_reach s (uses_of_operand c.lhs) (uses_of_operand c.rhs) first.0 second.0 in (
      met s (roots_of (candidate c)) (both_reach s (uses_of_operand c.lhs ++ uses_of_operand c.rhs) [] roots (none_reach s)),
      (first.1, second.1, each_fits root_attribute FitsRootAttribute root_attribute_fits c.attributes y.suffix y.second),
    )

abbrev EndsGood : Scope → Ending → Type 0
EndsGood ss y = IsGood ss × Ends ss y

-- the lines of an item
lines_good : (vs : Scope) (y : Ending) (ts : List Lexeme) → AllLexemes ts → lines [] vs y ts → EndsGood vs y
lines_good vs (inferred i) ts l m =
    (stated_good [] vs m.prefix (All-first IsLexeme m.prefix m.suffix (subst AllLexemes m.whole l)) nothing_good m.first, (met vs (roots_of (inferred i)) (infer_reaches vs i m.suffix m.second), infer_fits vs i m.suffix m.second))
lines_good vs (resulting r) ts l m =
    let x = m.second in
    let sits = operand_sits vs r x.suffix x.second in
    (stated_good [] vs m.prefix (All-first IsLexeme m.prefix m.suffix (subst AllLexemes m.whole l)) nothing_good m.first, (met vs (roots_of (resulting r)) (both_reach vs (uses_of_operand r) [] sits.0 (none_reach vs)), sits.1))
lines_good vs (replaced i r) ts l m =
    let x = m.3 in
    let y = x.second in
    let z = y.second in
    let all : AllLexemes (x.prefix ++ x.suffix) = subst AllLexemes x.whole l in
    let behind : AllLexemes (y.prefix ++ y.suffix) = subst AllLexemes y.whole (All-second IsLexeme x.prefix x.suffix all) in
    let middle : AllLexemes (z.prefix ++ z.suffix) = subst AllLexemes z.whole (All-second IsLexeme y.prefix y.suffix behind) in
    let good = stated_good m.0 m.1 z.prefix (All-first IsLexeme z.prefix z.suffix middle) (stated_good [] m.0 x.prefix (All-first IsLexeme x.prefix x.suffix all) nothing_good x.first) z.first in
    let last : result (m.0 ++ m.1) r z.suffix = subst (λ (s : Scope). result s r z.suffix) m.2 z.second in
    let sits = operand_sits (m.0 ++ m.1) r last.suffix last.second in
    subst (λ (s : Scope). EndsGood s (replaced i r)) (sym m.2) (good, (replaced_met m.0 m.1 i r (infer_reaches m.0 i y.prefix y.first) sits, (infer_fits m.0 i y.prefix y.first, sits.1)))
lines_good vs (candidate c) ts l m = (stated_good [] vs m.prefix (All-first IsLexeme m.prefix m.suffix (subst AllLexemes m.whole l)) nothing_good m.first, cand_ends vs c m.suffix m.second)

-- ---- items

item_closed : (k : ItemType) (a : Item) (ts : List Lexeme) → AllLexemes ts → item k a ts → EachClosed a
item_closed k a ts l m =
    let whole : EndsGood a.statements a.ending = subst (λ (x : Scope). EndsGood x a.ending) (sym m.2) (lines_good m.1 a.ending ts l m.3) in
    record {
      roots_met = whole.1.0;
      ending_fits = whole.1.1;
      closed = whole.0.1;
      named_apart = λ p q v w ep eq same.
          let both : Some p ≡ Some q = sym (whole.0.0 p v ep) ∙ ap (position_of a.statements) same ∙ whole.0.0 q w eq in cc;
    }

pub closed_well : (a : Item) → EachClosed a → WellFormed a
closed_well a h = record {
  roots_met = h.roots_met;
  ending_fits = h.ending_fits;
  closed = λ p s needed e. h.closed p s e;
  named_apart = λ p q v w np nq e f same. h.named_apart p q v w e f same;
}

all_closed : (k : ItemType) (xs : List Item) (ts : List Lexeme) → AllLexemes ts → items k xs ts → AllByRecursion EachClosed xs
all_closed k [] ts l m = tt
all_closed k (a ∷ xs) ts l m =
    let lexemes : AllLexemes (m.prefix ++ m.suffix) = subst AllLexemes m.whole l in
    (item_closed k a m.prefix (All-first IsLexeme m.prefix m.suffix lexemes) m.first, all_closed k xs m.suffix (All-second IsLexeme m.prefix m.suffix lexemes) m.second)

-- such items are well formed
pub all_well : (xs : List Item) → AllByRecursion EachClosed xs → AllByRecursion WellFormed xs
all_well [] h = tt
all_well (a ∷ xs) h = (closed_well a h.0, all_well xs h.1)

-- the tokens of a text are tokens
pub text_lexemes : (bs : List ℕ) (ts : List (ℕ × Lexeme)) (faulty : Bool) → AreTokensOf bs ts faulty → AllLexemes (kinds ts)
text_lexemes bs ts faulty h = begun 0 bs ts h.rest h.front

-- an item that was taken from tokens is well formed
pub taken_well : (k : ItemType) (a : Item) (p q r : Parsing) → AllLexemes (kinds p.tokens) → (taken : List (ℕ × Lexeme)) → p.tokens ≡ taken ++ q.tokens → (used : List (ℕ × Lexeme)) → q.tokens ≡ used ++ r.tokens → item k a (kinds used) → WellFormed a
taken_well k a p q r l taken parts used more m =
    let behind : AllLexemes (kinds q.tokens) = All-second IsLexeme (kinds taken) (kinds q.tokens) (subst AllLexemes (ap kinds parts ∙ kinds-append taken q.tokens) l) in
    closed_well a (item_closed k a (kinds used) (All-first IsLexeme (kinds used) (kinds r.tokens) (subst AllLexemes (ap kinds more ∙ kinds-append used r.tokens) behind)) m)

-- each statement of the items of a text is valid at its position
pub text_closed : (k : ItemType) (xs : List Item) (bs : List ℕ) → TextSpells k bs xs → AllByRecursion EachClosed xs
text_closed k xs bs h = all_closed k xs (kinds h.0) (begun 0 bs h.0 h.1.0 h.1.1) h.2
