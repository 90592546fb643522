-- A term and the numbers after it are taken one after the other.
use Rattle.std.proofs.Common.{◌≡◌, ℕ, List, [], ◌∷◌, ◌++◌, map, refl, ap, sym, ◌∙◌, subst}
use Rattle.souper_graph.specs.declared.ast.operands.Constant.{Constant}
use Rattle.souper_graph.specs.declared.ast.instructions.Instruction.{Instruction}
use Rattle.souper_graph.specs.Values.{instruction}
use Rattle.souper_graph.specs.Syntax.Tokens.{Lexeme}
use Rattle.souper_graph.specs.Syntax.TokenLaws.{AreTokensOf}
use Rattle.souper_graph.specs.Syntax.Spelling.{kinds, Scope, constant, rhs}
use Rattle.souper_ir.specs.Continuation.{constant_continues, instruction_continues}
use Rattle.souper_ir.specs.Grammar.{Members, Took}
use Rattle.souper_ir.specs.Parsing.{Parsing}
use Rattle.examples_using.specs.declared.fragments.Term.{Term}
use Rattle.examples_using.specs.declared.fragments.Term.TheVariants.{Number, Operation}
use Rattle.examples_using.specs.Terms.{BeginsWithTerm, term_spells}

same : (cs : List Constant) → map (λ (c : Constant). c) cs ≡ cs
same [] = refl
same (c ∷ cs) = ap (λ (xs : List Constant). c ∷ xs) (same cs)

abbrev TookNumbers : (List Constant → Lexeme → Type 0) → List Constant → Parsing → Parsing → Type 0
TookNumbers continues numbers q r = Took (λ (s : Scope). Members constant constant_continues) continues (λ s. s) (map (λ (c : Constant). c) numbers) q r

of_parts : {continues : List Constant → Lexeme → Type 0} (source : List ℕ) (term : Term) (numbers : List Constant) (p q r : Parsing) (used : List (ℕ × Lexeme))
    → AreTokensOf source p.tokens p.faulty → p.tokens ≡ used ++ q.tokens → term_spells term (kinds used) → TookNumbers continues numbers q r → BeginsWithTerm source term numbers
of_parts source term numbers p q r used are parts spelled taken = record {
  first = used;
  second = taken.used;
  rest = r.tokens;
  faulty = p.faulty;
  tokens = subst (λ (ts : List (ℕ × Lexeme)). AreTokensOf source ts p.faulty) (parts ∙ ap (λ (ts : List (ℕ × Lexeme)). used ++ ts) taken.parts) are;
  term_spelled = spelled;
  numbers_spelled = subst (λ (cs : List Constant). Members constant constant_continues cs (kinds taken.used)) (same numbers) taken.spelled;
}

pub of_number : {continues : List Constant → Lexeme → Type 0} (source : List ℕ) (c : Constant) (term : Term) (numbers : List Constant) (p k q later r : Parsing)
    → AreTokensOf source p.tokens p.faulty → k ≡ p → term ≡ Number c → Took (λ (s : Scope). constant) constant_continues (λ s. s) c k q
    → later ≡ q → TookNumbers continues numbers later r → BeginsWithTerm source term numbers
of_number {continues} source c term numbers p k q later r are peeked is taken then numbers_taken =
    subst (λ (t : Term). BeginsWithTerm source t numbers) (sym is)
    (of_parts source (Number c) numbers p q r taken.used are (ap (λ (x : Parsing). x.tokens) (sym peeked) ∙ taken.parts) taken.spelled
    (subst (λ (x : Parsing). TookNumbers continues numbers x r) then numbers_taken))

pub of_operation : {continues : List Constant → Lexeme → Type 0} (source : List ℕ) (i : Instruction) (term : Term) (numbers : List Constant) (p k q later r : Parsing)
    → AreTokensOf source p.tokens p.faulty → p.scope ≡ [] → k ≡ p → term ≡ Operation i → Took (λ s i. rhs s (instruction i)) instruction_continues (λ s. s) i k q
    → later ≡ q → TookNumbers continues numbers later r → BeginsWithTerm source term numbers
of_operation {continues} source i term numbers p k q later r are empty peeked is taken then numbers_taken =
    subst (λ (t : Term). BeginsWithTerm source t numbers) (sym is)
    (of_parts source (Operation i) numbers p q r taken.used are (ap (λ (x : Parsing). x.tokens) (sym peeked) ∙ taken.parts)
    (subst (λ (s : Scope). rhs s (instruction i) (kinds taken.used)) (ap (λ (x : Parsing). x.scope) peeked ∙ empty) taken.spelled)
    (subst (λ (x : Parsing). TookNumbers continues numbers x r) then numbers_taken))
