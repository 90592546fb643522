-- What there is at the end of a text.
use Rattle.std.proofs.Common.{◌≡◌, ℕ, Bool, false, List, [], ◌∷◌, Ok, refl, sym, subst}
use Rattle.souper_graph.specs.Syntax.Tokens.{Lexeme}
use Rattle.souper_graph.specs.Syntax.Spelling.{kinds}
use Rattle.souper_ir.specs.Parsing.{Parsing}
use Rattle.souper_ir.specs.Grammar.{peek_at}
use Rattle.souper_ir.specs.NodeReadings.{is_any}
use Rattle.souper_ir.specs.Laws.Peeks.{Answers, peeked}

no_token : (faulty : Bool) (ts : List (ℕ × Lexeme)) → Answers is_any false faulty (kinds ts) → ts ≡ []
no_token faulty [] h = refl
no_token faulty (t ∷ ts) h = absurd (h refl)

-- no token comes
pub at_end : (p q : Parsing) → peek_at is_any p ≡ Ok (false, q) → q.tokens ≡ []
at_end p q e = let k = peeked is_any p q false e in subst (λ (x : Parsing). x.tokens ≡ []) (sym k.0) (no_token p.faulty p.tokens k.2)
