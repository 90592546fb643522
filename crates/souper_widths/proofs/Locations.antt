-- Facts of every location, by the kinds of location; maps that agree at each position.
use Rattle.std.proofs.Common.{◌≡◌, ℕ, ◌<◌, length, List, sym, ap, ◌∙◌, arith}
use Rattle.std.proofs.lemmas.List.{ext_get_or}
use Rattle.souper_graph.specs.declared.ast.flaws.FlawLocation.{FlawLocation}
use Rattle.souper_graph.specs.declared.ast.flaws.FlawLocation.TheVariants.{Statement, Infer, Result, Cand}
use Rattle.souper_widths.specs.Maps.{WidthMap, result_width, operand_width}

pub each_location : (P : FlawLocation → Type 0) → ((p : ℕ) → P (Statement p)) → P Infer → P Result → P Cand → (l : FlawLocation) → P l
each_location P s i r c (Statement p) = s p
each_location P s i r c Infer = i
each_location P s i r c Result = r
each_location P s i r c Cand = c

abbrev made : List ℕ → List ℕ → ℕ → WidthMap
made rs os r = record { results = rs; operands = os; root = r }

pub same_fields : (m n : WidthMap) → m.results ≡ n.results → m.operands ≡ n.operands → m.root ≡ n.root → m ≡ n
same_fields m n a b c =
    ap (λ (z : List ℕ). made z m.operands m.root) a ∙ ap (λ (z : List ℕ). made n.results z m.root) b ∙ ap (λ (z : ℕ). made n.results n.operands z) c

-- maps of equal lengths that have the same widths are equal
pub same_maps : (m n : WidthMap) (k : ℕ) → length m.results ≡ k → length n.results ≡ k → length m.operands ≡ k → length n.operands ≡ k
    → ((p : ℕ) → p < k → (result_width m p ≡ result_width n p) × (operand_width m p ≡ operand_width n p)) → m.root ≡ n.root → m ≡ n
same_maps m n k mr nr mo on same root =
    same_fields m n
    (ext_get_or 0 m.results n.results (mr ∙ sym nr) (λ i h. (same i (omega (arith, h, mr))).0))
    (ext_get_or 0 m.operands n.operands (mo ∙ sym on) (λ i h. (same i (omega (arith, h, mr))).1))
    root
