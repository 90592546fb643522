use Rattle.std.proofs.Common.{◌≡◌, ℕ, List, [], ◌∷◌, ◌++◌, length, refl, Result, Ok, Err, ap, sym, ◌∙◌, rules}
use Rattle.std.specs.Prelude.{OnOk}
use Rattle.std.specs.String.{string_bytes}
use Rattle.souper_graph.specs.Values.{Item}
use Rattle.souper_graph.specs.Syntax.Spelling.{ItemType}
use Rattle.souper_graph.specs.ItemText.{IsItemText}
use Rattle.souper_graph.specs.Shown.{AppendsItemText}
use Rattle.souper_graph.proofs.ast.parts.Parts.append_text.Goals as goal

nothing : (bs : List ℕ) → length bs ≡ 0 → bs ≡ []
nothing [] e = refl
nothing (b ∷ bs) e = absurd cc

-- in an empty buffer the text is appended that is put there
put_first : {T E : Type 0} (r : Result T E) (k : ItemType) (a : Item) (before text : List ℕ) → before ≡ [] → OnOk r (IsItemText k a text) → OnOk r (AppendsItemText k a before text)
put_first (Ok x) k a before text empty h = (text, ap (λ (l : List ℕ). l ++ text) (sym empty), h)
put_first (Err x) k a before text empty h = tt

pub returns-then-is_empty-clause-appended : goal.returns-then-is_empty-clause-appended
returns-then-is_empty-clause-appended c k a e ends =
    let none : length (string_bytes c.args.out.now) ≡ 0 = search rules in
    put_first c.put_text.result k a (string_bytes c.args.out.now) (string_bytes c.put_text.new.out) (nothing (string_bytes c.args.out.now) none) (c.put_text.ensures.printed k a e ends)

pub returns-clause-appended : goal.returns-clause-appended
returns-clause-appended c k a e ends =
    (string_bytes c.in_ok-text.text, c.in_ok-push_str.ensures.bytes ∙ ap (λ (l : List ℕ). string_bytes c.args.out.now ++ l) c.deref.ensures, c.in_ok-text.ensures.printed k a e ends)
