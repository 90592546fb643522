-- Where items begin: what a loop over them knows of their first tokens.
use Rattle.std.proofs.Common.{◌≡◌, ℕ, List, [], ◌∷◌, ◌++◌, Option, Some, None, refl, sym, ◌∙◌, ap, subst, append_assoc}
use Rattle.std.proofs.lemmas.List.{append-nil}
use Rattle.std.specs.Prelude.{is_some, option_map}
use Rattle.souper_graph.specs.Values.{Item}
use Rattle.souper_graph.specs.Syntax.Tokens.{Lexeme}
use Rattle.souper_graph.specs.Syntax.Spelling.{kinds, ItemType, item}
use Rattle.souper_ir.specs.declared.parse.memory.Kept.{Kept}
use Rattle.souper_ir.specs.declared.parse.memory.Memory.{Memory}
use Rattle.souper_ir.specs.ItemRuns.{ItemsTaken}
use Rattle.souper_ir.specs.Parsing.{Parsing}
use Rattle.souper_ir.specs.Starts.{StartsAt, SpellEachFrom, TakesFrom, HasStarts, Keeps, starts_kept, starts_of}
use Rattle.souper_ir.proofs.Items.Lists.{item_first, TookItem}

-- one item more
pub each_push : (k : ItemType) (items : List Item) (starts : List ℕ) (a : Item) (start : ℕ) (ts us : List (ℕ × Lexeme)) → SpellEachFrom k items starts ts → StartsAt start us → item k a (kinds us)
    → SpellEachFrom k (items ++ a ∷ []) (starts ++ start ∷ []) (ts ++ us)
each_push k [] [] a start ts us m at sp = record { used = us; others = []; whole = ap (λ (x : List (ℕ × Lexeme)). x ++ us) m ∙ sym (append-nil us); starts = at; spelled = sp; further = refl }
each_push k [] (n ∷ starts) a start ts us m at sp = absurd m
each_push k (b ∷ items) [] a start ts us m at sp = absurd m
each_push k (b ∷ items) (n ∷ starts) a start ts us m at sp = record {
  used = m.used;
  others = m.others ++ us;
  whole = ap (λ (x : List (ℕ × Lexeme)). x ++ us) m.whole ∙ append_assoc m.used m.others us;
  starts = m.starts;
  spelled = m.spelled;
  further = each_push k items starts a start m.others us m.further at sp;
}

-- an item begins where the tokens that are left begin
pub starts_used : (k : ItemType) (a : Item) (start : ℕ) (used others ts : List (ℕ × Lexeme)) → ts ≡ used ++ others → item k a (kinds used) → StartsAt start ts → StartsAt start used
starts_used k a start [] others ts e sp at = absurd (item_first k a [] sp)
starts_used k a start (t ∷ used) others ts e sp at = subst (λ (x : List (ℕ × Lexeme)). StartsAt start x) e at

-- an item was taken after others
pub begun : (k : ItemType) (items : List Item) (starts : List ℕ) (a : Item) (start : ℕ) (p q r : Parsing) (so : ItemsTaken k items p q) (took : TookItem k a q r)
    → SpellEachFrom k items starts so.used → StartsAt start q.tokens → SpellEachFrom k (items ++ a ∷ []) (starts ++ start ∷ []) (so.used ++ took.used)
begun k items starts a start p q r so took each at = each_push k items starts a start so.used took.used each (starts_used k a start took.used r.tokens q.tokens took.parts took.spelled at) took.spelled

pub after_none : (starts : Option (List ℕ)) → starts ≡ option_map (λ before. before ++ []) starts
after_none None = refl
after_none (Some starts) = ap Some (sym (append-nil starts))

after_both : (starts : Option (List ℕ)) (xs ys : List ℕ) → option_map (λ before. before ++ ys) (option_map (λ before. before ++ xs) starts) ≡ option_map (λ before. before ++ (xs ++ ys)) starts
after_both None xs ys = refl
after_both (Some starts) xs ys = ap Some (append_assoc starts xs ys)

pub keeps_both : (a b c : Kept) (xs ys : List ℕ) → Keeps a b xs → Keeps b c ys → Keeps a c (xs ++ ys)
keeps_both a b c xs ys m n = n ∙ ap (option_map (λ before. before ++ ys)) m ∙ after_both (starts_kept a) xs ys

asked_after : (starts : Option (List ℕ)) (xs : List ℕ) → is_some (option_map (λ before. before ++ xs) starts) ≡ is_some starts
asked_after None xs = refl
asked_after (Some starts) xs = refl

pub keeps_asked : (a b : Kept) (xs : List ℕ) → Keeps a b xs → is_some (starts_kept b) ≡ is_some (starts_kept a)
keeps_asked a b xs m = ap is_some m ∙ asked_after (starts_kept a) xs

-- offsets that were dropped before the items of a text were read
only_after : (starts : Option (List ℕ)) (xs : List ℕ) → option_map (λ before. before ++ xs) (option_map (λ before. []) starts) ≡ option_map (λ before. xs) starts
only_after None xs = refl
only_after (Some starts) xs = refl

abbrev pub restarted : Memory → Option (List ℕ)
restarted memory = option_map (λ before. []) (starts_of memory)

pub only_from : {S : Type 0} (holds : S → S → List Item → Type 0) (spells : List Item → List ℕ → Type 0) (a b : Memory) (old new : Kept) (p q : S) → starts_kept old ≡ restarted a → starts_of b ≡ starts_kept new → TakesFrom holds spells (Keeps old new) p q
    → TakesFrom holds spells (HasStarts a b) p q
only_from holds spells a b old new p q r s t = record { items = t.items; starts = t.starts; spelled = t.spelled; taken = t.taken; has = s ∙ t.has ∙ ap (option_map (λ before. before ++ t.starts)) r ∙ only_after (starts_of a) t.starts }
