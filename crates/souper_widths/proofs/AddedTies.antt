-- Ties that are added one after another, and the first one that is refused.
use Rattle.std.proofs.Common.{◌≡◌, ℕ, zero, suc, ◌+◌, ◌<◌, List, [], ◌∷◌, ◌++◌, length, get_or, take, drop, refl, sym, ap, subst, arith}
use Rattle.std.proofs.lemmas.List.{take_more}
use Rattle.souper_graph.proofs.Judging.Closed.{All-both, All-first, All-second}
use Rattle.souper_widths.specs.declared.ties.Side.TheVariants.{Node}
use Rattle.souper_widths.specs.declared.ties.Tie.{Tie}
use Rattle.souper_widths.specs.Forest.{AreClasses, AddsTie, Refuses}
use Rattle.souper_widths.specs.Ties.{IsTied, AddsTies, Clashes}

-- what the check takes for a tie past the end of a list
abbrev pub no_tie : Tie
no_tie = record { left = Node 0; right = Node 0; more = 0 }

-- a list up to a place, what is there, and the rest
split : (xs : List Tie) (i : ℕ) → i < length xs → xs ≡ take i xs ++ get_or xs i no_tie ∷ drop (suc i) xs
split [] i h = absurd (omega arith)
split (x ∷ xs) zero h = refl
split (x ∷ xs) (suc i) h = ap (λ (z : List Tie). x ∷ z) (split xs i (omega arith))

pub adds-more : (ps ns qs ms rs os : List ℕ) (ts : List Tie) (i : ℕ) → i < length ts → AddsTies ps ns qs ms (take i ts)
    → AddsTie qs ms rs os (get_or ts i no_tie).left (get_or ts i no_tie).right → AddsTies ps ns rs os (take (i + 1) ts)
adds-more ps ns qs ms rs os ts i h a b = subst (AddsTies ps ns rs os) (sym (take_more ts i no_tie h)) (record {
  to = λ u s t. b.to u (a.to u s (All-first (IsTied u) (take i ts) (get_or ts i no_tie ∷ []) t)) (All-second (IsTied u) (take i ts) (get_or ts i no_tie ∷ []) t).0;
  back = λ u s. a.back u (b.back u s);
  tied = λ u s. All-both (IsTied u) (take i ts) (get_or ts i no_tie ∷ []) (a.tied u (b.back u s)) (b.tied u s, tt);
})

pub clashes-at : (ps ns qs ms : List ℕ) (ts : List Tie) (i x y left right : ℕ) → i < length ts → AreClasses qs ms → AddsTies ps ns qs ms (take i ts)
    → Refuses qs ms (get_or ts i no_tie).left (get_or ts i no_tie).right x y → left ≡ x + (get_or ts i no_tie).more → right ≡ y + (get_or ts i no_tie).more → Clashes ps ns ts left right
clashes-at ps ns qs ms ts i x y left right h c a r l m = record {
  front = take i ts;
  failing = get_or ts i no_tie;
  back = drop (suc i) ts;
  here = split ts i h;
  parents' = qs;
  numbers' = ms;
  classes = c;
  added = a;
  x = x;
  y = y;
  refused = r;
  left_is = l;
  right_is = m;
}
