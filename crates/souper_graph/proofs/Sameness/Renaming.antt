-- Items that are named by their printed order: the same order, well formed, and the same graph if and only if the items
-- are so up to names.
use Rattle.std.proofs.Common.{◌≡◌, ℕ, ◌<◌, ◌≤◌, ◌^◌, length, List, [], Some, refl, sym, ap, ◌∙◌, subst, arith}
use Rattle.std.specs.Prelude.{decimal, drop}
use Rattle.std.specs.List.{slice_get}
use Rattle.std.proofs.lemmas.Fmt.{decimal_is_IsNumeral_wide, decimal_injective, decimal_nonempty}
use Rattle.souper_graph.specs.Values.{PlainStatement, Item}
use Rattle.souper_graph.specs.Names.{IsName}
use Rattle.souper_graph.specs.Uses.{walks_of, NeededIn}
use Rattle.souper_graph.specs.Order.{printed_order}
use Rattle.souper_graph.specs.WellFormed.{WellFormed}
use Rattle.souper_graph.specs.Sameness.{SameGraph, place}
use Rattle.souper_graph.specs.Renaming.{with_name, nameless, SameUpToNames, name_of_index, named_by, renamed, with_statements}
use Rattle.souper_graph.proofs.Judging.Needed.{statement_at}
use Rattle.souper_graph.proofs.Sameness.Indices.{place-inside, place-map}
use Rattle.souper_graph.proofs.Sameness.PrintedOrder.{printed-needed, needed-printed}
use Rattle.souper_graph.proofs.Sameness.Renumbered.{Ordered, ordered, inside, place-one, unneeded-graph}
use Rattle.souper_graph.proofs.Sameness.Nameless.{Alike, nameless-alike, alike-order, alike-needed, named-order, nameless-at, nameless-ordered, alike-ordered}
use Rattle.souper_graph.proofs.Sameness.Named.{named-alike, from-again, named-get, IsNamedBy, nameless-named, both-named, named-well}
use Rattle.souper_graph.proofs.RoundTrip.Lexemes.{all_names}

pub renamed-alike : (a : Item) → Alike a (renamed a)
renamed-alike a = named-alike name_of_index (printed_order a) a

pub renamed-order : (a : Item) → printed_order (renamed a) ≡ printed_order a
renamed-order a = alike-order a (renamed a) (renamed-alike a)

pub renamed-again : (a : Item) → renamed (renamed a) ≡ renamed a
renamed-again a =
    ap (λ (ids : List ℕ). named_by name_of_index ids (renamed a)) (renamed-order a)
    ∙ ap (λ (ss : List PlainStatement). with_statements a ss) (from-again name_of_index (printed_order a) 0 a.statements)

-- ---- the same graph up to names

pub names-forgotten : (a b : Item) → Ordered a → SameGraph a b → SameUpToNames a b
names-forgotten a b oa s = both-named a b (nameless a) (nameless b) (λ _. []) (λ _. []) oa s (forgotten a) (forgotten b) (λ p d. refl)
  where
    forgotten : (x : Item) → IsNamedBy (λ _. []) x (nameless x)
    forgotten x = record { alike = nameless-alike x; named = λ p s d e. nameless-at x p s e }

pub up-to-itself : (a : Item) → SameUpToNames a (renamed a)
up-to-itself a = subst (λ (x : Item). SameGraph (nameless a) x) (sym (renamed-alike a)) (unneeded-graph (nameless a) (nameless a) (record { same_ending = refl; same_conditions = refl; same_statements = λ i d. refl }))

-- ---- the renamed item

abbrev index_name : Item → ℕ → List ℕ
index_name a p = name_of_index (place (printed_order a) p)

is-named : (a : Item) → Ordered a → IsNamedBy (index_name a) a (renamed a)
is-named a oa = record {
  alike = renamed-alike a;
  named = λ p s d e. named-get name_of_index (printed_order a) a.statements p s e (needed-printed a.statements (walks_of a) oa.below d);
}

pub renamed-there : (a : Item) → Ordered a → (i : ℕ) → NeededIn a i → slice_get (renamed a).statements i ≡ Some (with_name (name_of_index (place (printed_order a) i)) (statement_at a.statements i))
renamed-there a oa i d = (is-named a oa).named i (statement_at a.statements i) d (oa.there i d)

-- items that are the same graph up to names are the same graph once they are renamed
pub renamed-graph : (a b : Item) → Ordered a → Ordered b → SameUpToNames a b → SameGraph (renamed a) (renamed b)
renamed-graph a b oa ob s =
    both-named (nameless a) (nameless b) (renamed a) (renamed b) (index_name a) (index_name b) (nameless-ordered a oa) s
    (nameless-named a (renamed a) (index_name a) (is-named a oa)) (nameless-named b (renamed b) (index_name b) (is-named b ob)) placed
  where
    placed : (i : ℕ) → NeededIn (nameless a) i → index_name b (s.to i) ≡ index_name a i
    placed i d =
        ap name_of_index (
        ap (λ (z : List ℕ). place z (s.to i)) (named-order a b oa ob s)
        ∙ place-map s.to (printed_order a) i (λ j h q. s.one_to_one j i (alike-needed a (nameless a) (nameless-alike a) (printed-needed a.statements (walks_of a) j h)) d q))

pub graph-renamed : (a b : Item) → Ordered a → Ordered b → SameGraph (renamed a) (renamed b) → SameUpToNames a b
graph-renamed a b oa ob s =
    subst (λ (x : Item). SameGraph x (nameless b)) (renamed-alike a)
    (subst (λ (y : Item). SameGraph (nameless (renamed a)) y) (renamed-alike b)
    (names-forgotten (renamed a) (renamed b) (alike-ordered a (renamed a) (renamed-alike a) oa) s))

-- ---- well formed

pub is_name : (k : ℕ) → k < 2 ^ 64 → IsName (name_of_index k)
is_name k h = (refl, decimal_nonempty k h, all_names (decimal k) (decimal_is_IsNumeral_wide k (omega arith)).0.1)

pub one_number : (j k : ℕ) → j < 2 ^ 64 → k < 2 ^ 64 → name_of_index j ≡ name_of_index k → j ≡ k
one_number j k lj lk e = decimal_injective j k lj lk (ap (λ (l : List ℕ). drop 1 l) e)

pub renamed-well : (a : Item) → WellFormed a → length (printed_order a) ≤ 2 ^ 64 → WellFormed (renamed a)
renamed-well a wa few =
    named-well a (renamed a) (index_name a) wa (is-named a (ordered a wa)) (λ p v d e. is_name (place P p) (bound d))
    (λ p q v w dp dq ep eq en. place-one a wa p q dp dq (one_number (place P p) (place P q) (bound dp) (bound dq) en))
  where
    P : List ℕ
    P = printed_order a

    bound : {i : ℕ} → NeededIn a i → place P i < 2 ^ 64
    bound {i = i} d = let l = place-inside P i (inside a wa i d) in omega arith
