-- The number of a list of bits, and the bits that attributes want, one entry at a time.
use Rattle.std.proofs.Common.{◌≡◌, ℕ, suc, ◌+◌, ◌-◌, ◌*◌, ◌^◌, ◌<◌, ◌≤◌, Bool, true, false, cond, List, [], ◌∷◌, ◌++◌, length, map, take, get_or, bit_and, refl, sym, ap, subst, ◌∙◌, arith, lit<, length-append}
use Rattle.std.specs.Int.{from_bool}
use Rattle.std.specs.List.{AllByRecursion}
use Rattle.std.proofs.lemmas.Nat.{and_comm, and_assoc}
use Rattle.std.proofs.lemmas.List.{take_more, length-take-le, map_push}
use Rattle.std.proofs.Math.Nat.{pow-suc, pow-le-pow_right}
use Rattle.souper_graph.specs.declared.ast.flaws.FlawLocation.{FlawLocation}
use Rattle.souper_graph.specs.declared.ast.flaws.FlawLocation.TheVariants.{Infer, Cand}
use Rattle.souper_graph.specs.declared.ast.attributes.RootAttribute.{RootAttribute}
use Rattle.souper_graph.specs.View.{view_root_attribute}
use Rattle.souper_graph.specs.Values.{PlainRootAttribute, demanded_bits, harvested_from_use, PlainStatement, Ending, inferred, resulting, replaced, candidate, Item}
use Rattle.souper_widths.specs.Maps.{WidthMap}
use Rattle.souper_widths.specs.Places.{IsPlace}
use Rattle.souper_widths.specs.Limits.{HasRootBitCount, KeepsAt, limit_reasons}
use Rattle.souper_widths.specs.Typed.{Typed}
use Rattle.souper_meaning.specs.Facts.{number_of_bits, wanted_bits}
use Rattle.souper_meaning.specs.Trying.{root_attributes, HasFewBits, narrowed}

-- bits

abbrev pub bit_of : Bool → ℕ
bit_of b = cond b 1 0

pub bit_from : (b : Bool) → from_bool b ≡ bit_of b
bit_from true = refl
bit_from false = refl

pub bit_small : (b : Bool) → from_bool b ≤ 1
bit_small true = omega arith
bit_small false = omega arith

pub bits_more : (xs : List Bool) (b : Bool) → number_of_bits (xs ++ b ∷ []) ≡ number_of_bits xs * 2 + bit_of b
bits_more [] true = refl
bits_more [] false = refl
bits_more (true ∷ xs) b =
    let h : number_of_bits (xs ++ b ∷ []) ≡ number_of_bits xs * 2 + bit_of b = bits_more xs b in
    let l : length (xs ++ b ∷ []) ≡ suc (length xs) = length-append xs (b ∷ []) ∙ omega arith in
    let p : 2 ^ length (xs ++ b ∷ []) ≡ 2 ^ length xs * 2 = ap (λ (n : ℕ). 2 ^ n) l ∙ pow-suc 2 (length xs) in
    omega arith
bits_more (false ∷ xs) b =
    let h : number_of_bits (xs ++ b ∷ []) ≡ number_of_bits xs * 2 + bit_of b = bits_more xs b in
    omega arith

pub bits_below : (xs : List Bool) → number_of_bits xs < 2 ^ length xs
bits_below [] = omega arith
bits_below (true ∷ xs) = let p : 2 ^ suc (length xs) ≡ 2 ^ length xs * 2 = pow-suc 2 (length xs) in omega (arith, bits_below xs)
bits_below (false ∷ xs) = let p : 2 ^ suc (length xs) ≡ 2 ^ length xs * 2 = pow-suc 2 (length xs) in omega (arith, bits_below xs)

pub bits_fit : (bs : List Bool) (i n : ℕ) → i < length bs → length bs ≤ 128 → n ≡ number_of_bits (take i bs) → n * 2 + 1 < 2 ^ 128
bits_fit bs i n l m e =
    let s : length (take i bs) ≡ i = length-take-le i bs (omega arith) in
    let a : n < 2 ^ i = subst (λ (z : ℕ). n < 2 ^ z) s (subst (λ (z : ℕ). z < 2 ^ length (take i bs)) (sym e) (bits_below (take i bs))) in
    let b : 2 ^ i ≤ 2 ^ 127 = pow-le-pow_right {n = 2} (lit< tt) {j = 127} (omega arith) in
    omega arith

pub bits_step : (bs : List Bool) (i n : ℕ) (b : Bool) → i < length bs → b ≡ get_or bs i b → n ≡ number_of_bits (take i bs) → n * 2 + bit_of b ≡ number_of_bits (take (i + 1) bs)
bits_step bs i n b l e h =
    ap (λ (z : ℕ). z * 2 + bit_of b) h ∙ sym (bits_more (take i bs) b) ∙ ap number_of_bits (sym (take_more bs i b l ∙ ap (λ (z : Bool). take i bs ++ z ∷ []) (sym e)))

-- attributes

pub wanted_more : (w : ℕ) (xs : List PlainRootAttribute) (a : PlainRootAttribute) → wanted_bits w (xs ++ a ∷ []) ≡ narrowed (wanted_bits w xs) a
wanted_more w [] (demanded_bits bs) = and_comm (number_of_bits bs) (2 ^ w - 1)
wanted_more w [] harvested_from_use = refl
wanted_more w (demanded_bits cs ∷ xs) (demanded_bits bs) =
    ap (λ (n : ℕ). bit_and (number_of_bits cs) n) (wanted_more w xs (demanded_bits bs)) ∙ sym (and_assoc (number_of_bits bs) (number_of_bits cs) (wanted_bits w xs))
wanted_more w (demanded_bits cs ∷ xs) harvested_from_use = ap (λ (n : ℕ). bit_and (number_of_bits cs) n) (wanted_more w xs harvested_from_use)
wanted_more w (harvested_from_use ∷ xs) a = wanted_more w xs a

pub wanted_step : (w : ℕ) (xs : List RootAttribute) (k n r : ℕ) (x : RootAttribute) → k < length xs → x ≡ get_or xs k x → n ≡ wanted_bits w (map view_root_attribute (take k xs)) → r ≡ narrowed n (view_root_attribute x)
    → r ≡ wanted_bits w (map view_root_attribute (take (k + 1) xs))
wanted_step w xs k n r x l e h g =
    let whole : map view_root_attribute (take (k + 1) xs) ≡ map view_root_attribute (take k xs) ++ view_root_attribute x ∷ [] =
    ap (map view_root_attribute) (take_more xs k x l ∙ ap (λ (z : RootAttribute). take k xs ++ z ∷ []) (sym e)) ∙ map_push view_root_attribute (take k xs) x
    in
    g ∙ ap (λ (z : ℕ). narrowed z (view_root_attribute x)) h ∙ sym (wanted_more w (map view_root_attribute (take k xs)) (view_root_attribute x)) ∙ ap (wanted_bits w) (sym whole)

pub few_bits : (w : ℕ) (a : PlainRootAttribute) → w ≤ 128 → HasRootBitCount w a → HasFewBits a
few_bits w (demanded_bits bs) l h = omega (arith, h, l)
few_bits w harvested_from_use l h = tt

-- the attributes of the last lines have as many bits as the roots

abbrev ended : List PlainStatement → Ending → Item
ended ss e = record { statements = ss; ending = e }

line_counts : (m : WidthMap) (ss : List PlainStatement) (e : Ending) → ((l : FlawLocation) → IsPlace (ended ss e) l → AllByRecursion (KeepsAt (ended ss e) m l) limit_reasons) → AllByRecursion (HasRootBitCount m.root) (root_attributes e)
line_counts m ss (inferred i) h = (h Infer (λ q. cc)).1.1.1.1.0
line_counts m ss (resulting r) h = tt
line_counts m ss (replaced i r) h = (h Infer (λ q. cc)).1.1.1.1.0
line_counts m ss (candidate c) h = (h Cand (λ q. cc)).1.1.1.1.0

pub root_counts : (a : Item) (m : WidthMap) → Typed a m → AllByRecursion (HasRootBitCount m.root) (root_attributes a.ending)
root_counts a m t = line_counts m a.statements a.ending t.limits
