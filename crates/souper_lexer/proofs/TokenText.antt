-- Where a text may be cut, and the longest prefix whose bytes pass a test.
use Rattle.std.proofs.Common.{◌≡◌, ℕ, ◌+◌, ◌-◌, ◌<◌, Bool, true, List, ◌++◌, length, get_or, IsUtf8, sym, ◌∙◌, subst, ⊎_elim, arith}
use Rattle.std.specs.List.{prefix_len}
use Rattle.std.specs.Str.{IsCharBoundary}
use Rattle.std.specs.Char.{encode_utf8, len_utf8}
use Rattle.std.proofs.lemmas.Str.{IsCharBoundary-start, IsCharBoundary-after_ascii, IsCharBoundary-at_seam, IsUtf8-past_char, length-encode}
use Rattle.std.proofs.lemmas.List.Sums.{prefix_len_passes, prefix_len-le-length}
use Rattle.std.proofs.lemmas.Bool.{cases_lt}
use Rattle.std.proofs.lemmas.Bool.Decides.{nat_tests}
use Rattle.souper_lexer.specs.TokenView.{is_in}
use Rattle.souper_lexer.specs.declared.Class.{Class}
use Rattle.souper_lexer.specs.declared.Class.TheVariants as classes

-- a text may be cut after its longest prefix of ASCII bytes that pass
boundary_after_front : (p : ℕ → Bool) → ((b : ℕ) → p b ≡ true → b < 128) → (bs : List ℕ) → IsUtf8 bs → IsCharBoundary bs (prefix_len p bs)
boundary_after_front p small bs utf8 = ⊎_elim
    (λ some. subst (IsCharBoundary bs) (let e : prefix_len p bs - 1 + 1 ≡ prefix_len p bs = omega arith in e)
    (IsCharBoundary-after_ascii bs (prefix_len p bs - 1) utf8 (omega (arith, prefix_len-le-length p bs)) (small _ (prefix_len_passes p bs (prefix_len p bs - 1) 0 (omega arith)))))
    (λ none. subst (IsCharBoundary bs) (let e : 0 ≡ prefix_len p bs = omega arith in e) (IsCharBoundary-start bs utf8))
    (cases_lt 0 (prefix_len p bs))

is_in_ascii : (k : Class) (b : ℕ) → is_in k b ≡ true → b < 128
is_in_ascii classes.Name b h = grind (arith, nat_tests)
is_in_ascii classes.Digit b h = grind (arith, nat_tests)
is_in_ascii classes.Bit b h = grind (arith, nat_tests)

-- a text may be cut after an ASCII character
pub boundary_after_first : (bs : List ℕ) → IsUtf8 bs → 0 < length bs → get_or bs 0 0 < 128 → IsCharBoundary bs 1
boundary_after_first bs utf8 l small = IsCharBoundary-after_ascii bs 0 utf8 l small

-- the same for a class, if its length is known by another name
pub class_boundary : (bs : List ℕ) (k : Class) (n : ℕ) → n ≡ prefix_len (is_in k) bs → IsUtf8 bs → IsCharBoundary bs n
class_boundary bs k n e utf8 = subst (IsCharBoundary bs) (sym e) (boundary_after_front (is_in k) (is_in_ascii k) bs utf8)

pub char_boundary : (bs rest : List ℕ) (c n : ℕ) → IsUtf8 bs → bs ≡ encode_utf8 c ++ rest → n ≡ len_utf8 c → IsCharBoundary bs n
char_boundary bs rest c n utf8 e k = subst (IsCharBoundary bs) (length-encode c ∙ sym k) (IsCharBoundary-at_seam bs (encode_utf8 c) rest e (IsUtf8-past_char bs rest c utf8 e))
