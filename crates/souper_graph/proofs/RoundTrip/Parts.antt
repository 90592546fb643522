-- A printed text in parts: tokens, and the spaces and newlines between them. A sound list of parts is a text of its
-- tokens.
use Rattle.std.proofs.Common.{◌≡◌, ℕ, ◌+◌, Bool, true, false, ◌||◌, List, [], ◌∷◌, ◌++◌, length, refl, sym, ap, ◌∙◌, subst, arith, append_assoc, append-nil, length-append}
use Rattle.std.specs.Prelude.{flat_map}
use Rattle.std.specs.List.{AllByRecursion}
use Rattle.std.proofs.lemmas.Grind.{flat_map-append}
use Rattle.souper_graph.specs.Syntax.Tokens.{Lexeme, ident, val_name, known_bits, int, comma, colon, equals, open_paren, close_paren, open_bracket, spelling, IsLexeme, continues, Stops, Piece, space, piece_text, IsPiece, IsGap, Begins, IsTextOf}
use Rattle.souper_graph.specs.Syntax.Spelling.{kinds}
use Rattle.souper_graph.proofs.RoundTrip.Gaps.{outside_ends}

pub data Part : Type 0 where
  word : Lexeme → Part
  one_space : Part
  newline : Part

abbrev part_text : Part → List ℕ
part_text (word t) = spelling t
part_text one_space = 32 ∷ []
part_text newline = 10 ∷ []

-- the bytes
abbrev pub printed : List Part → List ℕ
printed ps = flat_map part_text ps

abbrev part_words : Part → List Lexeme
part_words (word t) = t ∷ []
part_words one_space = []
part_words newline = []

-- the tokens
abbrev pub words_of : List Part → List Lexeme
words_of ps = flat_map part_words ps

-- the tokens at their offsets, if the parts begin at offset n
abbrev pub placed : ℕ → List Part → List (ℕ × Lexeme)
placed n [] = []
placed n (word t ∷ ps) = (n, t) ∷ placed (n + length (spelling t)) ps
placed n (one_space ∷ ps) = placed (n + 1) ps
placed n (newline ∷ ps) = placed (n + 1) ps

-- a token of one character: nothing continues it, and it continues no token
abbrev pub is_punctuation : Lexeme → Bool
is_punctuation (ident s) = false
is_punctuation (val_name s) = false
is_punctuation (known_bits s) = false
is_punctuation (int s) = false
is_punctuation comma = true
is_punctuation colon = true
is_punctuation equals = true
is_punctuation open_paren = true
is_punctuation close_paren = true
is_punctuation open_bracket = true

-- what begins with a space, a newline or punctuation, or is empty, may follow any token
abbrev pub is_loose : List Part → Bool
is_loose [] = true
is_loose (word t ∷ ps) = is_punctuation t
is_loose (one_space ∷ ps) = true
is_loose (newline ∷ ps) = true

-- each word is a token, and no token is continued by what follows
abbrev pub AreSound : List Part → Type 0
AreSound [] = Unit {0}
AreSound (word t ∷ ps) = IsLexeme t × ((is_punctuation t || is_loose ps) ≡ true) × AreSound ps
AreSound (one_space ∷ ps) = AreSound ps
AreSound (newline ∷ ps) = AreSound ps

-- ---- what may follow a token

punctuation_continued : (t : Lexeme) (bs : List ℕ) → is_punctuation t ≡ true → Stops (continues t) bs
punctuation_continued t [] e = tt
punctuation_continued comma (b ∷ bs) e = refl
punctuation_continued colon (b ∷ bs) e = refl
punctuation_continued equals (b ∷ bs) e = refl
punctuation_continued open_paren (b ∷ bs) e = refl
punctuation_continued close_paren (b ∷ bs) e = refl
punctuation_continued open_bracket (b ∷ bs) e = refl
punctuation_continued (ident s) (b ∷ bs) e = absurd cc
punctuation_continued (val_name s) (b ∷ bs) e = absurd cc
punctuation_continued (known_bits s) (b ∷ bs) e = absurd cc
punctuation_continued (int s) (b ∷ bs) e = absurd cc

punctuation_stops : (t u : Lexeme) (bs : List ℕ) → is_punctuation u ≡ true → Stops (continues t) (spelling u ++ bs)
punctuation_stops t comma bs e = outside_ends t 44 (refl, refl, refl)
punctuation_stops t colon bs e = outside_ends t 58 (refl, refl, refl)
punctuation_stops t equals bs e = outside_ends t 61 (refl, refl, refl)
punctuation_stops t open_paren bs e = outside_ends t 40 (refl, refl, refl)
punctuation_stops t close_paren bs e = outside_ends t 41 (refl, refl, refl)
punctuation_stops t open_bracket bs e = outside_ends t 91 (refl, refl, refl)
punctuation_stops t (ident s) bs e = absurd cc
punctuation_stops t (val_name s) bs e = absurd cc
punctuation_stops t (known_bits s) bs e = absurd cc
punctuation_stops t (int s) bs e = absurd cc

loose_stops : (t : Lexeme) (ps : List Part) → is_loose ps ≡ true → Stops (continues t) (printed ps)
loose_stops t [] e = tt
loose_stops t (word u ∷ ps) e = punctuation_stops t u (printed ps) e
loose_stops t (one_space ∷ ps) e = outside_ends t 32 (refl, refl, refl)
loose_stops t (newline ∷ ps) e = outside_ends t 10 (refl, refl, refl)

stops_by : (b : Bool) (t : Lexeme) (ps : List Part) → is_punctuation t ≡ b → (b || is_loose ps) ≡ true → Stops (continues t) (printed ps)
stops_by true t ps m e = punctuation_continued t (printed ps) m
stops_by false t ps m e = loose_stops t ps e

-- ---- gaps

all_append : (xs ys : List Piece) → AllByRecursion IsPiece xs → AllByRecursion IsPiece ys → AllByRecursion IsPiece (xs ++ ys)
all_append [] ys p q = q
all_append (x ∷ xs) ys p q = (p.0, all_append xs ys p.1 q)

gap_append : (a b : List ℕ) → IsGap a → IsGap b → IsGap (a ++ b)
gap_append a b g h = (g.0 ++ h.0, all_append g.0 h.0 g.1 h.1, (λ i. g.2 i ++ h.2 i) ∙ sym (flat_map-append piece_text g.0 h.0))

space_gap : IsGap (32 ∷ [])
unfolding lib.Utf8.encode
space_gap = (space 32 ∷ [], (refl, tt), refl)

newline_gap : IsGap (10 ∷ [])
unfolding lib.Utf8.encode
newline_gap = (space 10 ∷ [], (refl, tt), refl)

no_gap : IsGap []
no_gap = ([], tt, refl)

-- ---- parts

-- the text after the last token, if g is before the parts
abbrev last_gap : List ℕ → List Part → List ℕ
last_gap g [] = g
last_gap g (word t ∷ ps) = last_gap [] ps
last_gap g (one_space ∷ ps) = last_gap (g ++ 32 ∷ []) ps
last_gap g (newline ∷ ps) = last_gap (g ++ 10 ∷ []) ps

last_is_gap : (ps : List Part) (g : List ℕ) → IsGap g → IsGap (last_gap g ps)
last_is_gap [] g h = h
last_is_gap (word t ∷ ps) g h = last_is_gap ps [] no_gap
last_is_gap (one_space ∷ ps) g h = last_is_gap ps (g ++ 32 ∷ []) (gap_append g (32 ∷ []) h space_gap)
last_is_gap (newline ∷ ps) g h = last_is_gap ps (g ++ 10 ∷ []) (gap_append g (10 ∷ []) h newline_gap)

begins_parts : (ps : List Part) (n m : ℕ) (g : List ℕ) → IsGap g → m ≡ n + length g → AreSound ps → Begins n (g ++ printed ps) (placed m ps) (last_gap g ps)
begins_parts [] n m g h e s = append-nil g
begins_parts (word t ∷ ps) n m g h e s = record {
  gap = g;
  after = printed ps;
  stands = record { is_gap = h; is_token = s.0; is_over = stops_by (is_punctuation t) t ps refl s.1; text = refl };
  offset_is = e;
  more = begins_parts ps (m + length (spelling t)) (m + length (spelling t)) [] no_gap (omega arith) s.2;
}
begins_parts (one_space ∷ ps) n m g h e s =
    subst (λ (l : List ℕ). Begins n l (placed (m + 1) ps) (last_gap (g ++ 32 ∷ []) ps)) (append_assoc g (32 ∷ []) (printed ps))
    (begins_parts ps n (m + 1) (g ++ 32 ∷ []) (gap_append g (32 ∷ []) h space_gap) (omega (arith, length-append g (32 ∷ []))) s)
begins_parts (newline ∷ ps) n m g h e s =
    subst (λ (l : List ℕ). Begins n l (placed (m + 1) ps) (last_gap (g ++ 10 ∷ []) ps)) (append_assoc g (10 ∷ []) (printed ps))
    (begins_parts ps n (m + 1) (g ++ 10 ∷ []) (gap_append g (10 ∷ []) h newline_gap) (omega (arith, length-append g (10 ∷ []))) s)

-- the printed parts are a text of their tokens
pub text_from_parts : (ps : List Part) → AreSound ps → IsTextOf (printed ps) (placed 0 ps)
text_from_parts ps s = (
  last_gap [] ps,
  begins_parts ps 0 0 [] no_gap (omega arith) s,
  record { gap = last_gap [] ps; last = []; is_gap = last_is_gap ps [] no_gap; is_last = tt; text = sym (append-nil (last_gap [] ps)) },
)

-- ---- joining parts

either : (b c : Bool) → c ≡ true → (b || c) ≡ true
either true c e = refl
either false c e = e

pub sound_append : (ps qs : List Part) → AreSound ps → AreSound qs → is_loose qs ≡ true → AreSound (ps ++ qs)
sound_append [] qs s r l = r
sound_append (word t ∷ []) qs s r l = (s.0, either (is_punctuation t) (is_loose qs) l, r)
sound_append (word t ∷ (word u ∷ ps)) qs s r l = (s.0, s.1, sound_append (word u ∷ ps) qs s.2 r l)
sound_append (word t ∷ (one_space ∷ ps)) qs s r l = (s.0, s.1, sound_append (one_space ∷ ps) qs s.2 r l)
sound_append (word t ∷ (newline ∷ ps)) qs s r l = (s.0, s.1, sound_append (newline ∷ ps) qs s.2 r l)
sound_append (one_space ∷ ps) qs s r l = sound_append ps qs s r l
sound_append (newline ∷ ps) qs s r l = sound_append ps qs s r l

pub loose_append : (ps qs : List Part) → is_loose ps ≡ true → is_loose qs ≡ true → is_loose (ps ++ qs) ≡ true
loose_append [] qs p q = q
loose_append (word t ∷ ps) qs p q = p
loose_append (one_space ∷ ps) qs p q = refl
loose_append (newline ∷ ps) qs p q = refl

pub loose_each : {X : Type 0} (f : X → List Part) → ((x : X) → is_loose (f x) ≡ true) → (xs : List X) → is_loose (flat_map f xs) ≡ true
loose_each f l [] = refl
loose_each f l (x ∷ xs) = loose_append (f x) (flat_map f xs) (l x) (loose_each f l xs)

-- lists of parts that each begin with a space, a newline or punctuation
pub sound_each : {X : Type 0} (f : X → List Part) (P : X → Type 0) → ((x : X) → P x → AreSound (f x)) → ((x : X) → is_loose (f x) ≡ true) → (xs : List X) → AllByRecursion P xs → AreSound (flat_map f xs)
sound_each f P s l [] h = tt
sound_each f P s l (x ∷ xs) h = sound_append (f x) (flat_map f xs) (s x h.0) (sound_each f P s l xs h.1) (loose_each f l xs)

-- ---- words and printed bytes

pub printed_append : (ps qs : List Part) → printed (ps ++ qs) ≡ printed ps ++ printed qs
printed_append ps qs = flat_map-append part_text ps qs

pub words_append : (ps qs : List Part) → words_of (ps ++ qs) ≡ words_of ps ++ words_of qs
words_append ps qs = flat_map-append part_words ps qs

-- parts printed one by one
pub printed_each : {X : Type 0} (f : X → List Part) (g : X → List ℕ) → ((x : X) → printed (f x) ≡ g x) → (xs : List X) → printed (flat_map f xs) ≡ flat_map g xs
printed_each f g e [] = refl
printed_each f g e (x ∷ xs) = printed_append (f x) (flat_map f xs) ∙ (λ i. e x i ++ printed_each f g e xs i)

-- the tokens without their offsets
pub placed_words : (ps : List Part) (n : ℕ) → kinds (placed n ps) ≡ words_of ps
placed_words [] n = refl
placed_words (word t ∷ ps) n = ap (λ (l : List Lexeme). t ∷ l) (placed_words ps (n + length (spelling t)))
placed_words (one_space ∷ ps) n = placed_words ps (n + 1)
placed_words (newline ∷ ps) n = placed_words ps (n + 1)

-- a line and what follows it: the line's end need not be loose
pub sound_lines : {X : Type 0} (f : X → List Part) (P : X → Type 0) → ((x : X) → P x → AreSound (f x)) → (xs : List X) → AllByRecursion P xs → AreSound (flat_map (λ x. f x ++ newline ∷ []) xs)
sound_lines f P s [] h = tt
sound_lines f P s (x ∷ xs) h =
    subst AreSound (sym (append_assoc (f x) (newline ∷ []) (flat_map (λ y. f y ++ newline ∷ []) xs))) (sound_append (f x) (newline ∷ flat_map (λ y. f y ++ newline ∷ []) xs) (s x h.0) (sound_lines f P s xs h.1) refl)
