-- An offset has one place.
use Rattle.std.proofs.Common.{◌≡◌, ◌⊎◌, ℕ, ◌+◌, ◌-◌, ◌<◌, ◌≤◌, List, [], ◌∷◌, ◌++◌, length, refl, sym, ◌∙◌, ap, subst, inl, inr, append_assoc, length-append, arith}
use Rattle.souper_errors.specs.Places.{EndsIn, newlines, IsWithoutReturn, IsLineText, IsPlace, OnePlace}
use Rattle.souper_errors.proofs.Shown.Lines.{newlines-append}

-- ---- two ways to part a text

-- what the longer front has more
strip : (f g r s : List ℕ) → length f ≤ length g → f ++ r ≡ g ++ s → (m : List ℕ) × (r ≡ m ++ s) × (length g ≡ length f + length m)
strip [] g r s l e = (g, e, (omega arith))
strip (x ∷ f) [] r s l e = absurd (omega arith)
strip (x ∷ f) (y ∷ g) r s l e =
    let rest : f ++ r ≡ g ++ s = cc in
    let k = strip f g r s (omega arith) rest in
    let n = k.2 in
    (k.0, k.1, (omega arith))

none_left : (m : List ℕ) → length m ≡ 0 → m ≡ []
none_left [] l = refl
none_left (x ∷ m) l = absurd (omega arith)

same_front : (f g r s : List ℕ) → length f ≡ length g → f ++ r ≡ g ++ s → (f ≡ g) × (r ≡ s)
same_front [] [] r s l e = (refl, e)
same_front [] (y ∷ g) r s l e = absurd (omega arith)
same_front (x ∷ f) [] r s l e = absurd (omega arith)
same_front (x ∷ f) (y ∷ g) r s l e =
    let first : x ≡ y = cc in
    let rest : f ++ r ≡ g ++ s = cc in
    let k = same_front f g r s (omega arith) rest in
    let fronts : f ≡ g = k.0 in
    ((λ i. first i ∷ fronts i), k.1)

-- ---- a line

-- its parts have no newline if it has none
lines_of : (x : ℕ) (b : List ℕ) → newlines (x ∷ b) ≡ 0 → (newlines (x ∷ []) ≡ 0) × (newlines b ≡ 0)
lines_of x b h = let e = newlines-append (x ∷ []) b in ((omega (arith, e, h)), (omega (arith, e, h)))

is_newline : (x : ℕ) → x ≡ 10 → newlines (x ∷ []) ≡ 0 → ⊥
is_newline x e h = let one : newlines (10 ∷ []) ≡ 0 = subst (λ (y : ℕ). newlines (y ∷ []) ≡ 0) e h in omega (arith, one)

not_within : (b m k t : List ℕ) → b ++ k ≡ m ++ 10 ∷ t → length m < length b → newlines b ≡ 0 → ⊥
not_within [] m k t e l h = omega arith
not_within (x ∷ b) [] k t e l h = is_newline x (let first : x ≡ 10 = cc in first) (lines_of x b h).0
not_within (x ∷ b) (y ∷ m) k t e l h = not_within b m k t (let rest : b ++ k ≡ m ++ 10 ∷ t = cc in rest) (omega arith) (lines_of x b h).1

-- what follows a line
Follows : List ℕ → Type 0
Follows k = (k ≡ []) ⊎ ((bs : List ℕ) × (k ≡ 10 ∷ bs))

follows : (body back text : List ℕ) → IsLineText body back text → Follows back
unfolding Follows
follows body [] text h = inl refl
follows body (b ∷ bs) text h = inr (bs, (let first : b ≡ 10 = h.0 in λ i. first i ∷ bs))

begins_line : (y : ℕ) (b k : List ℕ) → Follows k → k ≡ y ∷ b → newlines (y ∷ []) ≡ 0 → ⊥
unfolding Follows
begins_line y b k (inl none) e h = let clash : ◌≡◌ {A = List ℕ} [] (y ∷ b) = sym none ∙ e in absurd cc
begins_line y b k (inr (bs, is)) e h = let same : ◌≡◌ {A = List ℕ} (10 ∷ bs) (y ∷ b) = sym is ∙ e in is_newline y (let first : y ≡ 10 = cc in first) h

same_body : (b c k l : List ℕ) → Follows k → Follows l → newlines b ≡ 0 → newlines c ≡ 0 → b ++ k ≡ c ++ l → (b ≡ c) × (k ≡ l)
same_body [] [] k l fk fl hb hc e = (refl, e)
same_body [] (y ∷ c) k l fk fl hb hc e = absurd (begins_line y (c ++ l) k fk e (lines_of y c hc).0)
same_body (x ∷ b) [] k l fk fl hb hc e = absurd (begins_line x (b ++ k) l fl (sym e) (lines_of x b hb).0)
same_body (x ∷ b) (y ∷ c) k l fk fl hb hc e =
    let first : x ≡ y = cc in
    let rest : b ++ k ≡ c ++ l = cc in
    let more = same_body b c k l fk fl (lines_of x b hb).1 (lines_of y c hc).1 rest in
    let bodies : b ≡ c = more.0 in
    ((λ i. first i ∷ bodies i), more.1)

same_before : (s t : List ℕ) (x : ℕ) → s ++ x ∷ [] ≡ t ++ x ∷ [] → s ≡ t
same_before s t x e =
    let l : length s ≡ length t = (let n = ap length e in omega (arith, n, length-append s (x ∷ []), length-append t (x ∷ []))) in
    (same_front s t (x ∷ []) (x ∷ []) l e).0

same_text : (body back s t : List ℕ) → IsLineText body back s → IsLineText body back t → s ≡ t
same_text body [] s t a b = a ∙ sym b
same_text body (c ∷ cs) s t a b = by_end a.1 b.1
  where
    by_end : IsWithoutReturn body s → IsWithoutReturn body t → s ≡ t
    by_end (inl e) (inl f) = same_before s t 13 (sym e ∙ f)
    by_end (inl e) (inr f) = absurd (f.1 (s, e))
    by_end (inr e) (inl f) = absurd (e.1 (t, f))
    by_end (inr e) (inr f) = e.0 ∙ sym f.0

-- ---- two places

-- the line of a place does not begin before the line of another
not_before : (source : List ℕ) (offset l c m d : ℕ) (s t : List ℕ) (p : IsPlace source offset l c s) (q : IsPlace source offset m d t) → length p.front < length q.front → ⊥
not_before source offset l c m d s t p q less = by_begin q.begins
  where
    by_begin : (q.front ≡ []) ⊎ EndsIn q.front 10 → ⊥
    by_begin (inl none) = let n = ap length none in omega (arith, n)
    by_begin (inr (g, ends)) =
        let n = ap length ends ∙ length-append g (10 ∷ []) in
        let parts : p.front ++ (p.body ++ p.back) ≡ g ++ 10 ∷ (q.body ++ q.back) = sym p.parts ∙ q.parts ∙ ap (λ (x : List ℕ). x ++ (q.body ++ q.back)) ends ∙ append_assoc g (10 ∷ []) (q.body ++ q.back) in
        let k = strip p.front g (p.body ++ p.back) (10 ∷ (q.body ++ q.back)) (omega (arith, n)) parts in
        let u = p.until in
        let v = q.from in
        let w = k.2 in
        not_within p.body k.0 p.back (q.body ++ q.back) k.1 (omega (arith, n)) p.one_line

pub one_place : OnePlace
one_place source offset l c m d s t p q =
    let no = not_before source offset l c m d s t p q in
    let on = not_before source offset m d l c t s q p in
    let long : length p.front ≡ length q.front = omega arith in
    let fronts = same_front p.front q.front (p.body ++ p.back) (q.body ++ q.back) long (sym p.parts ∙ q.parts) in
    let bodies = same_body p.body q.body p.back q.back (follows p.body p.back s p.line_text) (follows q.body q.back t q.line_text) p.one_line q.one_line fronts.1 in (
      p.line_is ∙ ap (λ (x : List ℕ). newlines x + 1) fronts.0 ∙ sym q.line_is,
      p.column_is ∙ ap (λ (n : ℕ). offset - 1 - n + 1) long ∙ sym q.column_is,
      same_text p.body p.back s t p.line_text (subst (λ (x : List ℕ). IsLineText x p.back t) (sym bodies.0) (subst (λ (x : List ℕ). IsLineText q.body x t) (sym bodies.1) q.line_text)),
    )
