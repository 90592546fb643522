-- Definitions. Where two texts differ first, and how far texts that come part by part are compared.
use Rattle.std.specs.Prelude.{◌≡◌, ◌⊎◌, ℕ, ◌+◌, ◌-◌, ◌^◌, ◌<◌, ◌≤◌, min, ◌==◌, Bool, MatchBool, List, [], ◌∷◌, ◌++◌, length, take, drop, count_by}
use Rattle.souper_diff.specs.declared.comparison.Comparison.{Comparison}

-- how many lines end in the text: its newlines
abbrev pub line_ends : List ℕ → ℕ
line_ends text = count_by (λ b. b == 10) text

-- both texts have bytes, and the first ones differ
abbrev pub FirstDiffer : List ℕ → List ℕ → Type 0
FirstDiffer [] other = ⊥
FirstDiffer (a ∷ text) [] = ⊥
FirstDiffer (a ∷ text) (b ∷ other) = ¬ (a ≡ b)

-- one of the texts has no bytes
abbrev pub OneIsEmpty : List ℕ → List ℕ → Type 0
OneIsEmpty text other = (text ≡ []) ⊎ (other ≡ [])

-- the texts differ: they are the same up to a byte of this line, counted from 1, where the next bytes differ, or one of the texts ends
abbrev pub DifferOnLine : List ℕ → List ℕ → ℕ → Type 0
DifferOnLine text other line = ¬ (text ≡ other) × (same : List ℕ) × (rest : List ℕ) × (more : List ℕ)
    × (text ≡ same ++ rest) × (other ≡ same ++ more) × (FirstDiffer rest more ⊎ OneIsEmpty rest more) × (line ≡ line_ends same + 1)

-- the texts differ, first on this line, if numbers of 64 bits can count the lines
abbrev pub DifferFrom : List ℕ → List ℕ → ℕ → Type 0
DifferFrom text other line = ¬ (text ≡ other) × (length text + 1 < 2 ^ 64 → DifferOnLine text other line)

-- the texts begin with the same bytes, this many, and no more: the next ones differ, or one of the texts ends there
pub record AgreeUpTo (text other : List ℕ) (len : ℕ) (differs : Bool) : Type 0 where
  pub within : len ≤ length text
  pub within_other : len ≤ length other
  pub same : take len other ≡ take len text
  pub apart : MatchBool differs (FirstDiffer (drop len text) (drop len other)) (OneIsEmpty (drop len text) (drop len other))

-- What is known of the texts that came: the bytes that both begin with, the line after these, and what follows. If that differs, it is not
-- kept.
pub record IsCompared (c : Comparison) (text other : List ℕ) : Type 0 where
  pub same : List ℕ
  pub rest : List ℕ
  pub more : List ℕ
  pub text_is : text ≡ same ++ rest
  pub other_is : other ≡ same ++ more
  pub line_is : c.line ≡ min (line_ends same + 1) (2 ^ 64 - 1)
  pub kept : MatchBool c.differs (FirstDiffer rest more) ((c.text.items ≡ rest) × (c.other.items ≡ more) × OneIsEmpty rest more)
