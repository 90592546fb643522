-- Definitions. What hints say of a text.
use Rattle.std.specs.Prelude.{ℕ, List}
use Rattle.std.specs.Str.Iter.{HasSubslice}
use Rattle.souper_hint.specs.declared.hints.Hint.{Hint}
use Rattle.souper_hint.specs.declared.hints.Hint.TheVariants.{Name}

-- a name that is suggested is part of the text
abbrev pub SuggestsFrom : List ℕ → Hint → Type 0
SuggestsFrom text (Name name) = HasSubslice text name.now
SuggestsFrom text _ = Unit {0}
