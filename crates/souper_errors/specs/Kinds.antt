-- Definitions. The types of items, as words.
use Rattle.std.specs.Prelude.{ℕ, List, Option, None, Some, if◌then◌else◌, codes, bytes_eq}
use Rattle.souper_errors.specs.declared.kind.Kind.{Kind}
use Rattle.souper_errors.specs.declared.kind.Kind.TheVariants.{Lhs, Rhs, Rep}

-- the kind that a word names
abbrev pub kind_of_word : List ℕ → Option Kind
kind_of_word word =
    if bytes_eq word (codes "lhs") then Some Lhs else (
    if bytes_eq word (codes "rhs") then Some Rhs else (
    if bytes_eq word (codes "rep") then Some Rep else None))
