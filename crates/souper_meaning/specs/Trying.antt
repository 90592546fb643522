-- Definitions. The roots of a replacement and their attributes.
use Rattle.std.specs.Prelude.{ℕ, ◌≤◌, List, [], length, Option, Some, bit_and}
use Rattle.souper_graph.specs.Values.{PlainRootAttribute, demanded_bits, harvested_from_use, Ending, inferred, resulting, replaced, candidate}
use Rattle.souper_words.specs.declared.outcome.Outcome.{Outcome}
use Rattle.souper_meaning.specs.Facts.{number_of_bits}
use Rattle.souper_meaning.specs.Sound.{Refines}

-- the attributes of the last lines
abbrev pub root_attributes : Ending → List PlainRootAttribute
root_attributes (inferred i) = i.attributes
root_attributes (resulting r) = []
root_attributes (replaced i r) = i.attributes
root_attributes (candidate c) = c.attributes

-- the attribute is of 128 bits at most
abbrev pub HasFewBits : PlainRootAttribute → Type 0
HasFewBits (demanded_bits bs) = length bs ≤ 128
HasFewBits harvested_from_use = Unit {0}

-- the bits of n that the attribute demands
abbrev pub narrowed : ℕ → PlainRootAttribute → ℕ
narrowed n (demanded_bits bs) = bit_and n (number_of_bits bs)
narrowed n harvested_from_use = n

-- the right root may be what it is, where the bits d are wanted of the left one; an item that lacks a root replaces nothing
abbrev pub RefinesRoots : ℕ → Option Outcome → Option Outcome → Type 0
RefinesRoots d (Some l) (Some r) = Refines d l r
RefinesRoots d l r = ⊥
