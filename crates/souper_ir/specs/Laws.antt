-- Lemmas. A value is read if and only if the tokens spell it, and at most one prefix spells a value. The law of an
-- `impl` may cite nothing of `proofs/`, so they are here.
pub mod Unique
pub mod Peeks
pub mod Steps
pub mod Tokens
pub mod Next
pub mod Rules
pub mod FromReadings
pub mod Operands
pub mod Words
pub mod RightSides
pub mod Attributes
pub mod Sequence
pub mod Attributed
pub mod Statements
pub mod Series
pub mod Items
