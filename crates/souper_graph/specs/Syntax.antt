-- Definitions. The syntax of texts: their tokens, the numbers that words spell, and which tokens spell a value.
pub mod Optional
pub mod Tokens
pub mod TokenLaws
pub mod Numbers
pub mod Spelling
