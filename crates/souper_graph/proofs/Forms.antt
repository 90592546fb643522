-- Lemmas. What forms are made of, and the words of bit lists.
pub mod Parts
pub mod Bits
