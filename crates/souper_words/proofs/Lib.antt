pub mod Counting
pub mod Dividing
pub mod OutcomeBits
pub mod Reversing
pub mod Saturating
pub mod Shifting
pub mod Signed
