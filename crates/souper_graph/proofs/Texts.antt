-- What the functions that write texts are proved with.
pub mod Naming
pub mod Styled
pub mod ItemTexts
