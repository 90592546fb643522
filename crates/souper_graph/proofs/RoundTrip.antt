-- A canonical text is a text of its tokens, and these spell the renumbered item.
pub mod Gaps
pub mod Parts
pub mod Lexemes
pub mod Nodes
pub mod Texts
pub mod Ready
pub mod Sound
pub mod Spelled
pub mod Scopes
pub mod Items
pub mod Carried
pub mod Leads
pub mod ReadBack
pub mod Conditions
