-- What the checks of well-formedness return.
pub mod Closed
pub mod Names
pub mod Needed
pub mod Lower
