mod Conditions
mod Doubling
mod NameLists
mod Reports
pub mod RoundTrips
mod Sums
mod Terms
mod Wrapping
