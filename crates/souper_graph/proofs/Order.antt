-- The work stack visits the needed statements in printed order.
pub mod Firsts
pub mod Runs
pub mod Needed
pub mod Sorted
pub mod Stack
pub mod Loops
pub mod Marks
