-- The definitions of the program.
pub mod Apart
pub mod Jobs
pub mod Ran
pub mod Table
