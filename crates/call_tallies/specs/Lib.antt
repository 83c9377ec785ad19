-- The definitions of `call_tallies`.
pub mod LineTimes
pub mod Totals
pub mod Seconds
pub mod FewTries
pub mod ManyCalls
pub mod TriesCounted
pub mod TallyRows
