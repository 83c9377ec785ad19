-- The lemmas of `call_logs`.
pub mod Splitting
pub mod Words
pub mod Frames
pub mod Reversed
pub mod AllFound
pub mod WholeRecords
