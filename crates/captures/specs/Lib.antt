-- The definitions of `captures`.
pub mod Texts
pub mod Below
pub mod OtherWords
pub mod SignalWords
pub mod Names
pub mod Records
pub mod TraceRecords
pub mod Contents
pub mod Frames
pub mod Fronts
pub mod Captured
pub mod Found
pub mod PageNumbers
pub mod Missing
pub mod FoundRecords
pub mod CapturesMean
