-- The lemmas of `captures`.
mod SignalWords
pub mod RecordData
mod TurnedBits
pub mod Contents
mod Listing
mod MarkedFrames
mod HexText
mod CapturedSteps
mod LastFrames
mod Capturing
mod MissingPages
mod Following
mod Salvaging
mod CapturesMean
