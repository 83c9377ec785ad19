-- The definitions of `calls`.
pub mod Scripts
pub mod Transcripts
pub mod SentBits
pub mod Explained
pub mod CallRecords
pub mod Calls
pub mod ScriptsMean
pub mod OptionsMean
pub mod Losses
pub mod BadLines
pub mod Ends
