-- The lemmas of `calls`.
mod ScriptLines
mod ScriptWords
mod FollowedScripts
mod OneScript
pub mod SentItems
mod CallEnds
mod CallSteps
pub mod EntryLines
mod LineFaults
mod ScriptsMean
mod OptionsMean
pub mod DrivenSteps
pub mod BadCallsEnd
mod DrivenCalls
mod Rates
mod CallRecords
mod Fates
