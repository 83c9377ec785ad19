-- The definitions of logs of calls.
pub mod Logs
pub mod Told
pub mod RuleWords
pub mod Reports
