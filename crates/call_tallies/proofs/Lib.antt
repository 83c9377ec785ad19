-- The lemmas of `call_tallies`.
mod LineTimes
mod CallerPhases
mod FewTries
mod CountedSteps
mod Shares
mod ManyCalls
mod FewBorne
