-- The lemmas of `faults`.
pub mod OneLine
mod FaultKinds
pub mod FirstElements
