-- The definitions of `faults`.
pub mod RecordLines
pub mod Faults
pub mod FaultKinds
pub mod Explanations
pub mod FaultRecords
pub mod KindsMean
pub mod ExplanationRows
