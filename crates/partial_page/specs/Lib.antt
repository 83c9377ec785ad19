pub mod ByNumbers
pub mod Faults
pub mod Frames
pub mod Store
pub mod Assembling
