-- The two-dimensional code (ITU-T T.6, 2.2).
pub mod Positions
pub mod Modes
pub mod PageEnds
pub mod Code
pub mod Fronts
pub mod ModeTable
pub mod Kinds
pub mod Laws
pub mod KindLaws
pub mod Changes
pub mod Writing
pub mod Reading
pub mod Lines
pub mod OpenLines
pub mod ByPlaces
pub mod Coding
