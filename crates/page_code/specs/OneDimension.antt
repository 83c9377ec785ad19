-- The one-dimensional code (ITU-T T.4, 4.1).
pub mod Pages
pub mod OwnRuns
pub mod Fronts
pub mod Laws
pub mod Reading
pub mod OpenRows
pub mod Repairs
pub mod Repairing
pub mod Kinds
pub mod KindLaws
pub mod LinesMean
pub mod WhiteRows
