-- Lemmas of the codes of pages.
pub mod FrontEnds
pub mod OneDimension
pub mod GivesPage
pub mod TwoDimensions
pub mod CodingLaws
pub mod AppendedOctets
pub mod CodingPacked
pub mod PageReaders
pub mod PageReads
pub mod HandCoded
pub mod RowCoders
pub mod RowReaders
pub mod PassedEols
pub mod PassedRows
pub mod TurnedOctets
