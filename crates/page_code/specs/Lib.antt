-- What the codes of pages are.
pub mod PageCodes
pub mod Codings
pub mod RowsSoFar
pub mod TurnedCodes
pub mod PageReaders
pub mod RowCoders
pub mod RowReaders
pub mod PassedRows
pub mod OneDimension
pub mod TwoDimensions
pub mod WorkedPages
