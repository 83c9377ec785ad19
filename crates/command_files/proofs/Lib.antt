-- The lemmas of what commands share.
pub mod ApartLemmas
mod DocumentLemmas
mod FileRows
pub mod SystemTextLemmas
