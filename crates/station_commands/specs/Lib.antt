-- The definitions of `dial` and `answer`.
pub mod CallNotes
pub mod CallRows
pub mod EndRecords
pub mod Files
pub mod FolderBooks
pub mod Folders
pub mod Following
pub mod HeldBooks
pub mod Lateness
pub mod NoLines
pub mod Sent
pub mod Stations
pub mod Talks
