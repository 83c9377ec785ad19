pub mod History
pub mod Questions
pub mod Frames
pub mod Rules
pub mod Rows
