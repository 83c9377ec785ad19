pub mod Expecting
pub mod FrameWords
pub mod FrameLines
pub mod FramesWritten
pub mod TalkedLines
pub mod Written
pub mod FullAnswerer
pub mod GivenLines
pub mod Led
pub mod LineEffects
mod LineOctets
mod ServedLines
pub mod OneLine
pub mod SentFrames
pub mod Stored
pub mod StoredLines
pub mod TakenLines
pub mod Turns
mod Words
