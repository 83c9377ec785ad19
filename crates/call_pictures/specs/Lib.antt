-- The definitions of `call_pictures`.
pub mod DrawnFields
pub mod Ladders
pub mod Pictures
pub mod Diagrams
pub mod CapturedCalls
pub mod PictureRows
