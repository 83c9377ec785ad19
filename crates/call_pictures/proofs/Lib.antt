-- The lemmas of `call_pictures`.
mod Ladders
mod Pictures
mod Diagrams
mod CapturedCalls
