-- The lemmas of `dial` and `answer`.
mod EndData
mod FolderBooks
mod FolderHeld
mod HeldBooks
mod FolderLemmas
mod FolderSaid
mod FromLemmas
mod HeardData
mod TalkLemmas
mod Sent
