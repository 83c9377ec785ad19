-- The lemmas of the program.
mod CommandLemmas
mod JobLemmas
