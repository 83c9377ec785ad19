-- The lemmas of the programs.
mod Rows
