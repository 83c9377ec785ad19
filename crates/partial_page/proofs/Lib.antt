pub mod BlockLemmas
pub mod NumberLemmas
pub mod StoreLemmas
pub mod WholeBlocks
