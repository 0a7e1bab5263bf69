pub mod BlockLemmas
pub mod TrueLemmas
pub mod MapLemmas
pub mod UnsettledLemmas
