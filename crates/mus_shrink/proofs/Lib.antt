pub mod AskedLemmas
pub mod CandidateLemmas
pub mod OrderLemmas
