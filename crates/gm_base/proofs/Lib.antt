pub mod SetLemmas
pub mod SatLemmas
pub mod IndexLemmas
pub mod Singles
pub mod TestLemmas
pub mod EvidenceLemmas
pub mod ExploredLemmas
pub mod HittingLemmas
