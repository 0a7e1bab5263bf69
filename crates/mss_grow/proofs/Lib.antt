pub mod DescentLemmas
pub mod GrowthLemmas
