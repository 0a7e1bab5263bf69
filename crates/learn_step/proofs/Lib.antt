pub mod Backward
pub mod PlaceLemmas
pub mod AnalysisLemmas
pub mod CoreLemmas
pub mod LearntLemmas
pub mod PendingLemmas
pub mod RedundancyLemmas
