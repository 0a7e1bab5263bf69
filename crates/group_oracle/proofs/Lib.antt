pub mod GroupLemmas
pub mod SelectorLemmas
pub mod LateLemmas
pub mod WitnessLemmas
pub mod RefutedLemmas
pub mod OracleLemmas
