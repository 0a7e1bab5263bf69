pub mod TrailLemmas
pub mod PlaceLemmas
pub mod SlotLemmas
pub mod ValueLemmas
pub mod OrderLemmas
pub mod HeapLemmas
pub mod WaitLemmas
pub mod SetLemmas
