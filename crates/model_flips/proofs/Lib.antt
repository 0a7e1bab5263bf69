pub mod AscentLemmas
pub mod RepairLemmas
pub mod RotationLemmas
