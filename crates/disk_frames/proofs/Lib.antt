pub mod AppendSteps
mod FrameLemmas
mod FrontLemmas
pub mod SalvageLemmas
mod StartSteps
mod TornLemmas
mod WalkLemmas
