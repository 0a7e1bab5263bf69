pub mod SizeLemmas
pub mod HeldLemmas
pub mod LevelLemmas
pub mod TreeLemmas
pub mod ShownLemmas
pub mod PackedLemmas
