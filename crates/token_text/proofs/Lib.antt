pub mod RunLemmas
pub mod NumberLemmas
pub mod LineLemmas
pub mod CursorLemmas
pub mod PassLemmas
pub mod NextLemmas
