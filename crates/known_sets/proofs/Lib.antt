pub mod ArenaLemmas
pub mod MemoryLemmas
pub mod OracleLemmas
