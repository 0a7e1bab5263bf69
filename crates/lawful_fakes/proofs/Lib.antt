pub mod ScriptLemmas
pub mod TableLemmas
