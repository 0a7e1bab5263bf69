pub mod RecordLemmas
pub mod NodeLemmas
pub mod TableLemmas
pub mod ThirdLemmas
pub mod SetLemmas
