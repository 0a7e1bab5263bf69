pub mod FollowingLemmas
pub mod JudgingLemmas
pub mod SalvagingLemmas
mod HistoryLemmas
mod RoomLemmas
mod KeptLemmas
pub mod TracedLemmas
mod Orders
mod SameLemmas
mod StartLemmas
