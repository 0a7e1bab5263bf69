pub mod NarrowLemmas
mod KeptLemmas
mod MarkLemmas
mod TellLemmas
