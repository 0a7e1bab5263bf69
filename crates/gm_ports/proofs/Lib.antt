pub mod MemDiskLemmas
pub mod MemFilesLemmas
pub mod MemFilesPort
pub mod Moments
pub mod ReadingLemmas
pub mod ToldLemmas
pub mod SureFilesLemmas
