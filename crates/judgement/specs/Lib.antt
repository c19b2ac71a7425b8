pub mod Entries
pub mod Judged
pub mod Bytes
pub mod EntryLaws
pub mod Memory
pub mod MemoryLaws
