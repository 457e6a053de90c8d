pub mod Journal
pub mod JournalLaws
pub mod MemDisk
pub mod MemLibrary
pub mod MemSink
pub mod MemSource
