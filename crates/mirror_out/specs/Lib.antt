pub mod FileMirror
pub mod Gone
pub mod MemMirror
pub mod Mirrors
pub mod Promises
pub mod Spreader
