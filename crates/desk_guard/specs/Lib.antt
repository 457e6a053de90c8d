pub mod Doubts
pub mod Asking
pub mod Beginning
pub mod Files
