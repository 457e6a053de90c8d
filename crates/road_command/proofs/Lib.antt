pub mod SevenWords
pub mod ServeWords
