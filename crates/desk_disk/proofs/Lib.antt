pub mod SystemLaws
mod Found
mod Failing
