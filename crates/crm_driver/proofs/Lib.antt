pub mod PutLaws
pub mod Putting
pub mod Telling
mod Answering
mod Backwards
