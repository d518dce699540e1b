pub mod Lengths
mod PartsFree
mod Refused
pub mod Journals
