pub mod Fits
pub mod Recording
pub mod Answers
