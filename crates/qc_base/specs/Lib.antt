pub mod LogLines
pub mod Messages
pub mod Moments
pub mod Names
pub mod Rows
pub mod Spelling
