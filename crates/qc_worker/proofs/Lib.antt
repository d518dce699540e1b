mod Written
pub mod Logged
pub mod Reading
