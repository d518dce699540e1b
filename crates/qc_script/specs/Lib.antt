pub mod Lines
pub mod Naming
pub mod Reading
pub mod Scripts
pub mod Sums
pub mod Terms
pub mod Words
